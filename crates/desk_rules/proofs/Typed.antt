-- What a key does to an entry.
--   retyped_here, retyped_there, either: the texts of an entry with another text in its open field
--   retyped_same: its own text is no other
--   back_empty: 0x08 does nothing on an empty field
--   refused_same: a key that is refused does nothing
use Prim.Native.Nat.{ℕ, ◌-◌}
use mathlib.Core.Path.{◌≡◌, refl, ap, ◌∙◌, fun_ext}
use mathlib.Core.Bool.{Bool, true, false, cond}
use mathlib.Core.List.{List, []}
use native.Mathlib.Decide.{ℕ_discrete}
use borrow.Author.Tests.{ne_eqb}
use lib.Dec.{eqb}
use lib.ListN.{length, take}
use Rattle.scope.specs.Answers.{DONE}
use Rattle.scope.proofs.Counting.Tests.{equals}
use Rattle.entry_form.specs.Text.{BACK}
use Rattle.desk_rules.specs.Entry.{Entry, open_text, retyped, typed}
use Rattle.desk_rules.specs.Key.{entry_after}

-- equal numbers
eqb_same : (a : ℕ) → eqb a a ≡ true
eqb_same a = (equals a a).full refl

-- the open field has that text
pub retyped_here : (e : Entry) (t : List ℕ) → (retyped e t).text e.closed ≡ t
retyped_here e t = rw (eqb_same e.closed)

-- the others have what they had
pub retyped_there : (e : Entry) (t : List ℕ) (f : ℕ) → (f ≡ e.closed → ⊥) → (retyped e t).text f ≡ e.text f
retyped_there e t f n = rw (ne_eqb f e.closed n)

-- what holds of both texts holds of the one that a field has
pub either : (P : List ℕ → Type 0) (b : Bool) (s t : List ℕ) → P s → P t → P (cond b s t)
either P true s t g h = g
either P false s t g h = h

-- with the text that it had the entry is as it was
retyped_same : (e : Entry) → retyped e (open_text e) ≡ e
retyped_same e = λ i. record { closed = e.closed; text = fun_ext same i }
  where
    same : (f : ℕ) → (retyped e (open_text e)).text f ≡ e.text f
    same f = elim (ℕ_discrete f e.closed) [ yes x ↦ rw x (retyped_here e (open_text e)) | no x ↦ retyped_there e (open_text e) f x ]

-- "0x08 takes back the last byte and does nothing on an empty field"
pub back_empty : (e : Entry) → open_text e ≡ [] → typed e BACK ≡ e
back_empty e h = let none : take (length (open_text e) - 1) (open_text e) ≡ open_text e = rw h refl in ap (retyped e) none ∙ retyped_same e

-- "A byte that would make the field Dead is refused, never corrected."
pub refused_same : (e : Entry) (key number : ℕ) → (number ≡ DONE → ⊥) → entry_after e key number ≡ e
refused_same e key number n = rw (ne_eqb number DONE n)
