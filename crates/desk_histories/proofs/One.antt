-- What a form determines. A text is its length and its bytes, so a form shows one entry; and the count and the entry fix each place of the form.
--   SameEntry e e': as many fields are closed, and the fields of a form have the same texts; agree_self
--   entry_one: the entries that one form shows agree
--   shows_moved: a form shows each entry that agrees with one that it shows
--   shown_one: of forms of one old form, two that show entries which agree are equal
use Prim.Native.Nat.{ℕ, ◌≤◌, ◌<◌}
use mathlib.Core.Path.{◌≡◌, refl, sym, ap, ◌∙◌}
use mathlib.Core.List.{List}
use native.Mathlib.Omega.{arith}
use lib.ListN.{length, get_or}
use lib.Seq.{ext_get_or}
use Rattle.scope.specs.Operations.Buffers.{TailKept}
use Rattle.scope.proofs.Operations.Buffers.{tail_one}
use Rattle.entry_form.specs.EntryForm.{field_limit, text_limit, form_bytes}
use Rattle.entry_form.proofs.FormPlaces.{Place, counts, closes, measures, spells, place}
use Rattle.desk_rules.specs.Entry.{Entry}
use Rattle.desk_rules.specs.Show.{Shows}

-- two entries that no form tells apart
pub record SameEntry (e e' : Entry) : Type 0 where
  pub closed : e.closed ≡ e'.closed
  pub texts : (f : ℕ) → f < field_limit → e.text f ≡ e'.text f

-- an entry and itself
pub agree_self : (e : Entry) → SameEntry e e
agree_self e = record { closed = refl; texts = λ f h. refl }

-- a form shows one entry
pub entry_one : {n n' : ℕ} {e e' : Entry} {form : List ℕ} → ((f : ℕ) → length (e.text f) ≤ text_limit) → Shows n e form → Shows n' e' form → SameEntry e e'
entry_one {e} {e'} short s t = record {
  closed = sym s.closed ∙ t.closed;
  texts = λ f h.
      ext_get_or 0 (e.text f) (e'.text f) (sym (s.lengths f h) ∙ t.lengths f h)
      (λ i k. let l : i < text_limit = omega (arith, short f) in sym (s.bytes f i h l) ∙ t.bytes f i h l);
}

-- an entry may be put for one that agrees with it
pub shows_moved : {n : ℕ} {e e' : Entry} {form : List ℕ} → SameEntry e e' → Shows n e form → Shows n e' form
shows_moved a s = record {
  count = s.count;
  closed = s.closed ∙ a.closed;
  lengths = λ f h. s.lengths f h ∙ ap length (a.texts f h);
  bytes = λ f i h k. s.bytes f i h k ∙ ap (λ (t : List ℕ). get_or t i 0) (a.texts f h);
}

-- an entry has one form
pub shown_one : {n : ℕ} {e e' : Entry} {old a b : List ℕ} → SameEntry e e' → Shows n e a → TailKept form_bytes old a → Shows n e' b → TailKept form_bytes old b → a ≡ b
shown_one {n} {e} {e'} {old} {a} {b} g s u t v = tail_one u v (λ i h. at (shows_moved g s) (place i h))
  where
    at : Shows n e' a → {i : ℕ} → Place i → get_or a i 0 ≡ get_or b i 0
    at r counts = r.count ∙ sym t.count
    at r closes = r.closed ∙ sym t.closed
    at r (measures f h) = r.lengths f h ∙ sym (t.lengths f h)
    at r (spells f j h k) = r.bytes f j h k ∙ sym (t.bytes f j h k)
