-- The leaves of a text from left to right. The byte at a place, and the one after a backslash, tell what stands there.
--   frame_told, blank_byte, other_byte: what the tests say of a byte of the frame, and of one after a backslash
--   Passed s i r: whatever leaves there are from i on, they are there from r on
--   passed_none, passed_frame, passed_blank: nothing is passed yet; a byte of the frame; a blank atom
--   leaf_here, leaf_none: a leaf begins here; the text is over
use Prim.Native.Nat.{ℕ, ◌+◌, ◌<◌, ◌≤◌}
use Prim.Native.Char.{code}
use mathlib.Core.Path.{◌≡◌, refl, sym, ap, ◌∙◌}
use mathlib.Core.Bool.{Bool, true, false, false≢true}
use mathlib.Core.List.{List}
use mathlib.Core.Logic.{◌⊎◌, inl, inr}
use native.Mathlib.Decide.{ℕ_discrete}
use native.Mathlib.Omega.{arith}
use borrow.Author.Tests.{ne_eqb}
use lib.ListN.{length, get_or-eq_default}
use Rattle.scope.specs.Bytes.{byte}
use Rattle.scope.specs.Limits.{byte_values}
use Rattle.scope.specs.Text.Grammar.{literal, escapable, is_mark, Single, a_dot, a_literal, an_escape, a_class}
use Rattle.scope.specs.Text.Tree.{Leaf}
use Rattle.scope.proofs.Counting.Tests.{or, equals}
use Rattle.scope.proofs.Text.Grammar.{other, escape_head, single_on, single_back}
use Rattle.scope.proofs.Text.Marks.{mark_other}
use Rattle.leaves.specs.ReadAt.{Backslash}
use Rattle.leaves.proofs.ByteByByte.{single_in}
use Rattle.byte_sets.specs.LeavesOf.{is_frame, is_blank, LeavesFrom, over, frame, blank, leaf, LeafAt, none_left, here, NextLeaf}

pub record Passed (s : List ℕ) (i r : ℕ) : Type 0 where
  pub on : i ≤ r
  pub says : (l : List Leaf) → LeavesFrom s i l → LeavesFrom s r l

-- ---- what stands at a place

-- what the test says of the byte that it is made on
pub frame_told : {b c : ℕ} {r v : Bool} → b ≡ c → r ≡ is_frame b → r ≡ v → is_frame c ≡ v
frame_told p q h = ap is_frame (sym p) ∙ sym q ∙ h

-- a byte that makes a blank atom after a backslash, and any other
pub blank_byte : {b : ℕ} → (b ≡ code "0") ⊎ (b ≡ code "e") → is_blank b ≡ true
unfolding is_blank
blank_byte (inl e) = rw e refl
blank_byte (inr e) = rw e refl

pub other_byte : {b : ℕ} → ((b ≡ code "0") ⊎ (b ≡ code "e") → ⊥) → is_blank b ≡ false
unfolding is_blank
other_byte f = rw (ne_eqb _ (code "e") (λ e. f (inr e)), ne_eqb _ (code "0") (λ e. f (inl e))) refl

-- a literal is no byte of the frame
literal_frame : (b : ℕ) → literal b ≡ true → is_frame b ≡ false
unfolding literal is_frame
literal_frame b h = rw (mark_other literal h refl refl refl, ne_eqb b (code "(") (other literal h refl), ne_eqb b (code ")") (other literal h refl), ne_eqb b (code "|") (other literal h refl)) refl

module _ {s : List ℕ} where
  -- nor does any leaf begin with one
  single_frame : {i j : ℕ} {x : Leaf} → Single s i j x → is_frame (byte s i) ≡ false
  unfolding is_frame is_mark
  single_frame (a_dot h) = rw h refl
  single_frame (a_literal h) = literal_frame _ h
  single_frame (an_escape x) = rw (escape_head x) refl
  single_frame (a_class h l k) = rw h refl

  -- after its backslash a leaf has no byte of a blank atom
  single_blank : {i j : ℕ} {x : Leaf} → Single s i j x → byte s i ≡ code "\\" → is_blank (byte s (i + 1)) ≡ true → ⊥
  unfolding escapable is_blank
  single_blank {i} x h e =
      elim ((or (equals (byte s (i + 1)) (code "e")) (equals (byte s (i + 1)) (code "0"))).sound e) [
        | inl z ↦ single_back x h (code "e") (sym z) refl (λ y. omega arith)
        | inr z ↦ single_back x h (code "0") (sym z) refl (λ y. omega arith)
      ]

  -- the byte that was read after a backslash
  behind : {i b : ℕ} → Backslash s i b → is_blank b ≡ true → (byte s i ≡ code "\\") × (is_blank (byte s (i + 1)) ≡ true)
  unfolding is_blank
  behind {i} p e = elim (ℕ_discrete (byte s i) (code "\\")) [ yes h ↦ (h, ap is_blank (sym (p.yes h)) ∙ e) | no h ↦ absurd (other is_blank e refl (p.no h)) ]

  -- ---- one after the other

  frame_next : {i : ℕ} {l : List Leaf} → i < length s → is_frame (byte s i) ≡ true → LeavesFrom s i l → LeavesFrom s (i + 1) l
  unfolding is_frame is_mark
  frame_next n h over = absurd (omega arith)
  frame_next n h (frame k r) = r
  frame_next n h (blank k e r) = absurd (other is_frame h refl k)
  frame_next n h (leaf x r) = absurd (false≢true (sym (single_frame x) ∙ h))

  blank_next : {i : ℕ} {l : List Leaf} → i < length s → is_frame (byte s i) ≡ false → byte s i ≡ code "\\" → is_blank (byte s (i + 1)) ≡ true → LeavesFrom s i l → LeavesFrom s (i + 2) l
  blank_next n f h e over = absurd (omega arith)
  blank_next n f h e (frame k r) = absurd (false≢true (sym f ∙ k))
  blank_next n f h e (blank k d r) = r
  blank_next n f h e (leaf x r) = absurd (single_blank x h e)

  leaf_first : {i : ℕ} {l : List Leaf} → is_frame (byte s i) ≡ false → (byte s i ≡ code "\\" → is_blank (byte s (i + 1)) ≡ false) → LeavesFrom s i l → LeafAt s i l
  leaf_first f n over = none_left
  leaf_first f n (frame k r) = absurd (false≢true (sym f ∙ k))
  leaf_first f n (blank k d r) = absurd (false≢true (sym (n k) ∙ d))
  leaf_first f n (leaf x r) = here x r

  leaf_over : {i : ℕ} {l : List Leaf} → length s ≤ i → LeavesFrom s i l → LeafAt s (length s) l
  unfolding is_frame is_mark
  leaf_over n over = none_left
  leaf_over n (frame k r) = absurd (false≢true (sym (ap is_frame (get_or-eq_default s byte_values n)) ∙ k))
  leaf_over n (blank k d r) = absurd (omega (arith, get_or-eq_default s byte_values n))
  leaf_over n (leaf x r) = absurd (omega (arith, single_on x, single_in x))

  pub passed_none : (i : ℕ) → Passed s i i
  passed_none i = record { on = omega arith; says = λ l r. r }

  module _ {at i : ℕ} (p : Passed s at i) where
    pub passed_frame : i < length s → is_frame (byte s i) ≡ true → Passed s at (i + 1)
    passed_frame n h = record { on = omega arith; says = λ l r. frame_next n h (p.says l r) }

    pub passed_blank : {b : ℕ} → i < length s → is_frame (byte s i) ≡ false → Backslash s i b → is_blank b ≡ true → Passed s at (i + 2)
    passed_blank n f q e = let (h, d) = behind q e in record { on = omega arith; says = λ l r. blank_next n f h d (p.says l r) }

    pub leaf_here : {b : ℕ} → is_frame (byte s i) ≡ false → Backslash s i b → is_blank b ≡ false → NextLeaf s at i
    leaf_here f q e = λ l r. leaf_first f (λ h. ap is_blank (sym (q.yes h)) ∙ e) (p.says l r)

    pub leaf_none : length s ≤ i → NextLeaf s at (length s)
    leaf_none n = λ l r. leaf_over n (p.says l r)
