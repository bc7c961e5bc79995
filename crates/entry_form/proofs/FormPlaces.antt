-- The places of a form: each of its bytes is the count, the number of closed fields, a length or a byte of a text; which text, by division with remainder.
--   Place i: what a form has at the place i: the count, the number closed, the length of a field's text, or a byte of it
--   place: each place of a form is one of these
use Prim.Native.Nat.{ℕ, ◌+◌, ◌*◌, ◌-◌, ◌/◌, ◌%◌, ◌<◌}
use mathlib.Core.Path.{◌≡◌}
use mathlib.Core.Logic.{inl, inr}
use native.Mathlib.Nat.{mod-lt, div-add-mod'}
use native.Mathlib.Omega.{arith}
use lib.Dec.{lit<}
use Rattle.scope.proofs.Counting.Tests.{split}
use Rattle.entry_form.specs.EntryForm.{field_limit, text_limit, lengths_at, texts_at, form_bytes}

-- what stands at a place
pub data Place : ℕ → Type 0 where
  counts : Place 0
  closes : Place 1
  measures : (f : ℕ) → f < field_limit → Place (lengths_at + f)
  spells : (f j : ℕ) → f < field_limit → j < text_limit → Place (texts_at + f * text_limit + j)

-- each place of a form
pub place : (i : ℕ) → i < form_bytes → Place i
place i h = elim (split i 1) [
  | inl a ↦ let e : i ≡ 0 = omega arith in rw e counts
  | inr a ↦ elim (split i lengths_at) [
    | inl b ↦ let e : i ≡ 1 = omega arith in rw e closes
    | inr b ↦ elim (split i texts_at) [
      | inl c ↦ let e : lengths_at + (i - lengths_at) ≡ i = omega arith in rw e at (measures (i - lengths_at) (omega arith))
      | inr c ↦ text (i - texts_at) (omega arith) (omega arith)
    ]
  ]
]
  where
    text : (k : ℕ) → texts_at + k ≡ i → k < field_limit * text_limit → Place i
    text k e l =
        let z : k / text_limit * text_limit + k % text_limit ≡ k = div-add-mod' k text_limit in
        let m : k % text_limit < text_limit = mod-lt k (lit< tt) in
        let p : texts_at + k / text_limit * text_limit + k % text_limit ≡ i = omega arith in
        rw p at (spells (k / text_limit) (k % text_limit) (omega arith) m)
