-- What the greatest byte of a part says of the fields in it: it is 0 exactly if the part has no other byte.
--   plain_zero, plain_is: the test of one field
--   lengths_left, texts_left, empty_are: the test that fields are empty
use Prim.Native.Nat.{ℕ, ◌+◌, ◌*◌, ◌-◌, ◌≤◌, ◌<◌}
use mathlib.Core.Path.{◌≡◌}
use mathlib.Core.Bool.{Bool}
use mathlib.Core.List.{List}
use native.Mathlib.Omega.{arith}
use lib.ListN.{length, get_or}
use Rattle.buffers.specs.Stored.{Decides, Greatest}
use Rattle.entry_form.specs.EntryForm.{field_limit, text_limit, lengths_at, texts_at, form_bytes, length_of, entry_byte, text_of}
use Rattle.entry_form.specs.ValidForm.{Plain, Empty, NoKeys}
use Rattle.entry_form.proofs.Texts.{text_length, text_byte_lem}
use Rattle.entry_form.proofs.FormPlaces.{Place, counts, closes, measures, spells, place}

-- a byte in the part of a field's text is one of that text
at_text : (P : ℕ → Type 0) (form : List ℕ) (f i : ℕ) → texts_at + f * text_limit ≤ i → P (entry_byte form f (i - (texts_at + f * text_limit))) → P (get_or form i 0)
at_text P form f i h p = let e : texts_at + f * text_limit + (i - (texts_at + f * text_limit)) ≡ i = omega arith in rw e at p

module _ (form : List ℕ) (f : ℕ) where
  -- ---- one field

  abbrev start : ℕ
  start = texts_at + f * text_limit

  -- a field with other bytes than zero after its text
  pub plain_zero : {r : ℕ} → Greatest form (start + length_of form f) (start + text_limit) r → (r ≡ 0 → ⊥) → Plain form f → ⊥
  plain_zero g h p = omega (arith, g.least 0 (λ i k l. at_text (λ x. x ≤ 0) form f i (omega arith) (omega (arith, p.zero (i - start) (omega arith) (omega arith)))))

  -- a field with zeros there is as the test for keys says
  pub plain_is : {r : ℕ} {d : Bool} → form_bytes ≤ length form → f < field_limit → length_of form f ≤ text_limit
      → Greatest form (start + length_of form f) (start + text_limit) r → r ≡ 0 → Decides d (NoKeys (text_of form f) (length (text_of form f))) → Decides d (Plain form f)
  plain_is l h s g z d = record {
    yes = λ e. record {
      short = s;
      literal = λ i k. rw (text_byte_lem form f i k) at (d.yes e i (omega (arith, size)));
      zero = λ i k m. omega (arith, g.above (start + i) (omega arith) (omega arith));
    };
    no = λ e p. d.no e (λ i k. let m : i < length_of form f = omega (arith, size) in rw (text_byte_lem form f i m) (p.literal i m));
  }
    where
      size : length (text_of form f) ≡ length_of form f
      size = text_length form f l h s

  -- ---- the fields from one on

  abbrev AllEmpty : Type 0
  AllEmpty = (g : ℕ) → g < field_limit → f ≤ g → Empty form g

  -- a length that is not 0
  pub lengths_left : {r : ℕ} → Greatest form (lengths_at + f) texts_at r → (r ≡ 0 → ⊥) → AllEmpty → ⊥
  lengths_left g h a = omega (
    arith,
    g.least 0 (λ i k l. let e : lengths_at + (i - lengths_at) ≡ i = omega arith in
        rw e at (let z : length_of form (i - lengths_at) ≤ 0 = omega (arith, (a (i - lengths_at) (omega arith) (omega arith)).none) in z)),
  )

  -- a byte of a text that is not 0
  pub texts_left : {r : ℕ} → Greatest form start form_bytes r → (r ≡ 0 → ⊥) → AllEmpty → ⊥
  texts_left g h a = h (omega (arith, g.least 0 (λ i k l. at (place i k) l)))
    where
      at : {i : ℕ} → Place i → start ≤ i → get_or form i 0 ≤ 0
      at counts l = absurd (omega arith)
      at closes l = absurd (omega arith)
      at (measures g k) l = absurd (omega arith)
      at (spells g j k m) l = omega (arith, (a g k (omega arith)).zero j m)

  -- none of either
  pub empty_are : {r q : ℕ} → Greatest form (lengths_at + f) texts_at r → r ≡ 0 → Greatest form start form_bytes q → q ≡ 0 → AllEmpty
  empty_are u r v q g h k = record {
    none = omega (arith, u.above (lengths_at + g) (omega arith) (omega arith));
    zero = λ i j. omega (arith, v.above (texts_at + g * text_limit + i) (omega arith) (omega arith));
  }
