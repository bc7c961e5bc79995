-- A text that loses its last byte, or gets one more: one byte of the text and its length are stored.
--   retyped_last: the last byte is taken out
--   retyped_more: a byte is put after the text
use Prim.Native.Nat.{ℕ, ◌+◌, ◌*◌, ◌-◌, ◌≤◌, ◌<◌}
use mathlib.Core.Path.{◌≡◌, sym, ◌∙◌}
use mathlib.Core.Logic.{⊎_elim}
use mathlib.Core.List.{List, [], ◌∷◌, ◌++◌}
use native.Mathlib.Omega.{arith}
use native.Mathlib.Decide.{ℕ_discrete}
use lib.ListN.{length, get_or, set, take, length-set, length-take, length-append, get_or-eq_default, get_or-append}
use lib.Seq.{get_or-set_same, get_or-set_other, get_or-take, get_or-append_seam}
use Rattle.scope.proofs.Counting.Tests.{split}
use Rattle.entry_form.specs.EntryForm.{field_limit, text_limit, lengths_at, texts_at, form_bytes, length_of, entry_byte, text_of}
use Rattle.entry_form.specs.ValidForm.{Plain}
use Rattle.entry_form.proofs.Texts.{text_length, text_byte_lem}
use Rattle.retyping.specs.Retype.{Retyped}

module _ {form : List ℕ} {f : ℕ} (h : f < field_limit) (l : form_bytes ≤ length form) where
  -- the byte i of the text is v, the others are those of the form, and there are n
  stored : (i v n : ℕ) (t : List ℕ) → i < text_limit → n ≡ length t → v ≡ get_or t i 0 → ((j : ℕ) → j < text_limit → (j ≡ i → ⊥) → entry_byte form f j ≡ get_or t j 0)
      → Retyped form (set (set form (texts_at + f * text_limit + i) v) (lengths_at + f) n) f t
  stored i v n t k e b o = record {
    size = length-set (set form at v) (lengths_at + f) n ∙ length-set form at v;
    long = get_or-set_same (set form at v) (lengths_at + f) n 0 (omega (arith, length-set form at v)) ∙ e;
    bytes = λ j m. get_or-set_other (set form at v) (lengths_at + f) (texts_at + f * text_limit + j) n 0 (λ x. omega arith) ∙ elim (ℕ_discrete j i) [
      | yes x ↦ rw x (get_or-set_same form at v 0 (omega arith) ∙ b)
      | no x ↦ get_or-set_other form at (texts_at + f * text_limit + j) v 0 (λ y. x (omega arith)) ∙ o j m x
    ];
    outside = λ j x y. get_or-set_other (set form at v) (lengths_at + f) j n 0 (λ z. x z) ∙ get_or-set_other form at j v 0 (λ z. ⊎_elim (λ w. omega arith) (λ w. omega arith) y);
  }
    where
      at : ℕ
      at = texts_at + f * text_limit + i

  module _ (p : Plain form f) where
    -- the text is as long as the form says
    size : length (text_of form f) ≡ length_of form f
    size = text_length form f l h p.short

    -- the last byte is taken out
    pub retyped_last : 0 < length_of form f → Retyped form (set (set form (texts_at + f * text_limit + (length_of form f - 1)) 0) (lengths_at + f) (length_of form f - 1)) f (take (length_of form f - 1) (text_of form f))
    retyped_last k = stored (length_of form f - 1) 0 (length_of form f - 1) t (omega (arith, p.short)) (sym long) (sym (over (length_of form f - 1) (omega arith)))
        (λ j m n. ⊎_elim (λ x. sym (text_byte_lem form f j (omega arith)) ∙ sym (get_or-take (length_of form f - 1) (text_of form f) j 0 x)) (λ x. p.zero j m (omega arith) ∙ sym (over j x)) (split j (length_of form f - 1)))
      where
        t : List ℕ
        t = take (length_of form f - 1) (text_of form f)

        long : length t ≡ length_of form f - 1
        long = omega (arith, length-take (length_of form f - 1) (text_of form f), size)

        over : (j : ℕ) → length_of form f - 1 ≤ j → get_or t j 0 ≡ 0
        over j x = get_or-eq_default t 0 (omega (arith, long))

    -- a byte is put after the text
    pub retyped_more : (key : ℕ) → length_of form f < text_limit → Retyped form (set (set form (texts_at + f * text_limit + length_of form f) key) (lengths_at + f) (length_of form f + 1)) f (text_of form f ++ (key ∷ []))
    retyped_more key k = stored (length_of form f) key (length_of form f + 1) t k (omega (arith, long)) (sym (rw size at (get_or-append_seam (text_of form f) key [] 0)))
        (λ j m n. ⊎_elim (λ x. sym (text_byte_lem form f j x) ∙ sym (get_or-append (text_of form f) (key ∷ []) 0 j (omega (arith, size))))
        (λ x. p.zero j m x ∙ sym (get_or-eq_default t 0 (omega (arith, long)))) (split j (length_of form f)))
      where
        t : List ℕ
        t = text_of form f ++ (key ∷ [])

        long : length t ≡ length_of form f + 1
        long = omega (arith, length-append (text_of form f) (key ∷ []), size)
