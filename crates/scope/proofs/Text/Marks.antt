-- The marks after a factor, by their bytes.
--   marks: the test for a mark has exactly the bytes of marks
--   mark_one: marks with the same byte are the same
--   unmarked: a byte that is no mark is that of none
--   each_mark: what holds of the three bytes holds of every mark
--   mark_other: a byte of a set that has none of the three is no mark
use Prim.Native.Nat.{ℕ}
use Prim.Native.Char.{code}
use mathlib.Core.Path.{◌≡◌, refl, sym, subst, ◌∙◌}
use mathlib.Core.Bool.{true, false, false≢true}
use mathlib.Core.Logic.{◌⊎◌, inl, inr}
use native.Mathlib.Omega.{arith}
use Rattle.scope.specs.Bytes.{ByteSet}
use Rattle.scope.specs.Tests.{Tests}
use Rattle.scope.specs.Text.Tree.{Mark, many, some, maybe}
use Rattle.scope.specs.Text.Grammar.{is_mark, mark_byte}
use Rattle.scope.proofs.Counting.Tests.{which, never, or, amounts, equals}

pub marks : (b : ℕ) → Tests (is_mark b) ((m : Mark) × (b ≡ mark_byte m))
unfolding is_mark
marks b = amounts (or (equals b (code "*")) (or (equals b (code "+")) (or (equals b (code "?")) (never (λ (x : ⊥). x))))) up down
  where
    up : (code "*" ≡ b) ⊎ ((code "+" ≡ b) ⊎ ((code "?" ≡ b) ⊎ ⊥)) → (m : Mark) × (b ≡ mark_byte m)
    up (inl e) = (many, sym e)
    up (inr (inl e)) = (some, sym e)
    up (inr (inr (inl e))) = (maybe, sym e)
    up (inr (inr (inr x3))) = elim x3 [ ]

    down : (m : Mark) × (b ≡ mark_byte m) → (code "*" ≡ b) ⊎ ((code "+" ≡ b) ⊎ ((code "?" ≡ b) ⊎ ⊥))
    down (many, e) = inl (sym e)
    down (some, e) = inr (inl (sym e))
    down (maybe, e) = inr (inr (inl (sym e)))

pub mark_one : (m n : Mark) → mark_byte m ≡ mark_byte n → m ≡ n
mark_one many many e = refl
mark_one many some e = absurd (omega arith)
mark_one many maybe e = absurd (omega arith)
mark_one some many e = absurd (omega arith)
mark_one some some e = refl
mark_one some maybe e = absurd (omega arith)
mark_one maybe many e = absurd (omega arith)
mark_one maybe some e = absurd (omega arith)
mark_one maybe maybe e = refl

pub unmarked : {b : ℕ} (m : Mark) → b ≡ mark_byte m → is_mark b ≡ false → ⊥
unmarked {b} m e h = false≢true (sym h ∙ (marks b).full (m, e))

pub each_mark : {b : ℕ} (P : ℕ → Type 0) → P (code "*") → P (code "+") → P (code "?") → is_mark b ≡ true → P b
each_mark {b} P x y z h = at ((marks b).sound h)
  where
    at : (m : Mark) × (b ≡ mark_byte m) → P b
    at (many, e) = subst P (sym e) x
    at (some, e) = subst P (sym e) y
    at (maybe, e) = subst P (sym e) z

pub mark_other : (f : ByteSet) {b : ℕ} → f b ≡ true → f (code "*") ≡ false → f (code "+") ≡ false → f (code "?") ≡ false → is_mark b ≡ false
mark_other f {b} h x y z = elim (which (is_mark b)) [ inl t ↦ absurd (false≢true (sym (each_mark (λ c. f c ≡ false) x y z t) ∙ h)) | inr t ↦ t ]
