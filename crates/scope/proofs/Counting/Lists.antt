-- Lists that are read with a default, and lists of what a function gives.
--   any_default: inside of a list what is read past its end does not matter
--   zeros: a list of zeros has 0 everywhere
--   listed_length, listed_at: the elements of a listing
use Prim.Native.Nat.{ℕ, zero, suc, ◌<◌}
use mathlib.Core.Path.{◌≡◌, refl, ◌∙◌}
use mathlib.Core.List.{List, ◌∷◌, []}
use mathlib.Core.Logic.{inl, inr}
use native.Mathlib.Nat.{not-suc-le-zero, le_of_suc-le-suc}
use native.Mathlib.Omega.{arith}
use lib.ListN.{length, get_or, replicate, length-append, get_or-append}
use lib.Seq.{get_or_at}
use Rattle.scope.specs.Bytes.{listed}
use Rattle.scope.proofs.Counting.Tests.{split}

-- inside of a list what is read past its end does not matter
pub any_default : (s : List ℕ) (i d e : ℕ) → i < length s → get_or s i d ≡ get_or s i e
any_default [] i d e h = absurd (not-suc-le-zero h)
any_default (x ∷ s) zero d e h = refl
any_default (x ∷ s) (suc i) d e h = any_default s i d e (le_of_suc-le-suc h)

-- a list of zeros has 0 everywhere
pub zeros : (n i : ℕ) → ◌≡◌ {A = ℕ} (get_or (replicate n 0) i 0) 0
zeros zero i = refl
zeros (suc n) zero = refl
zeros (suc n) (suc i) = zeros n i

-- a listing has as many elements as were asked for
pub listed_length : (f : ℕ → ℕ) (n : ℕ) → length (listed f n) ≡ n
unfolding listed
listed_length f zero = refl
listed_length f (suc n) = length-append (listed f n) (f n ∷ []) ∙ omega (arith, listed_length f n)

-- and each is what was listed
pub listed_at : (f : ℕ → ℕ) (n i : ℕ) → i < n → get_or (listed f n) i 0 ≡ f i
unfolding listed
listed_at f (suc n) i h = elim (split i n) [
  | inl k ↦ get_or-append (listed f n) (f n ∷ []) 0 i (omega (arith, listed_length f n)) ∙ listed_at f n i k
  | inr k ↦ let e : i ≡ n = omega arith in rw e (get_or_at (listed f n) (f n) [] 0 n (listed_length f n))
]
listed_at f zero i h = elim h [ ]
