-- The numbers of `Bits` have the bits that the predicates of `Sets` say: one law for each of the five. A union is `or`, `given` is `and`.
--   has_or, has_half, has_pow, has_zero, has_ones, has_given: the bits of a union, of a half, of a power of 2, of 0, of ones alone, of what is given or not
--   has_shr, trailing_none, trailing_one, has_small: the bits after a shift; the lowest bit that is 1; none is beyond the length
--   null_is, first_is, last_is, follow_is, holders_is: what each number decides
use mathlib.Core.Path.{◌≡◌, refl, sym, ap, ◌∙◌}
use mathlib.Core.Bool.{Bool, true, false, ◌&&◌, ◌||◌, false≢true}
use mathlib.Core.Logic.{◌⊎◌, inl, inr}
use Prim.Native.Nat.{ℕ, zero, suc, ◌+◌, ◌-◌, ◌/◌, ◌%◌, ◌^◌, ◌<◌}
use native.Mathlib.Nat.{div-one, pow-suc, pow-succ', div-div-eq-div-mul, mul-div_cancel, mul-mod_left, div-eq_of_lt, mod-lt, lt_of_lt_of_le}
use native.Mathlib.Omega.{arith}
use borrow.Author.Tests.{eq-eqb}
use lib.Dec.{eqb, eqb-suc-suc, eqb-zero-suc, eqb-suc-zero, lit<}
use lib.Pow.{pow-lt, pow_pos, pow_mono, shr-shr}
use lib.Bits.{bit_or, or_shr, or_mod}
use lib.Count.{count_trailing_zeros}
use Rattle.scope.specs.Text.Re.{Re, none, eps, one, alt, cat, star, plus, size}
use Rattle.scope.specs.Positions.Sets.{Null, First, Last, Follow, At}
use Rattle.scope.specs.Positions.Bits.{has, given, null, first, last, follow, holders}
use Rattle.scope.specs.Tests.{Tests}
use Rattle.scope.proofs.Counting.Tests.{split, never, always, or, and, amounts, itself, equals}

-- ---- bits

pub digit : (a : ℕ) → (a % 2 ≡ 0) ⊎ (a % 2 ≡ 1)
digit a = go (a % 2) (mod-lt a (lit< tt))
  where
    go : (d : ℕ) → d < 2 → (d ≡ 0) ⊎ (d ≡ 1)
    go zero h = inl refl
    go (suc zero) h = inr refl
    go (suc (suc d)) h = absurd (omega arith)

or_digit : (a b : ℕ) → eqb (bit_or a b % 2) 1 ≡ (eqb (a % 2) 1 || eqb (b % 2) 1)
or_digit a b = ap (λ (n : ℕ). eqb n 1) (or_mod a b 1) ∙ go (digit a) (digit b)
  where
    go : (a % 2 ≡ 0) ⊎ (a % 2 ≡ 1) → (b % 2 ≡ 0) ⊎ (b % 2 ≡ 1) → eqb (bit_or (a % 2) (b % 2)) 1 ≡ (eqb (a % 2) 1 || eqb (b % 2) 1)
    go (inl u) (inl v) = rw (u, v)
    go (inl u) (inr v) = rw (u, v)
    go (inr u) (inl v) = rw (u, v)
    go (inr u) (inr v) = rw (u, v)

pub has_or : (a b k : ℕ) → has (bit_or a b) k ≡ (has a k || has b k)
has_or a b k = ap (λ (n : ℕ). eqb (n % 2) 1) (or_shr a b k) ∙ or_digit (a / 2 ^ k) (b / 2 ^ k)

pub has_half : (n k : ℕ) → has n (suc k) ≡ has (n / 2) k
has_half n k = ap (λ (m : ℕ). eqb (n / m % 2) 1) (pow-succ' 2 k) ∙ ap (λ (m : ℕ). eqb (m % 2) 1) (sym (div-div-eq-div-mul n 2 (2 ^ k)))

pub has_pow : (p k : ℕ) → has (2 ^ p) k ≡ eqb p k
has_pow zero zero = refl
has_pow zero (suc k) = ap (λ (m : ℕ). eqb (m % 2) 1) (div-eq_of_lt (pow-lt {i = 0} {j = suc k} (omega arith))) ∙ sym (eqb-zero-suc k)
has_pow (suc p) zero = ap (λ (m : ℕ). eqb (m / 1 % 2) 1) (pow-suc 2 p) ∙ simp (div-one, mul-mod_left, eqb-suc-zero)
has_pow (suc p) (suc k) = has_half (2 ^ suc p) k ∙ ap (λ (m : ℕ). has (m / 2) k) (pow-suc 2 p) ∙ ap (λ (m : ℕ). has m k) (mul-div_cancel (2 ^ p) (lit< tt)) ∙ has_pow p k ∙ sym (eqb-suc-suc p k)

pub has_zero : (k : ℕ) → has 0 k ≡ false
has_zero zero = refl
has_zero (suc k) = has_half 0 k ∙ has_zero k

-- the number whose lowest n bits are 1
pub has_ones : (n k : ℕ) → k < n → has (2 ^ n - 1) k ≡ true
has_ones zero k h = absurd (omega arith)
has_ones (suc n) zero h = eq-eqb ((2 ^ suc n - 1) / 1 % 2) 1 (omega (arith, pow-suc 2 n, pow_pos n))
has_ones (suc n) (suc k) h =
    let half : (2 ^ suc n - 1) / 2 ≡ 2 ^ n - 1 = omega (arith, pow-suc 2 n, pow_pos n) in
    has_half (2 ^ suc n - 1) k ∙ ap (λ (m : ℕ). has m k) half ∙ has_ones n k (omega arith)

-- a number without its lowest j bits
pub has_shr : (n j k : ℕ) → has (n / 2 ^ j) k ≡ has n (j + k)
has_shr n j k = ap (λ (m : ℕ). eqb (m % 2) 1) (shr-shr n j k)

low : (n d : ℕ) → n % 2 ≡ d → has n 0 ≡ eqb d 1
low n d e = rw (div-one, e)

-- below the lowest bit that is 1
pub trailing_none : (k n j : ℕ) → j < count_trailing_zeros k n → has n j ≡ false
unfolding count_trailing_zeros
trailing_none zero n j h = absurd (omega arith)
trailing_none (suc k) n zero h = elim (digit n) [ inl e ↦ low n 0 e | inr e ↦ absurd (omega (arith, rw e at h)) ]
trailing_none (suc k) n (suc j) h = elim (digit n) [
  | inl e ↦ has_half n j ∙ trailing_none k (n / 2) j (omega (arith, rw e at h))
  | inr e ↦ absurd (omega (arith, rw e at h))
]

-- and that bit
pub trailing_one : (k n : ℕ) → 0 < n → n < 2 ^ k → has n (count_trailing_zeros k n) ≡ true
unfolding count_trailing_zeros
trailing_one zero n h l = absurd (omega arith)
trailing_one (suc k) n h l = elim (digit n) [
  | inl e ↦ (rw e (has_half n (count_trailing_zeros k (n / 2)) ∙ trailing_one k (n / 2) (omega arith) (omega (arith, pow-suc 2 k))))
  | inr e ↦ (rw e (low n 1 e))
]

-- a bit that is 1 stands below the length
pub has_small : (n j k : ℕ) → has n j ≡ true → n < 2 ^ k → j < k
has_small n j k t l = elim (split j k) [
  | inl h ↦ h
  | inr h ↦ absurd (false≢true (sym (ap (λ (m : ℕ). eqb (m % 2) 1) (div-eq_of_lt (lt_of_lt_of_le l (pow_mono h)))) ∙ t))
]

pub has_given : (c : Bool) (s k : ℕ) → has (given c s) k ≡ (c && has s k)
has_given true s k = refl
has_given false s k = has_zero k

-- ---- the laws

pub null_is : (e : Re) → Tests (null e) (Null e)
unfolding null
null_is none = never (λ x. x)
null_is eps = always tt
null_is (one s) = never (λ x. x)
null_is (alt e f) = or (null_is e) (null_is f)
null_is (cat e f) = and (null_is e) (null_is f)
null_is (star e) = always tt
null_is (plus e) = null_is e

pub first_is : (e : Re) (k p : ℕ) → Tests (has (first e k) p) (First e k p)
unfolding first
first_is none k p = rw has_zero (never (λ x. x))
first_is eps k p = rw has_zero (never (λ x. x))
first_is (one s) k p = rw has_pow (equals (k + 1) p)
first_is (alt e f) k p = rw has_or (or (first_is e k p) (first_is f (k + size e) p))
first_is (cat e f) k p = rw (has_or, has_given) (or (first_is e k p) (and (null_is e) (first_is f (k + size e) p)))
first_is (star e) k p = first_is e k p
first_is (plus e) k p = first_is e k p

pub last_is : (e : Re) (k p : ℕ) → Tests (has (last e k) p) (Last e k p)
unfolding last
last_is none k p = rw has_zero (never (λ x. x))
last_is eps k p = rw has_zero (never (λ x. x))
last_is (one s) k p = rw has_pow (equals (k + 1) p)
last_is (alt e f) k p = rw has_or (or (last_is e k p) (last_is f (k + size e) p))
last_is (cat e f) k p = rw (has_or, has_given) (or (last_is f (k + size e) p) (and (null_is f) (last_is e k p)))
last_is (star e) k p = last_is e k p
last_is (plus e) k p = last_is e k p

pub follow_is : (e : Re) (k p q : ℕ) → Tests (has (follow e k p) q) (Follow e k p q)
unfolding follow
follow_is none k p q = rw has_zero (never (λ x. x))
follow_is eps k p q = rw has_zero (never (λ x. x))
follow_is (one s) k p q = rw has_zero (never (λ x. x))
follow_is (alt e f) k p q = rw has_or (or (follow_is e k p q) (follow_is f (k + size e) p q))
follow_is (cat e f) k p q = simp (has_or, has_given) (or (or (follow_is e k p q) (follow_is f (k + size e) p q)) (and (last_is e k p) (first_is f (k + size e) q)))
follow_is (star e) k p q = rw (has_or, has_given) (or (follow_is e k p q) (and (last_is e k p) (first_is e k q)))
follow_is (plus e) k p q = rw (has_or, has_given) (or (follow_is e k p q) (and (last_is e k p) (first_is e k q)))

pub holders_is : (e : Re) (k p b : ℕ) → Tests (has (holders e k b) p) (At e k p b)
unfolding holders
holders_is none k p b = rw has_zero (never (λ x. x))
holders_is eps k p b = rw has_zero (never (λ x. x))
holders_is (one s) k p b = rw (has_given, has_pow) (amounts (and (itself (s b)) (equals (k + 1) p)) (λ x. (x.1, x.0)) (λ x. (x.1, x.0)))
holders_is (alt e f) k p b = rw has_or (or (holders_is e k p b) (holders_is f (k + size e) p b))
holders_is (cat e f) k p b = rw has_or (or (holders_is e k p b) (holders_is f (k + size e) p b))
holders_is (star e) k p b = holders_is e k p b
holders_is (plus e) k p b = holders_is e k p b
