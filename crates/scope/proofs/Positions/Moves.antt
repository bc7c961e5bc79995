-- What the numbers of `Reached` say: two bytes share a class exactly when every position holds both or neither, and the set after a byte has the positions
-- that hold it and to which an edge leads from the set.
--   same_bits: two numbers with the same bits are the same
--   share_is: what `Share` says of positions
--   has_and, joined_is, after_is, move_is: the bits of an intersection, of a union, of an edge, of the next set
use mathlib.Core.Path.{◌≡◌, sym, ap, ◌∙◌}
use mathlib.Core.Bool.{true, ◌&&◌, false≢true}
use mathlib.Core.Logic.{◌⊎◌, inl, inr, ◌↔◌}
use Prim.Native.Nat.{ℕ, zero, suc, ◌+◌, ◌/◌, ◌%◌, ◌^◌, ◌<◌, ◌≤◌}
use native.Mathlib.Nat.{div-one}
use native.Mathlib.Omega.{arith}
use native.Mathlib.Decide.{ℕ_discrete}
use lib.Dec.{eqb}
use lib.Bits.{bit_and, and_shr, and_mod}
use Rattle.scope.specs.Text.Re.{Re, size}
use Rattle.scope.specs.Positions.Sets.{At, Edge}
use Rattle.scope.specs.Positions.Bits.{has, given, joined, holders, after_position, move}
use Rattle.scope.specs.Positions.Reached.{Share}
use Rattle.scope.specs.Tests.{Tests}
use Rattle.scope.proofs.Counting.Tests.{never, or, and, amounts, itself, same_test}
use Rattle.scope.proofs.Positions.Bits.{first_is, follow_is, holders_is, has_or, has_zero, has_given, digit, has_half}

-- ---- numbers with the same bits are the same

bit : (a b : ℕ) → eqb (a % 2) 1 ≡ eqb (b % 2) 1 → a % 2 ≡ b % 2
bit a b e = go (digit a) (digit b)
  where
    go : (a % 2 ≡ 0) ⊎ (a % 2 ≡ 1) → (b % 2 ≡ 0) ⊎ (b % 2 ≡ 1) → a % 2 ≡ b % 2
    go (inl u) (inl v) = u ∙ sym v
    go (inl u) (inr v) = absurd (false≢true (rw (u, v) at e))
    go (inr u) (inl v) = absurd (false≢true (sym (rw (u, v) at e)))
    go (inr u) (inr v) = u ∙ sym v

bits_same : (n a b : ℕ) → a ≤ n → b ≤ n → ((k : ℕ) → has a k ≡ has b k) → a ≡ b
bits_same zero a b h l e = omega arith
bits_same (suc n) a b h l e =
    let low : a % 2 ≡ b % 2 = bit a b (sym (ap (λ (x : ℕ). eqb (x % 2) 1) (div-one a)) ∙ e 0 ∙ ap (λ (x : ℕ). eqb (x % 2) 1) (div-one b)) in
    let high : a / 2 ≡ b / 2 = bits_same n (a / 2) (b / 2) (omega arith) (omega arith) (λ k. sym (has_half a k) ∙ e (suc k) ∙ has_half b k) in
    omega arith

pub same_bits : (a b : ℕ) → ((k : ℕ) → has a k ≡ has b k) → a ≡ b
same_bits a b e = bits_same (a + b) a b (omega arith) (omega arith) e

-- "Two bytes share a pattern class when every position holds both or neither."
pub share_is : (e : Re) (b c : ℕ) → Share e b c ↔ ((p : ℕ) → At e 0 p b ↔ At e 0 p c)
share_is e b c = (there, back)
  where
    there : Share e b c → (p : ℕ) → At e 0 p b ↔ At e 0 p c
    there s p = (λ h. (holders_is e 0 p c).sound (sym (ap (λ (n : ℕ). has n p) s) ∙ (holders_is e 0 p b).full h), λ h. (holders_is e 0 p b).sound (ap (λ (n : ℕ). has n p) s ∙ (holders_is e 0 p c).full h))

    back : ((p : ℕ) → At e 0 p b ↔ At e 0 p c) → Share e b c
    back f = same_bits (holders e 0 b) (holders e 0 c) (λ p. same_test _ _
        (λ x. (holders_is e 0 p c).full ((f p).0 ((holders_is e 0 p b).sound x)))
        (λ x. (holders_is e 0 p b).full ((f p).1 ((holders_is e 0 p c).sound x))))

-- ---- the step of a set

and_digit : (a b : ℕ) → eqb (bit_and a b % 2) 1 ≡ (eqb (a % 2) 1 && eqb (b % 2) 1)
and_digit a b = ap (λ (n : ℕ). eqb n 1) (and_mod a b 1) ∙ go (digit a) (digit b)
  where
    go : (a % 2 ≡ 0) ⊎ (a % 2 ≡ 1) → (b % 2 ≡ 0) ⊎ (b % 2 ≡ 1) → eqb (bit_and (a % 2) (b % 2)) 1 ≡ (eqb (a % 2) 1 && eqb (b % 2) 1)
    go (inl u) (inl v) = rw u
    go (inl u) (inr v) = rw u
    go (inr u) (inl v) = rw (u, v)
    go (inr u) (inr v) = rw (u, v)

pub has_and : (a b k : ℕ) → has (bit_and a b) k ≡ (has a k && has b k)
has_and a b k = ap (λ (n : ℕ). eqb (n % 2) 1) (and_shr a b k) ∙ and_digit (a / 2 ^ k) (b / 2 ^ k)

pub joined_is : (f : ℕ → ℕ) (n q : ℕ) → Tests (has (joined f n) q) ((p : ℕ) × (p < n) × (has (f p) q ≡ true))
unfolding joined
joined_is f zero q = rw has_zero (never (λ x. omega (arith, x.1)))
joined_is f (suc n) q = rw has_or (amounts (or (joined_is f n q) (itself (has (f n) q))) up (λ x. down x (ℕ_discrete x.0 n)))
  where
    up : ((p : ℕ) × (p < n) × (has (f p) q ≡ true)) ⊎ (has (f n) q ≡ true) → (p : ℕ) × (p < suc n) × (has (f p) q ≡ true)
    up (inl x) = (x.0, omega (arith, x.1), x.2)
    up (inr x) = (n, omega arith, x)

    down : (x : (p : ℕ) × (p < suc n) × (has (f p) q ≡ true)) → Dec (x.0 ≡ n) → ((p : ℕ) × (p < n) × (has (f p) q ≡ true)) ⊎ (has (f n) q ≡ true)
    down x (yes e) = inr (rw e at x.2)
    down x (no e) = inl (x.0, omega (arith, x.1), x.2)

pub after_is : (e : Re) (p q : ℕ) → Tests (has (after_position e p) q) (Edge e p q)
unfolding after_position
after_is e zero q = first_is e 0 q
after_is e (suc p) q = follow_is e 0 (suc p) q

-- some position of the set s leads to q
abbrev From : Re → ℕ → ℕ → Type 0
From e s q = (p : ℕ) × (p ≤ size e) × (has s p ≡ true) × Edge e p q

pub move_is : (e : Re) (s b q : ℕ) → Tests (has (move e s b) q) (((p : ℕ) × (p ≤ size e) × (has s p ≡ true) × Edge e p q) × At e 0 q b)
unfolding move
move_is e s b q = rw has_and (and (amounts (joined_is (λ p. given (has s p) (after_position e p)) (size e + 1) q) up down) (holders_is e 0 q b))
  where
    up : (p : ℕ) × (p < size e + 1) × (has (given (has s p) (after_position e p)) q ≡ true) → From e s q
    up (p, h, x) = let y = (and (itself (has s p)) (after_is e p q)).sound (sym (has_given (has s p) (after_position e p) q) ∙ x) in (p, omega arith, y.0, y.1)

    down : From e s q → (p : ℕ) × (p < size e + 1) × (has (given (has s p) (after_position e p)) q ≡ true)
    down (p, h, x, y) = (p, omega arith, has_given (has s p) (after_position e p) q ∙ (and (itself (has s p)) (after_is e p q)).full (x, y))
