-- Numberings on first arrival. What is read is in use already or takes the next number, so where the things read correspond one to one, the numbers are
-- the same; it is said once, for classes of bytes and for states.
--   met_grow, met_above: a number in use stays so, and one that was read is in use
--   arrival_ext: a numbering is on first arrival by what it reads
--   arrival_one: corresponding things have the same numbers
use Prim.Native.Nat.{ℕ, zero, suc, ◌≤◌, ◌<◌}
use mathlib.Core.Path.{◌≡◌, refl}
use mathlib.Core.Logic.{◌⊎◌, inl, inr}
use native.Mathlib.Omega.{arith}
use native.Mathlib.Decide.{le_ind}
use Rattle.scope.specs.Machines.Canonical.{met, Arrival}
use Rattle.scope.proofs.Counting.Tests.{split}

-- a number in use stays so
pub met_grow : (f : ℕ → ℕ) (from x y : ℕ) → x ≤ y → met f from x ≤ met f from y
unfolding met
met_grow f from x y h = le_ind (λ (z : ℕ). met f from x ≤ met f from z) (omega arith) (λ z k i. omega arith) y h

-- a number that was read is in use
pub met_above : (f : ℕ → ℕ) (from x y : ℕ) → y < x → f y < met f from x
unfolding met
met_above f from x y h = omega (arith, met_grow f from (suc y) x h)

met_ext : (f g : ℕ → ℕ) (from x : ℕ) → ((y : ℕ) → y < x → f y ≡ g y) → met f from x ≡ met g from x
unfolding met
met_ext f g from zero e = refl
met_ext f g from (suc x) e = rw (met_ext f g from x (λ y h. e y (omega arith)), e x (omega arith))

-- a function that reads the same numbers numbers on first arrival too
pub arrival_ext : (f g : ℕ → ℕ) (from to : ℕ) → ((x : ℕ) → x < to → f x ≡ g x) → Arrival f from to → Arrival g from to
arrival_ext f g from to e a x h = rw (← e x h, ← met_ext f g from x (λ y k. e y (omega arith))) (a x h)

-- K p q: the number p of f stands for what the number q of g stands for
module _ (f g : ℕ → ℕ) (from to : ℕ) (K : ℕ → ℕ → Type 0) (left : (p q r : ℕ) → K p r → K q r → p ≡ q) (right : (p q r : ℕ) → K p q → K p r → q ≡ r) where
  abbrev Known : ℕ → Type 0
  Known x = (t : ℕ) → t < met f from x → K t t

  record Meets (x : ℕ) : Type 0 where
    equal : (y : ℕ) → y < x → f y ≡ g y
    known : Known x

  module _ (start : (t : ℕ) → t < from → K t t) (step : (x : ℕ) → x < to → Known x → K (f x) (g x)) (a : Arrival f from to) (b : Arrival g from to) where
    more : (x : ℕ) → x < to → Meets x → Meets (suc x)
    unfolding met
    more x h s = record { equal = λ y k. elim (split y x) [ inl l ↦ s.equal y l | inr l ↦ (let e : y ≡ x = omega arith in rw e this) ]; known = known }
      where
        this : f x ≡ g x
        this = go (split (f x) (met f from x)) (split (g x) (met f from x))
          where
            go : (f x < met f from x) ⊎ (met f from x ≤ f x) → (g x < met f from x) ⊎ (met f from x ≤ g x) → f x ≡ g x
            go (inl k) l = right (f x) (f x) (g x) (s.known (f x) k) (step x h s.known)
            go (inr k) (inl l) = left (f x) (g x) (g x) (step x h s.known) (s.known (g x) l)
            go (inr k) (inr l) = omega (arith, a x h, b x h, met_ext f g from x s.equal)

        known : Known (suc x)
        known t k = elim (split t (met f from x)) [
          | inl l ↦ s.known t l
          | inr l ↦ (let e : t ≡ f x = omega (arith, a x h) in rw e (rw (← this) at (step x h s.known)))
        ]

    agree : (x : ℕ) → x ≤ to → Meets x
    unfolding met
    agree zero h = record { equal = λ y k. absurd (omega arith); known = start }
    agree (suc x) h = more x h (agree x (omega arith))

    -- two numberings on first arrival of things that correspond one to one are the same
    pub arrival_one : (x : ℕ) → x < to → f x ≡ g x
    arrival_one = (agree to (omega arith)).equal
