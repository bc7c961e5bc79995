-- Numbers in use, and one thing too many.
--   met_used, met_least: a number in use was read; a bound of what was read
--   met_same, met_run: two functions that read the same; one number is read several times
--   numbered_on: more things with numbers that are given
--   numbered_met: where things are numbered, so many numbers were read
--   over_one: n things of which no two are alike, and one more, are more than n
--   within_all: things one of which is like each are at most as many as they are
use Prim.Native.Nat.{ℕ, zero, suc, ◌+◌, ◌-◌, ◌≤◌, ◌<◌, max}
use mathlib.Core.Path.{◌≡◌, refl}
use mathlib.Core.Logic.{◌⊎◌, inl, inr}
use native.Mathlib.Numerals.{add-one}
use native.Mathlib.Omega.{arith}
use native.Mathlib.Decide.{le_ind}
use Rattle.scope.specs.Machines.Canonical.{met, Arrival}
use Rattle.scope.specs.Count.{Over, Within}
use Rattle.scope.proofs.Counting.Arrival.{met_above}
use Rattle.scope.proofs.Counting.Tests.{split}
use Rattle.buffers.specs.Numbered.{Numbered}
use Rattle.buffers.proofs.Numbered.{numbered_old}

-- a number in use was read
pub met_used : (f : ℕ → ℕ) (x c : ℕ) → Arrival f 0 x → c < met f 0 x → (y : ℕ) × (y < x) × (f y ≡ c)
unfolding met
met_used f zero c a h = absurd (omega arith)
met_used f (suc x) c a h = elim (split c (met f 0 x)) [
  | inl k ↦ (let (y, l, e) = met_used f x c (λ y l. a y (omega arith)) k in (y, omega arith, e))
  | inr k ↦ (x, omega arith, omega (arith, a x (omega arith)))
]

-- no more numbers are in use than a bound of what was read
pub met_least : (f : ℕ → ℕ) (x v : ℕ) → ((y : ℕ) → y < x → f y < v) → met f 0 x ≤ v
unfolding met
met_least f zero v h = omega arith
met_least f (suc x) v h = omega (arith, met_least f x v (λ y l. h y (omega arith)), h x (omega arith))

-- functions that read the same numbers
pub met_same : (f g : ℕ → ℕ) (x : ℕ) → ((y : ℕ) → y < x → f y ≡ g y) → met f 0 x ≡ met g 0 x
unfolding met
met_same f g zero e = refl
met_same f g (suc x) e = rw (met_same f g x (λ y h. e y (omega arith)), e x (omega arith))

-- from x up to y one number is read
pub met_run : (f : ℕ → ℕ) (x y v : ℕ) → x < y → ((b : ℕ) → b < y → x ≤ b → f b ≡ v) → met f 0 y ≡ max (met f 0 x) (v + 1)
unfolding met
met_run f x y v h = le_ind (λ (z : ℕ). ((b : ℕ) → b < z → x ≤ b → f b ≡ v) → met f 0 z ≡ max (met f 0 x) (v + 1)) (λ e. omega (arith, e x (omega arith) (omega arith)))
    (λ z l go e. omega (arith, go (λ b k w. e b (omega arith) w), e z (omega arith) (omega arith))) y h

-- the things from a up to b have numbers that are given
pub numbered_on : {R : ℕ → ℕ → Type 0} {key number lead : ℕ → ℕ} {from k a : ℕ} → Numbered R key number lead from k a → (b : ℕ) → a ≤ b
    → ((x : ℕ) → x < b → a ≤ x → (number x < k) × R (lead (number x)) (key x)) → Numbered R key number lead from k b
numbered_on {R} {key} {number} {lead} {from} {k} {a} n b h =
    le_ind (λ (z : ℕ). ((x : ℕ) → x < z → a ≤ x → (number x < k) × R (lead (number x)) (key x)) → Numbered R key number lead from k z) (λ f. n)
    (λ z l go f. rw add-one at (numbered_old (go (λ x w y. f x (omega arith) y)) key number lead (λ x y. refl) (λ x y. refl) (λ v y. refl) (f z (omega arith) l).0 (f z (omega arith) l).1)) b h

-- so many numbers were read as were given
pub numbered_met : {R : ℕ → ℕ → Type 0} {key number lead : ℕ → ℕ} {k e : ℕ} → Numbered R key number lead 0 k e → met number 0 e ≡ k
numbered_met {number = number} {k = k} {e = e} n = elim (split 0 k) [
  | inl h ↦ (let c = n.came (k - 1) (omega arith) (omega arith) in omega (arith, met_above number 0 e c.thing c.inside, c.own, met_least number e k n.below))
  | inr h ↦ omega (arith, met_least number e k n.below)
]

-- the things g 0 .. g (n - 1), and x
pub over_one : {A : Type 0} (P : A → Type 0) (Alike : A → A → Type 0) (n : ℕ) (g : (i : ℕ) → i < n → A) (x : A) → ((i : ℕ) (h : i < n) → P (g i h)) → P x
    → ((i j : ℕ) (h : i < n) (k : j < n) → i < j → Alike (g i h) (g j k) → ⊥) → ((i : ℕ) (h : i < n) → Alike (g i h) x → ⊥) → Over n P Alike
over_one {A} P Alike n g x have new differ apart = record {
  thing = λ i. thing i (split i n);
  have = λ i h. has i (split i n);
  differ = λ i j h k. differs i j h k (split i n) (split j n);
}
  where
    thing : (i : ℕ) → (i < n) ⊎ (n ≤ i) → A
    thing i (inl h) = g i h
    thing i (inr h) = x

    has : (i : ℕ) (s : (i < n) ⊎ (n ≤ i)) → P (thing i s)
    has i (inl h) = have i h
    has i (inr h) = new

    differs : (i j : ℕ) → i < j → j ≤ n → (s : (i < n) ⊎ (n ≤ i)) (t : (j < n) ⊎ (n ≤ j)) → Alike (thing i s) (thing j t) → ⊥
    differs i j h k (inl s) (inl t) = differ i j s t h
    differs i j h k (inl s) (inr t) = apart i s
    differs i j h k (inr s) t = absurd (omega arith)

-- the things g 0 .. g (k - 1), one of which is like each thing with P, are at most n
pub within_all : {A : Type 0} (P : A → Type 0) (Alike : A → A → Type 0) (n k : ℕ) (g : (i : ℕ) → i < k → A) → A → k ≤ n
    → ((x : A) → P x → (i : ℕ) × (i < k) × ((h : i < k) → Alike x (g i h))) → Within n P Alike
within_all {A} P Alike n k g none le all = record {
  thing = λ i. thing i (split i k);
  all = λ x p. (let (i, h, f) = all x p in (i, omega arith, like x i h f (split i k)));
}
  where
    thing : (i : ℕ) → (i < k) ⊎ (k ≤ i) → A
    thing i (inl h) = g i h
    thing i (inr h) = none

    like : (x : A) (i : ℕ) → i < k → ((h : i < k) → Alike x (g i h)) → (s : (i < k) ⊎ (k ≤ i)) → Alike x (thing i s)
    like x i h f (inl l) = f l
    like x i h f (inr l) = absurd (omega arith)
