-- Counting by splits. Let things be pairwise apart by one equivalence, and let a finer one part two that it holds together: by the finer one there is one more.
-- For were neither of the two apart from all those things, both would be together with the same one, and so with each other. First, a search below n.
--   first_not: the first number without a property, or all have it
--   every, implies: whether all numbers have a property, and whether an implication holds, is decided
--   over_two: two things that are apart
--   over_more: a split shows one thing more
use Prim.Native.Nat.{ℕ, zero, suc, ◌≤◌, ◌<◌}
use mathlib.Core.Path.{◌≡◌}
use mathlib.Core.Bool.{cond}
use mathlib.Core.Logic.{◌⊎◌, inl, inr}
use native.Mathlib.Omega.{arith}
use lib.Dec.{ltb}
use Rattle.scope.specs.Count.{Over}
use Rattle.scope.proofs.Counting.Tests.{split, level, below, not_below}

-- ---- the numbers below n

-- the first number below n without the property, or all have it
pub first_not : {A : ℕ → Type 0} → ((i : ℕ) → Dec (A i)) → (n : ℕ)
    → ((i : ℕ) → i < n → A i) ⊎ ((m : ℕ) × (m < n) × (A m → ⊥) × ((i : ℕ) → i < m → A i))
first_not f zero = inl (λ i h. absurd (omega arith))
first_not f (suc n) = elim (first_not f n) [
  | inr (m, h, k, l) ↦ inr (m, omega arith, k, l)
  | inl h ↦ elim (f n) [
    | no k ↦ inr (n, omega arith, k, h)
    | yes a ↦ inl (λ i k. elim (split i n) [ inl l ↦ h i l | inr l ↦ (let e : i ≡ n = omega arith in rw e a) ])
  ]
]

-- all numbers below n have the property, or not
pub every : {A : ℕ → Type 0} → ((i : ℕ) → Dec (A i)) → (n : ℕ) → Dec ((i : ℕ) → i < n → A i)
every f n = elim (first_not f n) [ inl h ↦ yes h | inr (m, h, k, l) ↦ no (λ a. k (a m h)) ]

-- an implication holds, or not
pub implies : {A B : Type 0} → Dec A → Dec B → Dec (A → B)
implies a (yes y) = yes (λ x. y)
implies (yes x) (no g) = no (λ h. g (h x))
implies (no f) (no g) = yes (λ x. absurd (f x))

-- ---- things that are pairwise apart

module _ {A : Type 0} {P : A → Type 0} {E : A → A → Type 0} where
  over_add : {n : ℕ} (o : Over n P E) (x : A) → P x → ((i : ℕ) → i ≤ n → E (o.thing i) x → ⊥) → Over (suc n) P E
  over_add {n} o x a far = record { thing = thing; have = λ i h. have i (split i (suc n)); differ = λ i j h k. differ i j h k (split j (suc n)) }
    where
      thing : ℕ → A
      thing i = cond (ltb i (suc n)) (o.thing i) x

      have : (i : ℕ) → (i < suc n) ⊎ (suc n ≤ i) → P (thing i)
      have i (inl h) = rw ((below i (suc n)).full h) (o.have i (omega arith))
      have i (inr h) = rw (not_below i (suc n) h) a

      differ : (i j : ℕ) → i < j → j ≤ suc n → (j < suc n) ⊎ (suc n ≤ j) → E (thing i) (thing j) → ⊥
      differ i j h k (inl l) e = o.differ i j h (omega arith) (rw ((below i (suc n)).full (omega arith), (below j (suc n)).full l) at e)
      differ i j h k (inr l) e = far i (omega arith) (rw ((below i (suc n)).full (omega arith), not_below j (suc n) l) at e)

  -- two things that are apart
  pub over_two : (x y : A) → P x → P y → (E x y → ⊥) → Over 1 P E
  over_two x y a b far = over_add (record { thing = λ i. x; have = λ i h. a; differ = λ i j h k. absurd (omega arith) }) y b (λ i h. far)

-- a chain of equivalences, each as fine as the last
module _ {A : Type 0} (P : A → Type 0) (E : ℕ → A → A → Type 0)
    (flip : (r : ℕ) (x y : A) → E r x y → E r y x) (chain : (r : ℕ) (x y z : A) → E r x y → E r y z → E r x z)
    (finer : (r : ℕ) (x y : A) → E (suc r) x y → E r x y) where
  -- where the next one parts two things, it holds one more thing apart
  pub over_more : {n : ℕ} (r : ℕ) → Over n P (E r) → (x y : A) → P x → P y → E r x y → (E (suc r) x y → ⊥) → (Over (suc n) P (E (suc r)) → ⊥) → ⊥
  over_more {n} r o x y a b e far none =
      add x a (λ i h s. add y b (λ j k t. far (chain (suc r) _ _ _ (flip (suc r) _ _ s) (rw (one i j h k (finer r _ _ s) (finer r _ _ t)) t))))
    where
      add : (z : A) → P z → ((i : ℕ) → i ≤ n → E (suc r) (o.thing i) z → ⊥) → ⊥
      add z c f = none (over_add (record { thing = o.thing; have = o.have; differ = λ i j h k d. o.differ i j h k (finer r _ _ d) }) z c f)

      one : (i j : ℕ) → i ≤ n → j ≤ n → E r (o.thing i) x → E r (o.thing j) y → i ≡ j
      one i j h k s t =
          let d : E r (o.thing i) (o.thing j) = chain r _ _ _ s (chain r _ _ _ e (flip r _ _ t)) in
          level i j (λ l. o.differ i j l k d) (λ l. o.differ j i l h (flip r _ _ d))
