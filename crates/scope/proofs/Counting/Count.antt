-- More than n and at most n exclude each other, by the pigeonhole, where to be alike is an equivalence.
--   over_within: the two exclude each other
use Prim.Native.Nat.{ℕ, suc, ◌≤◌, ◌<◌}
use mathlib.Core.Path.{◌≡◌}
use native.Mathlib.Omega.{arith}
use Rattle.scope.specs.Count.{Over, Within}
use Rattle.scope.proofs.Counting.Hole.{pigeon}
use Rattle.scope.proofs.Counting.Tests.{level}

module _ {A : Type 0} (P : A → Type 0) (Alike : A → A → Type 0) (flip : (x y : A) → Alike x y → Alike y x) (chain : (x y z : A) → Alike x y → Alike y z → Alike x z) where
  pub over_within : (n : ℕ) → Over n P Alike → Within n P Alike → ⊥
  over_within n o w = omega (arith, pigeon At (suc n) n place one)
    where
      At : ℕ → ℕ → Type 0
      At i v = (i ≤ n) × Alike (o.thing i) (w.thing v)

      place : (i : ℕ) → i < suc n → (v : ℕ) × (v < n) × At i v
      place i h = let (v, k, a) = w.all (o.thing i) (o.have i (omega arith)) in (v, k, (omega arith, a))

      one : (i j v : ℕ) → At i v → At j v → i ≡ j
      one i j v (h, a) (k, b) = level i j (λ x. o.differ i j x k (chain _ _ _ a (flip _ _ b))) (λ x. o.differ j i x h (chain _ _ _ b (flip _ _ a)))
