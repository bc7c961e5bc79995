-- States of two machines that some string tells apart. Side by side each accepts what it accepts alone, so rounds, the least length that is enough there, are the
-- least that is enough for the states of both.
--   rounds_suffice, rounds_least: rounds are enough, and fewer are not
use Prim.Native.Nat.{ℕ, suc, ◌+◌, ◌-◌, ◌<◌, ◌≤◌}
use mathlib.Core.Path.{◌≡◌, sym, ◌∙◌}
use mathlib.Core.Bool.{Bool-discrete}
use mathlib.Core.Logic.{◌⊎◌, inl, inr}
use mathlib.Core.List.{List}
use native.Mathlib.Omega.{arith}
use lib.ListN.{length}
use Rattle.scope.specs.Machines.Machine.{Machine, run, Same, Closed}
use Rattle.scope.specs.Machines.Rounds.{aside, Rounds, Enough}
use Rattle.scope.specs.Demands.{StateOf, of_left, of_right, Tells, Suffices}
use Rattle.scope.proofs.Counting.Tests.{split}
use Rattle.scope.proofs.Counting.Chain.{first_not}
use Rattle.scope.proofs.Machines.Rounds.{together_either, rests_same, rests_enough}
use Rattle.scope.proofs.Machines.Aside.{aside_closed, left_run, right_run}
use Rattle.scope.proofs.Machines.Separate.{spell}

-- the state i of the machine A accepts the strings of the state q of K
record StandsFor (A : Machine) (i : ℕ) (K : Machine) (q : ℕ) : Type 0 where
  same : Same A i K q

-- a string tells two states apart, if it tells those apart that they stand for; and the other way
tells_out : {A K L : Machine} {i j p q : ℕ} {w : List ℕ} → StandsFor A i K p → StandsFor A j L q → Tells A i A j w → Tells K p L q w
tells_out {w = w} e f t = record { bytes = t.bytes; differ = λ d. t.differ (e.same w t.bytes ∙ d ∙ sym (f.same w t.bytes)) }

tells_in : {A K L : Machine} {i j p q : ℕ} {w : List ℕ} → StandsFor A i K p → StandsFor A j L q → Tells K p L q w → Tells A i A j w
tells_in {w = w} e f t = record { bytes = t.bytes; differ = λ d. t.differ (sym (e.same w t.bytes) ∙ d ∙ f.same w t.bytes) }

-- of two states that a string tells apart, one of at most r bytes does, where nothing splits after r rounds
told_within : (A : Machine) → Closed A → (r i j : ℕ) → Rounds A r → i < A.states → j < A.states → (w : List ℕ) → Tells A i A j w
    → (v : List ℕ) × (length v ≤ r) × Tells A i A j v
told_within A c r i j s h k w t = elim (first_not (λ d. together_either A d i j) (suc r)) [
  | inl a ↦ absurd (t.differ (rests_same A c r i j h k s.rests (a r (omega arith)) w t.bytes))
  | inr (d, l, g, b) ↦ (let z = spell A d i j g b in (z.0, omega (arith, z.1.long), record { bytes = z.1.bytes; differ = z.1.told }))
]

module _ (M N : Machine) (m : Closed M) (n : Closed N) where
  -- a state of the two machines stands side by side with the others
  state_aside : {K : Machine} {q : ℕ} → StateOf M N K q → (i : ℕ) × (i < (aside M N).states) × StandsFor (aside M N) i K q
  state_aside (of_left {q} h) = (q, omega arith, record { same = λ w g. left_run M N m n q w h g })
  state_aside (of_right {q} h) = (M.states + q, omega arith, record { same = λ w g. right_run M N m n q w h g })

  -- and each that stands there is one
  aside_state : (i : ℕ) → i < (aside M N).states → (K : Machine) × (q : ℕ) × StateOf M N K q × StandsFor (aside M N) i K q
  aside_state i h = go (split i M.states)
    where
      go : (i < M.states) ⊎ (M.states ≤ i) → (K : Machine) × (q : ℕ) × StateOf M N K q × StandsFor (aside M N) i K q
      go (inl k) = (M, i, of_left k, record { same = λ w g. left_run M N m n i w k g })
      go (inr k) =
          let e : M.states + (i - M.states) ≡ i = omega arith in
          (N, i - M.states, of_right {q = i - M.states} (omega arith), record { same = λ w g. rw e at (right_run M N m n (i - M.states) w (omega arith) g) })

  -- rounds are enough
  pub rounds_suffice : (r : ℕ) → Rounds (aside M N) r → Suffices M N r
  rounds_suffice r s K L p q a b w t =
      let (i, h, e) = state_aside a in
      let (j, k, f) = state_aside b in
      let (v, l, u) = told_within (aside M N) (aside_closed M N m n) r i j s h k w (tells_in e f t) in
      (v, l, tells_out e f u)

  -- what is enough is enough side by side
  suffices_enough : (r : ℕ) → Suffices M N r → Enough (aside M N) r
  suffices_enough r z i j h k u w g = elim (Bool-discrete ((aside M N).accepts (run (aside M N) i w)) ((aside M N).accepts (run (aside M N) j w))) [
    | yes e ↦ e
    | no d ↦ (
        let (K, p, a, e) = aside_state i h in
        let (L, q, b, f) = aside_state j k in
        let (v, l, t) = z K L p q a b w (tells_out e f (record { bytes = g; differ = d })) in
        absurd ((tells_in e f t).differ (u v t.bytes l))
        )
  ]

  -- and fewer are not
  pub rounds_least : (r k : ℕ) → Rounds (aside M N) r → k < r → Suffices M N k → ⊥
  rounds_least r k s h z = s.least k h ((rests_enough (aside M N) (aside_closed M N m n) k).1 (suffices_enough k z))
