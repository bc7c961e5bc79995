-- Twins. Two rooms with the same bytes hold the same machine. Side by side no string then tells a state of the second from its fellow in the first: strings that are
-- enough for the one machine are enough for both, so it has as many rounds alone.
--   twins_agree: twins hold the same machine
--   rounds_twice: beside a machine that agrees with it a machine has as many rounds as alone
use Prim.Native.Nat.{ℕ, ◌+◌, ◌-◌, ◌*◌, ◌<◌}
use mathlib.Core.Path.{◌≡◌, sym, ap, ◌∙◌}
use mathlib.Core.Logic.{inl, inr}
use mathlib.Core.List.{List}
use native.Mathlib.Omega.{arith}
use lib.Dec.{eqb}
use Rattle.scope.specs.Limits.{classes_at, marks_at, cells_at}
use Rattle.scope.specs.Machines.Machine.{Machine, Same, Closed}
use Rattle.scope.specs.Machines.Room.{states_of, classes_of, class_of, next_of, machine, SoundTable}
use Rattle.scope.specs.Machines.Rounds.{aside, Rounds, Enough}
use Rattle.scope.proofs.Counting.Tests.{split}
use Rattle.scope.proofs.Machines.Room.{cell_used}
use Rattle.scope.proofs.Machines.SameMoves.{SameMoves, agree_closed, agree_same}
use Rattle.scope.proofs.Machines.Rounds.{rounds_enough}
use Rattle.scope.proofs.Machines.Aside.{aside_closed, left_run, right_run}
use Rattle.room.proofs.HeadAndParts.{head_same}
use Rattle.compare.specs.Twins.{Twins}

-- the same bytes: the same header, classes, marks and used cells
pub twins_agree : (a b : List ℕ) → SoundTable a → Twins a b → SameMoves (machine a) (machine b)
unfolding next_of
twins_agree a b s e = record {
  states = head.0;
  next = λ q x h k. rw (← e (classes_at + x) (omega arith), ← head.1) (e (cells_at + (q * classes_of a + class_of a x)) (omega (arith, cell_used a s q x h k)));
  marks = λ q h. ap (λ (x : ℕ). eqb x 1) (e (marks_at + q) (omega (arith, s.few_states)));
}
  where
    head : (states_of a ≡ states_of b) × (classes_of a ≡ classes_of b)
    head = head_same a b (λ i h. e i (omega arith))

-- where each state of M accepts the strings of some state of N, what is enough for N is enough for M
enough : (M N : Machine) → ((q : ℕ) → q < M.states → (p : ℕ) × (p < N.states) × Same M q N p) → (r : ℕ) → Enough N r → Enough M r
enough M N f r e p q h k u w g =
    let (p', i, x) = f p h in
    let (q', j, y) = f q k in
    x w g ∙ e p' q' i j (λ v o l. sym (x v o) ∙ u v o l ∙ y v o) w g ∙ sym (y w g)

-- a state of N folds onto its fellow in M
pub rounds_twice : (M N : Machine) → Closed M → SameMoves M N → (r : ℕ) → Rounds M r → Rounds (aside M N) r
rounds_twice M N c a r s =
    let (e, n) = (rounds_enough M c r).0 s in
    (rounds_enough (aside M N) (aside_closed M N c d) r).1 (enough (aside M N) M fold r e, λ k h f. n k h (enough M (aside M N) alone k f))
  where
    d : Closed N
    d = agree_closed M N c a

    alone : (q : ℕ) → q < M.states → (p : ℕ) × (p < M.states + N.states) × Same M q (aside M N) p
    alone q h = (q, omega arith, λ w g. sym (left_run M N c d q w h g))

    fold : (q : ℕ) → q < M.states + N.states → (p : ℕ) × (p < M.states) × Same (aside M N) q M p
    fold q h = elim (split q M.states) [
      | inl l ↦ (q, l, λ w g. left_run M N c d q w l g)
      | inr l ↦ (
          let p = q - M.states in
          let z : M.states + p ≡ q = omega arith in
          let i : p < M.states = omega (arith, a.states) in
          (p, i, λ w g. rw z at (right_run M N c d p w (omega (arith, a.states)) g) ∙ sym (agree_same M N c a p i w g))
          )
    ]
