-- Two rooms side by side, state by state: a state of a moves as in a, one of b as in b.
--   next_left, next_right: where a byte leads
--   mark_left, mark_right, accepts_mark, mark_small: a state's mark, in its room
--   side_both, side_left: all states are closed, and those of a alone are
use Prim.Native.Nat.{ℕ, ◌+◌, ◌-◌, ◌≤◌, ◌<◌}
use mathlib.Core.Path.{◌≡◌, refl}
use mathlib.Core.Logic.{inl, inr}
use mathlib.Core.List.{List}
use native.Mathlib.Omega.{arith}
use lib.Dec.{eqb, ltb}
use Rattle.scope.specs.Limits.{marks_at}
use Rattle.scope.specs.Machines.Room.{states_of, mark_of, next_of, machine, SoundTable}
use Rattle.scope.proofs.Counting.Tests.{which, split, below, not_below}
use Rattle.scope.proofs.Machines.Run.{sound_closed}
use Rattle.scope.proofs.Machines.Aside.{aside_closed}
use Rattle.two_rooms.specs.Side.{both, mark_in, FirstStates}

module _ (a b : List ℕ) (q : ℕ) where
  -- a state of a moves as in a
  pub next_left : (x : ℕ) → q < states_of a → (both a b).next q x ≡ next_of a q x
  next_left x h = rw ((below q (states_of a)).full h) refl

  -- and one of b as in b
  pub next_right : (x : ℕ) → states_of a ≤ q → (both a b).next q x ≡ states_of a + next_of b (q - states_of a) x
  next_right x h = rw (not_below q (states_of a) h) refl

  -- a state of a has its mark in a
  pub mark_left : q < states_of a → mark_in a b q ≡ mark_of a q
  unfolding mark_in
  mark_left h = rw ((below q (states_of a)).full h) refl

  -- and one of b in b
  pub mark_right : states_of a ≤ q → mark_in a b q ≡ mark_of b (q - states_of a)
  unfolding mark_in
  mark_right h = rw (not_below q (states_of a) h) refl

  -- a state accepts if its mark is 1
  pub accepts_mark : (both a b).accepts q ≡ eqb (mark_in a b q) 1
  unfolding mark_in
  accepts_mark = elim (which (ltb q (states_of a))) [ inl e ↦ rw e refl | inr e ↦ rw e refl ]

  -- a mark is 0 or 1
  pub mark_small : SoundTable a → SoundTable b → q < states_of a + states_of b → mark_in a b q < 2
  mark_small s t h = elim (split q (states_of a)) [
    | inl x ↦ omega (arith, mark_left x, s.marks (marks_at + q) (omega arith) (omega arith))
    | inr x ↦ omega (arith, mark_right x, t.marks (marks_at + (q - states_of a)) (omega arith) (omega arith))
  ]

-- all states together are closed
pub side_both : (a b : List ℕ) → SoundTable a → SoundTable b → FirstStates a b (states_of a + states_of b)
side_both a b s t = record { left = s; right = t; few = omega arith; closed = aside_closed (machine a) (machine b) (sound_closed a s) (sound_closed b t) }

-- and so are those of a
pub side_left : (a b : List ℕ) → SoundTable a → SoundTable b → FirstStates a b (states_of a)
side_left a b s t = record {
  left = s;
  right = t;
  few = omega arith;
  closed = record { some = s.some_state; inside = λ q x h k. rw ((below q (states_of a)).full h) ((sound_closed a s).inside q x h k) };
}
