-- Writing on: what stands in a buffer after some bytes were put at a place.
--   Appended old new at l next: l stands at `at`, `next` is the place behind it, all else is kept
use Rattle.std.specs.Prelude.{ℕ, ◌+◌, ◌≡◌, List, ◌++◌, length, take, drop}

pub record Appended (old new : List ℕ) (at : ℕ) (l : List ℕ) (next : ℕ) : Type 0 where
  pub place : next ≡ at + length l
  pub size : length new ≡ length old
  pub front : take next new ≡ take at old ++ l
  pub tail : drop next new ≡ drop next old
