-- The numbers that a room keeps are its ways home.
--   ways_kept: what a room keeps beside a state is its way home
use Prim.Native.Nat.{ℕ, ◌<◌}
use mathlib.Core.Path.{◌≡◌}
use mathlib.Core.List.{List}
use native.Mathlib.Omega.{arith}
use Rattle.scope.specs.Machines.Ways.{Way}
use Rattle.scope.specs.Machines.Room.{states_of, machine, SoundWays}
use Rattle.room.specs.Head.{way_of}

-- what a room keeps beside a state is its way home
pub ways_kept : {m : List ℕ} → SoundWays m → (q : ℕ) → q < states_of m → Way (machine m) q (way_of m q)
ways_kept {m} s q h = let w = s.beside q h in
    let e : w.way ≡ way_of m q = omega (arith, w.high, w.low) in
    rw e at w.right
