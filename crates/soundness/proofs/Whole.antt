-- A room is judged by its 8,834 bytes, without the tail of a longer one.
--   whole_sound, sound_whole: it is sound if these are, and they are if it is
use Prim.Native.Nat.{ℕ, ◌≤◌}
use mathlib.Core.Path.{sym}
use mathlib.Core.List.{List}
use native.Mathlib.Omega.{arith}
use lib.ListN.{length, take, length-take}
use lib.Seq.{get_or-take}
use Rattle.scope.specs.Limits.{room_bytes}
use Rattle.scope.specs.Machines.Room.{Sound, SameBytes}
use Rattle.scope.proofs.Machines.Moved.{sound_moved}

module _ (m : List ℕ) (h : room_bytes ≤ length m) where
  same : SameBytes (take room_bytes m) m
  same i k = get_or-take room_bytes m i 0 k

  pub whole_sound : Sound (take room_bytes m) → Sound m
  whole_sound = sound_moved (take room_bytes m) m h same

  pub sound_whole : Sound m → Sound (take room_bytes m)
  sound_whole = sound_moved m (take room_bytes m) (omega (arith, length-take room_bytes m)) (λ i k. sym (same i k))
