-- Matching is determined: a string that is accepted completes each of its prefixes, so an accepted string is never dead.
--   accepted_alive: every prefix of an accepted string is completable
--   dead_one: the place is one
--   determined: two results of one call are equal
use Prim.Native.Nat.{ℕ, zero, suc}
use mathlib.Core.Path.{◌≡◌, refl}
use mathlib.Core.List.{List, [], ◌∷◌}
use native.Mathlib.Omega.{arith}
use lib.ListN.{drop, take-append-drop}
use Rattle.scope.specs.Bytes.{Bytes}
use Rattle.scope.specs.Machines.Machine.{Machine, Accepts}
use Rattle.scope.specs.Machines.Room.{machine}
use Rattle.scope.specs.Operations.Match.{DeadAt, Alive, Matches, no_room, no_form, accepted, dead, unfinished}
use Rattle.scope.proofs.Counting.Tests.{level}

bytes_drop : (i : ℕ) (s : List ℕ) → Bytes s → Bytes (drop i s)
bytes_drop zero s g = g
bytes_drop (suc i) [] g = g
bytes_drop (suc i) (b ∷ s) g = bytes_drop i s g.1

-- an accepted string is alive
pub accepted_alive : (M : Machine) (s : List ℕ) → Bytes s → Accepts M s → Alive M s
accepted_alive M s g a j h = record { rest = drop j s; bytes = bytes_drop j s g; accepted = rw take-append-drop a }

-- no string is both dead and alive
dead_alive : (M : Machine) (s : List ℕ) (i : ℕ) → DeadAt M s i → Alive M s → ⊥
dead_alive M s i d a = d.dead (a i d.inside)

-- the place is one
pub dead_one : (M : Machine) (s : List ℕ) (i j : ℕ) → DeadAt M s i → DeadAt M s j → i ≡ j
dead_one M s i j d e = level i j (λ h. d.dead (e.before i h)) (λ h. e.dead (d.before j h))

module _ (room text : List ℕ) (g : Bytes text) where
  pub determined : {n i m j : ℕ} → Matches room text n i → Matches room text m j → (n ≡ m) × (i ≡ j)
  determined (no_room h) (no_room k) = (refl, refl)
  determined (no_room h) (no_form k n) = absurd (omega arith)
  determined (no_room h) (accepted s k) = absurd (omega (arith, s.table.long))
  determined (no_room h) (dead s k) = absurd (omega (arith, s.table.long))
  determined (no_room h) (unfinished s k n) = absurd (omega (arith, s.table.long))
  determined (no_form h n) (no_room k) = absurd (omega arith)
  determined (no_form h n) (no_form k m) = (refl, refl)
  determined (no_form h n) (accepted s k) = absurd (n s)
  determined (no_form h n) (dead s k) = absurd (n s)
  determined (no_form h n) (unfinished s k m) = absurd (n s)
  determined (accepted s h) (no_room k) = absurd (omega (arith, s.table.long))
  determined (accepted s h) (no_form k m) = absurd (m s)
  determined (accepted s h) (accepted t k) = (refl, refl)
  determined (accepted s h) (dead {i} t k) = absurd (dead_alive (machine room) text i k (accepted_alive (machine room) text g h))
  determined (accepted s h) (unfinished t k m) = absurd (m h)
  determined (dead s h) (no_room k) = absurd (omega (arith, s.table.long))
  determined (dead s h) (no_form k m) = absurd (m s)
  determined (dead {i} s h) (accepted t k) = absurd (dead_alive (machine room) text i h (accepted_alive (machine room) text g k))
  determined (dead {i} s h) (dead {i = j} t k) = (refl, dead_one (machine room) text i j h k)
  determined (dead {i} s h) (unfinished t k m) = absurd (dead_alive (machine room) text i h k)
  determined (unfinished s h n) (no_room k) = absurd (omega (arith, s.table.long))
  determined (unfinished s h n) (no_form k m) = absurd (m s)
  determined (unfinished s h n) (accepted t k) = absurd (n k)
  determined (unfinished s h n) (dead {i} t k) = absurd (dead_alive (machine room) text i k h)
  determined (unfinished s h n) (unfinished t k m) = (refl, refl)
