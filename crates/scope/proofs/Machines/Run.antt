-- Runs. A string in two parts leads on from where its first part led, and a closed machine never leaves its states; so machines that agree on those
-- states, or at 0, stay alike along every string.
--   walk_append, run_append, bytes_append: a string in two parts
--   bytes_take, bytes_known: a prefix of a string of bytes; elements below 256 are one
--   run_below: a closed machine stays among its states
--   run_agree: two machines that step alike from the states of one run alike
--   same_after: two machines that accept the same strings do so from wherever one string leads
--   sound_closed: a sound table holds a closed machine
use Prim.Native.Nat.{ℕ, zero, suc, ◌+◌, ◌*◌, ◌<◌}
use mathlib.Core.Path.{◌≡◌, refl, ap, ◌∙◌}
use mathlib.Core.List.{List, [], ◌∷◌, ◌++◌}
use native.Mathlib.Omega.{arith}
use lib.ListN.{take, get_or}
use Rattle.scope.specs.Limits.{byte_values, cells_at}
use Rattle.scope.specs.Bytes.{Bytes}
use Rattle.scope.specs.Machines.Machine.{walk, Machine, run, Same, Equal, Closed}
use Rattle.scope.specs.Machines.Room.{classes_of, class_of, next_of, machine, SoundTable}
use Rattle.scope.proofs.Machines.Room.{cell_used}

-- the second part is read from where the first led, whatever the steps
pub walk_append : {A : Type 0} (step : A → ℕ → A) (q : A) (u v : List ℕ) → walk step q (u ++ v) ≡ walk step (walk step q u) v
walk_append step q [] v = refl
walk_append step q (b ∷ u) v = walk_append step (step q b) u v

-- and so in a machine
pub run_append : (M : Machine) (q : ℕ) (u v : List ℕ) → run M q (u ++ v) ≡ run M (run M q u) v
run_append M = walk_append M.next

-- two strings of bytes make one
pub bytes_append : (u v : List ℕ) → Bytes u → Bytes v → Bytes (u ++ v)
bytes_append [] v g h = h
bytes_append (b ∷ u) v g h = (g.0, bytes_append u v g.1 h)

pub bytes_take : (n : ℕ) (s : List ℕ) → Bytes s → Bytes (take n s)
bytes_take zero s g = tt
bytes_take (suc n) [] g = tt
bytes_take (suc n) (b ∷ s) g = (g.0, bytes_take n s g.1)

pub bytes_known : (s : List ℕ) → ((i : ℕ) → get_or s i 0 < byte_values) → Bytes s
bytes_known [] f = tt
bytes_known (b ∷ s) f = (f 0, bytes_known s (λ i. f (suc i)))

-- a string of bytes leads from a state to a state
pub run_below : (M : Machine) → Closed M → (q : ℕ) (w : List ℕ) → q < M.states → Bytes w → run M q w < M.states
run_below M c q [] h g = h
run_below M c q (b ∷ w) h g = run_below M c (M.next q b) w (c.inside q b h g.0) g.1

-- where the steps from M's states are those of N, so are the runs
pub run_agree :
    (M N : Machine) → Closed M → ((q b : ℕ) → q < M.states → b < byte_values → M.next q b ≡ N.next q b) → (q : ℕ) (w : List ℕ) → q < M.states → Bytes w
    → run M q w ≡ run N q w
run_agree M N c e q [] h g = refl
run_agree M N c e q (b ∷ w) h g = run_agree M N c e (M.next q b) w (c.inside q b h g.0) g.1 ∙ ap (λ (p : ℕ). run N p w) (e q b h g.0)

-- no string tells apart the two states that one string leads to
pub same_after : (M N : Machine) → Equal M N → (u : List ℕ) → Bytes u → Same M (run M 0 u) N (run N 0 u)
same_after M N e u g w h = rw (← run_append M 0 u w, ← run_append N 0 u w) (e (u ++ w) (bytes_append u w g h))

-- the machine of a sound table is closed
pub sound_closed : (m : List ℕ) → SoundTable m → Closed (machine m)
unfolding next_of
sound_closed m s = record {
  some = s.some_state;
  inside = λ q b h k. s.cells (cells_at + (q * classes_of m + class_of m b)) (omega (arith, cell_used m s q b h k)) (omega arith);
}
