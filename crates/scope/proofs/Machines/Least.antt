-- A canonical machine is least: a string that leads to one of its states leads the other machine to a state with the same strings, and no state there
-- serves two, so the pigeonhole counts.
--   least: a canonical machine has no more states than a closed machine for the same strings
use Prim.Native.Nat.{ℕ, ◌≤◌, ◌<◌}
use mathlib.Core.Path.{◌≡◌, sym, ◌∙◌}
use mathlib.Core.List.{List}
use Rattle.scope.specs.Machines.Machine.{Machine, run, Same, Equal, Closed}
use Rattle.scope.specs.Machines.Room.{states_of, machine}
use Rattle.scope.specs.Machines.Canonical.{CanonicalTable}
use Rattle.scope.proofs.Counting.Hole.{pigeon}
use Rattle.scope.proofs.Machines.Run.{run_below, same_after}

-- no closed machine for the same strings has fewer states
pub least : (m : List ℕ) (N : Machine) → CanonicalTable m → Closed N → Equal (machine m) N → states_of m ≤ N.states
least m N c k e = pigeon At (states_of m) N.states place one
  where
    At : ℕ → ℕ → Type 0
    At p v = (p < states_of m) × Same (machine m) p N v

    place : (p : ℕ) → p < states_of m → (v : ℕ) × (v < N.states) × At p v
    place p h =
        let r = c.reached p h in
        (run N 0 r.word, run_below N k 0 r.word k.some r.bytes, (h, rw r.leads at (same_after (machine m) N e r.word r.bytes)))

    one : (p q v : ℕ) → At p v → At q v → p ≡ q
    one p q v (h, a) (l, b) = c.reduced p q h l (λ w g. a w g ∙ sym (b w g))
