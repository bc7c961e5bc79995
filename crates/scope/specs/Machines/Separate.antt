-- Strings that tell two machines apart.
--   Separates M N w: exactly one of M and N accepts the string w
--   Separation M N w: w is the one that comparing gives: shortest, and of those the first
use Rattle.std.specs.Prelude.{ℕ, ◌≤◌, ◌<◌, ◌≡◌, List, ◌∷◌, ◌++◌, length, take, get_or}
use Rattle.scope.specs.Bytes.{Bytes}
use Rattle.scope.specs.Machines.Machine.{Machine, run}

pub record Separates (M N : Machine) (w : List ℕ) : Type 0 where
  pub bytes : Bytes w
  pub differ : M.accepts (run M 0 w) ≡ N.accepts (run N 0 w) → ⊥

pub record Separation (M N : Machine) (w : List ℕ) : Type 0 where
  pub separates : Separates M N w
  pub shortest : (v : List ℕ) → Separates M N v → length w ≤ length v
  -- "Each byte of the string is the first, ascending, that can still end in a shortest separation."
  pub first : (i c : ℕ) (v : List ℕ) → i < length w → c < get_or w i 0 → length (take i w ++ (c ∷ v)) ≡ length w → Separates M N (take i w ++ (c ∷ v)) → ⊥
