-- What could have stood there. 02: "The matcher's Dead answer now also carries, for each of the 256 byte values, whether that byte after the last completable prefix would
-- have kept the string completable".
--   Marked P x: x is 1 if P holds, else 0
--   CouldStand M s i b: the byte b could have stood where s died, at the place i
--   MarksOf P e: e marks the byte values of which P holds
--   Expected M s i e: e marks the bytes that could have stood there
--   MatchTells: what matching tells, beside its answer. Index: number, place
--   EndedBefore M s i: the last completable prefix is complete, and nothing continues it
--   CanFollow M w e: e marks the bytes that keep w completable
-- Determined: of a proposition there is one mark.
use Rattle.std.specs.Prelude.{ℕ, suc, ◌<◌, ◌≡◌, List, [], ◌∷◌, ◌++◌, length, get_or, take}
use Rattle.scope.specs.Answers.{DEAD}
use Rattle.scope.specs.Bytes.{Bytes}
use Rattle.scope.specs.Limits.{byte_values}
use Rattle.scope.specs.Machines.Machine.{Machine, Accepts, Completable}
use Rattle.scope.specs.Machines.Room.{machine}

-- yes and no
pub data Marked (P : Type 0) : ℕ → Type 0 where
  can : P → Marked P 1
  cannot : (P → ⊥) → Marked P 0

-- "for each of the 256 byte values"
pub record MarksOf (P : ℕ → Type 0) (e : List ℕ) : Type 0 where
  pub size : length e ≡ byte_values
  pub marks : (b : ℕ) → b < byte_values → Marked (P b) (get_or e b 0)

-- "that byte after the last completable prefix would have kept the string completable; at place 0 all are no"
pub record CouldStand (M : Machine) (s : List ℕ) (i b : ℕ) : Type 0 where
  pub before : ℕ
  pub last : suc before ≡ i
  pub goes_on : Completable M (take before s ++ (b ∷ []))

abbrev pub Expected : Machine → List ℕ → ℕ → List ℕ → Type 0
Expected M s i = MarksOf (CouldStand M s i)

-- "The matcher's Dead answer now also carries": with every other answer nothing is written
module _ (room text e e' : List ℕ) where
  pub data MatchTells : ℕ → ℕ → Type 0 where
    marked : {i : ℕ} → Expected (machine room) text i e' → MatchTells DEAD i
    kept : {number i : ℕ} → (number ≡ DEAD → ⊥) → e' ≡ e → MatchTells number i

-- the last completable prefix is accepted, and with any bytes behind it it is not
pub record EndedBefore (M : Machine) (s : List ℕ) (i : ℕ) : Type 0 where
  pub before : ℕ
  pub last : suc before ≡ i
  pub accepted : Accepts M (take before s)
  pub ends : (b : ℕ) (u : List ℕ) → Bytes (b ∷ u) → Accepts M (take before s ++ (b ∷ u)) → ⊥

-- the bytes that keep a string completable
abbrev pub CanFollow : Machine → List ℕ → List ℕ → Type 0
CanFollow M w = MarksOf (λ b. Completable M (w ++ (b ∷ [])))
