-- The image: the classes, the rows of the reached sets, the head and the marks.
--   mark_by finals s: 1 if s has a final position, else 0
--   MapWritten o o' map: an image with the classes, and zeros after them
--   Stated o o' set n k finals: an image with n, k and the marks of n sets, else as it was
--   ClassMap map k: classes of the 256 byte values, 1 to 64, each with a byte
--   DescribedBy e w m map finals: the buffers hold the sets of the expression e
--   ImageAnswer o w m map finals o' w' r: what determinising answers and keeps; for every expression that the buffers describe, what it makes
use Rattle.std.specs.Prelude.{ℕ, ◌+◌, ◌*◌, ◌<◌, ◌≤◌, ◌≡◌, cond, Result, Ok, Err, List, ◌⊎◌, eqb, length, get_or}
use Rattle.std.specs.Int.Bits.{bit_and}
use Rattle.scope.specs.Limits.{byte_values, class_limit, state_limit, position_limit, classes_at, marks_at, ways_at, set_words}
use Rattle.scope.specs.Text.Re.{Re, size, Words}
use Rattle.scope.specs.Positions.Bits.{holders, after_position, final}
use Rattle.scope.specs.Operations.Buffers.{TailKept}
use Rattle.scope.specs.Machines.Machine.{Recognises}
use Rattle.scope.specs.Positions.Reached.{ManySets, FewSets}
use Rattle.scope.specs.Machines.Room.{states_of, classes_of, class_of, mark_of, machine, SoundTable}
use Rattle.sets.specs.Value.{set_at}
use Rattle.sets.specs.Layout.{sets_at}
use Rattle.answers.specs.declared.Excess.{Excess}

abbrev pub mark_by : ℕ → ℕ → ℕ
mark_by finals s = cond (eqb (bit_and s finals) 0) 0 1

pub record MapWritten (o o' map : List ℕ) : Type 0 where
  pub size : length o' ≡ length o
  pub classes : (b : ℕ) → b < byte_values → class_of o' b ≡ get_or map b 0
  pub rest : (i : ℕ) → i < ways_at → marks_at ≤ i → get_or o' i 0 ≡ 0
  pub tail : (i : ℕ) → ways_at ≤ i → get_or o' i 0 ≡ get_or o i 0

pub record Stated (o o' : List ℕ) (set : ℕ → ℕ) (n k finals : ℕ) : Type 0 where
  pub size : length o' ≡ length o
  pub states : states_of o' ≡ n
  pub count : classes_of o' ≡ k
  pub marks : (q : ℕ) → q < n → mark_of o' q ≡ mark_by finals (set q)
  pub others : (i : ℕ) → classes_at ≤ i → (i < marks_at) ⊎ (marks_at + n ≤ i) → get_or o' i 0 ≡ get_or o i 0

pub record ClassMap (map : List ℕ) (k : ℕ) : Type 0 where
  pub some : 1 ≤ k
  pub few : k ≤ class_limit
  pub below : (b : ℕ) → b < byte_values → get_or map b 0 < k
  pub used : (c : ℕ) → c < k → (b : ℕ) × (b < byte_values) × (get_or map b 0 ≡ c)

pub record DescribedBy (e : Re) (w m map : List ℕ) (finals : ℕ) : Type 0 where
  pub small : size e ≤ position_limit
  pub follow : (p : ℕ) → p ≤ size e → set_at w p ≡ after_position e p
  pub masks : (b : ℕ) → b < byte_values → set_at m (get_or map b 0) ≡ holders e 0 b
  pub ends : finals ≡ final e

-- by cases on the answer
abbrev pub ImageCase : List ℕ → List ℕ → List ℕ → ℕ → List ℕ → Result (Unit {0}) Excess → Type 0
ImageCase w m map finals o (Ok _) = (e : Re) → DescribedBy e w m map finals → SoundTable o × Recognises (machine o) (Words e) × FewSets e
ImageCase w m map finals o (Err Excess.Classes) = ⊥
ImageCase w m map finals o (Err Excess.States) = (e : Re) → DescribedBy e w m map finals → ManySets e

pub record ImageAnswer (o w m map : List ℕ) (finals : ℕ) (o' w' : List ℕ) (r : Result (Unit {0}) Excess) : Type 0 where
  pub image : TailKept ways_at o o'
  pub words : TailKept ((sets_at + state_limit) * set_words) w w'
  pub made : ImageCase w m map finals o' r
