-- What building is given, and what it answers.
--   Given e bytes words count last null: the scratch holds the sets of positions of the expression e
--   MadeRoom e m: the room m is sound and has the words of e, which has few classes and sets
--   BuildOutcome e m r: what each answer says of e
--   Builds bytes words count last null bytes' words' r: the answer r, for every expression whose sets were given, and what the scratch keeps
use Rattle.std.specs.Prelude.{ℕ, ◌+◌, ◌*◌, ◌<◌, ◌≤◌, ◌≡◌, Bool, Result, Ok, Err, List, drop}
use Rattle.scope.specs.Limits.{byte_values, state_limit, ways_at, set_words}
use Rattle.scope.specs.Text.Re.{Re, size, Words}
use Rattle.scope.specs.Positions.Bits as bits
use Rattle.scope.specs.Operations.Buffers.{TailKept}
use Rattle.scope.specs.Machines.Machine.{Recognises}
use Rattle.scope.specs.Positions.Reached.{ManyClasses, FewClasses, ManySets, FewSets}
use Rattle.scope.specs.Machines.Room.{machine, SoundTable}
use Rattle.sets.specs.Value.{set_at}
use Rattle.sets.specs.Layout.{held, image_at, sets_at}
use Rattle.answers.specs.declared.Excess.{Excess}

pub record Given (e : Re) (bytes words : List ℕ) (count last : ℕ) (null : Bool) : Type 0 where
  pub positions : size e ≡ count
  -- the set number p is where the position p leads; that of 0, the state at the start, is First
  pub follow : (p : ℕ) → p ≤ count → set_at words p ≡ bits.after_position e p
  -- the byte set number p has the bytes of the position p + 1
  pub holds : (p b : ℕ) → p < count → b < byte_values → held bytes p b ≡ bits.has (bits.holders e 0 b) (p + 1)
  pub ends : last ≡ bits.last e 0
  pub empty : null ≡ bits.null e

pub record MadeRoom (e : Re) (m : List ℕ) : Type 0 where
  pub sound : SoundTable m
  pub words : Recognises (machine m) (Words e)
  pub few_classes : FewClasses e
  pub few_sets : FewSets e

abbrev pub BuildOutcome : Re → List ℕ → Result (Unit {0}) Excess → Type 0
BuildOutcome e m (Ok _) = MadeRoom e m
BuildOutcome e m (Err Excess.Classes) = ManyClasses e
BuildOutcome e m (Err Excess.States) = FewClasses e × ManySets e

pub record Builds (bytes words : List ℕ) (count last : ℕ) (null : Bool) (bytes' words' : List ℕ) (r : Result (Unit {0}) Excess) : Type 0 where
  pub outcome : (e : Re) → Given e bytes words count last null → BuildOutcome e (drop image_at bytes') r
  pub bytes_kept : TailKept (image_at + ways_at) bytes bytes'
  pub words_kept : TailKept ((sets_at + state_limit) * set_words) words words'
