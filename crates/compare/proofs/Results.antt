-- Results. The rooms hold one machine, or the starts lie in one part when nothing splits any more: the machines are the same. Else the string room holds the string.
--   answer_twins: the rooms hold one machine
--   answer_same, answer_apart, answer_spells, answer_fits, answer_separated: the starts lie in one part; else the string is as long as their distance, and is written
--   compares_within: the string is no longer than the rounds, and these are at most s + t - 2
--   compares_fits: it fits into the string room
use Prim.Native.Nat.{ℕ, ◌+◌, ◌-◌, ◌≤◌, ◌<◌}
use mathlib.Core.Path.{refl}
use mathlib.Core.List.{List}
use native.Mathlib.Omega.{arith}
use Rattle.scope.specs.Answers.{SAME, SEPARATED}
use Rattle.scope.specs.Limits.{word_bytes}
use Rattle.scope.specs.Machines.Room.{states_of, machine, Sound}
use Rattle.scope.specs.Machines.Rounds.{Rounds}
use Rattle.scope.specs.Operations.Compare.{Compares, no_room, no_form, same, separated}
use Rattle.scope.proofs.Machines.Run.{sound_closed}
use Rattle.scope.proofs.Machines.SameMoves.{SameMoves, agree_same}
use Rattle.scope.proofs.Machines.Aside.{rounds_two}
use Rattle.scope.proofs.Machines.Separate.{equal_by, word_within}
use Rattle.two_rooms.specs.Side.{both}
use Rattle.parting.specs.Named.{OnePart}
use Rattle.refinement.specs.Refined.{Refined}
use Rattle.refinement.proofs.Refined.{refined_together, both_few}
use Rattle.compare.specs.Twins.{Twins}
use Rattle.spelling.specs.Word.{Apart, Between, Spells, WordHas}
use Rattle.compare.specs.CompareAnswer.{AnswersCompare}
use Rattle.compare.proofs.Twins.{twins_agree, rounds_twice}

-- the rooms hold one machine
pub answer_twins : {a b word : List ℕ} {rounds : ℕ} → Sound a → Sound b → Twins a b → Rounds (machine a) rounds → AnswersCompare a b word word SAME 0 rounds
answer_twins {a} {b} {rounds = rounds} s t e d bytes bytes' words words' lent clear =
    let c = sound_closed a s.table in
    let m : SameMoves (machine a) (machine b) = twins_agree a b s.table e in
    same lent s t (agree_same (machine a) (machine b) c m 0 s.table.some_state) (rounds_twice (machine a) (machine b) c m rounds d) refl clear

module _ {a b part parent born : List ℕ} {rounds : ℕ} (s : Sound a) (t : Sound b) (d : Refined (both a b) part parent born rounds) where
  first : 0 < states_of a + states_of b
  first = omega (arith, s.table.some_state)

  second : states_of a < states_of a + states_of b
  second = omega (arith, t.table.some_state)

  -- the starts lie in one part
  pub answer_same : {word : List ℕ} → OnePart part 0 (states_of a) → AnswersCompare a b word word SAME 0 rounds
  answer_same e bytes bytes' words words' lent clear = same lent s t
      (equal_by (machine a) (machine b) (sound_closed a s.table) (sound_closed b t.table) rounds d.last
      ((refined_together (both a b) part parent born rounds d 0 (states_of a) first second).0 e))
      d.last refl clear

  -- they do not: their distance can be found
  pub answer_apart : (OnePart part 0 (states_of a) → ⊥) → Apart part parent born 0 (states_of a) rounds
  answer_apart n = record { machine = both a b; refined = d; few = omega (arith, s.table.few_states, t.table.few_states); left = first; right = second; two = n }

  -- then the string can be spelled
  pub answer_spells : {n : ℕ} → Between part parent born 0 (states_of a) rounds n n → Spells a b part parent born n
  answer_spells e = record { left = s.table; right = t.table; rounds = rounds; refined = d; within = e.within; parted = e.parted (both a b) d first second }

  -- and fits
  pub answer_fits : {n : ℕ} → Between part parent born 0 (states_of a) rounds n n → n ≤ word_bytes
  answer_fits e = omega (arith, e.within, both_few a b part parent born rounds s.table t.table d, s.table.few_states, t.table.few_states)

  -- it is written
  pub answer_separated : {word word' : List ℕ} {n : ℕ} → WordHas a b word word' n → AnswersCompare a b word word' SEPARATED n rounds
  answer_separated h bytes bytes' words words' lent clear = separated lent s t h.separation h.long d.last h.written clear

-- the string is no longer than the rounds, and these are at most s + t - 2
pub compares_within : {left right word word' bytes bytes' words words' : List ℕ} {i n r : ℕ} → Compares left right word word' bytes bytes' words words' i n r
    → (n ≤ r) × (r ≤ states_of left + states_of right - 2)
compares_within (no_room h k t) = omega arith
compares_within (no_form l f k t) = omega arith
compares_within {left} {right} {r = r} (same l s t e z k c) = omega (arith, rounds_two (machine left) (machine right) (sound_closed left s.table) (sound_closed right t.table) r z)
compares_within {left} {right} {r = r} (separated {w = w} l s t e n z k c) = omega (
  arith,
  rounds_two (machine left) (machine right) (sound_closed left s.table) (sound_closed right t.table) r z,
  word_within (machine left) (machine right) (sound_closed left s.table) (sound_closed right t.table) r w z e,
)

-- it fits into the string room
pub compares_fits : {left right word word' bytes bytes' words words' : List ℕ} {i n r : ℕ} → Compares left right word word' bytes bytes' words words' i n r → n ≤ word_bytes
compares_fits (no_room h k t) = omega arith
compares_fits (no_form l f k t) = omega arith
compares_fits (same l s t e z k c) = omega arith
compares_fits (separated l s t e n z k c) = omega (arith, compares_within (separated l s t e n z k c), s.table.few_states, t.table.few_states)
