-- What the refinement says to those who use it. To compare, it is made of all states of two rooms: `side a b (s + t)` is `aside (machine a) (machine b)`, so that
-- the laws on `Refined` speak of that machine. To minimise, it is made of the states of one room, which runs alone as it does beside another.
--   refined_together: in the end two states are in one part exactly if they are together after the last round
--   both_few: two rooms: there are at most s + t - 2 rounds
--   left_parts: one room: its parts are the states that no string tells apart
--   left_rounds: and its rounds are those of its machine
--   left_alone: so it is refined alone
use Prim.Native.Nat.{ℕ, ◌+◌, ◌≤◌, ◌<◌}
use mathlib.Core.Path.{refl, sym, ◌∙◌}
use mathlib.Core.Logic.{◌↔◌}
use mathlib.Core.List.{List}
use native.Mathlib.Omega.{arith}
use lib.ListN.{get_or}
use Rattle.scope.specs.Machines.Machine.{Machine, Same}
use Rattle.scope.specs.Machines.Room.{states_of, machine, SoundTable}
use Rattle.scope.specs.Machines.Rounds.{Together, Rounds}
use Rattle.scope.proofs.Counting.Tests.{below}
use Rattle.scope.proofs.Machines.SameMoves.{agree_rounds}
use Rattle.scope.proofs.Machines.Rounds.{together_in, rests_same}
use Rattle.scope.proofs.Machines.Run.{sound_closed}
use Rattle.scope.proofs.Machines.Aside.{left_run, rounds_two}
use Rattle.two_rooms.specs.Side.{both, side}
use Rattle.two_rooms.specs.Kinds.{Kinds, Column}
use Rattle.two_rooms.proofs.Rooms.{next_left}
use Rattle.parting.specs.Named.{Named, OnePart}
use Rattle.refinement.specs.Refined.{Refined, PartsOf, RefinedAlone}
use Rattle.parting.proofs.Names.{named_same, named_told, named_name, named_below}
use Rattle.refinement.proofs.RoundTurns.{part_same, part_told}

module _ (M : Machine) (part parent born : List ℕ) (k : ℕ) (d : Refined M part parent born k) where
  -- in the end two states are in one part exactly if they are together after the last round
  pub refined_together : (p q : ℕ) → p < M.states → q < M.states → OnePart part p q ↔ Together M k p q
  refined_together p q hp hq = (part_same M k M.states part d.named p q hp hq, part_told M k M.states part d.named p q hp hq)

  refined_same : Named (λ p q. Same M p M q) part M.states
  refined_same q h =
      let f = d.named q h in
      record {
        low = f.low;
        like = rests_same M d.closed k (get_or part q 0) q (omega (arith, f.low)) h d.last.rests f.like;
        least = λ p l s. f.least p l (together_in M k p q (λ w g m. s w g));
      }

module _ (a b part parent born : List ℕ) (rounds : ℕ) (s : SoundTable a) (t : SoundTable b) where
  -- two rooms: there are at most s + t - 2 rounds
  pub both_few : Refined (side a b (states_of a + states_of b)) part parent born rounds → rounds + 2 ≤ states_of a + states_of b
  both_few d = rounds_two (machine a) (machine b) (sound_closed a s) (sound_closed b t) rounds d.last

  -- one room: its parts are the states that no string tells apart
  pub left_parts : Refined (side a b (states_of a)) part parent born rounds → PartsOf (machine a) part
  left_parts d = record {
    low = λ q h. (f q h).low;
    inside = named_below R itself flip chain part (states_of a) f;
    name = named_name R itself flip chain part (states_of a) f;
    same = named_same R itself flip chain part (states_of a) f;
    told = named_told R itself flip chain part (states_of a) f;
  }
    where
      R : ℕ → ℕ → Type 0
      R p q = Same (machine a) p (machine a) q

      itself : (p : ℕ) → R p p
      itself p w g = refl

      flip : (p q : ℕ) → R p q → R q p
      flip p q e w g = sym (e w g)

      chain : (p q t : ℕ) → R p q → R q t → R p t
      chain p q t e f w g = e w g ∙ f w g

      alone : (q : ℕ) → q < states_of a → Same (both a b) q (machine a) q
      alone q h w g = left_run (machine a) (machine b) (sound_closed a s) (sound_closed b t) q w h g

      f : Named R part (states_of a)
      f q h =
          let e = refined_same (side a b (states_of a)) part parent born rounds d q h in
          record {
            low = e.low;
            like = λ w g. sym (alone (get_or part q 0) (omega (arith, e.low)) w g) ∙ e.like w g ∙ alone q h w g;
            least = λ p l z. e.least p l (λ w g. alone p (omega (arith, e.low)) w g ∙ z w g ∙ sym (alone q h w g));
          }

-- the states of a room move beside another as they do alone
pub left_rounds : (a b : List ℕ) {part parent born : List ℕ} {r : ℕ} → Refined (side a b (states_of a)) part parent born r → Rounds (machine a) r
left_rounds a b {r = r} d = agree_rounds (side a b (states_of a)) (machine a) d.closed
    (record { states = refl; next = λ q x h k. next_left a b q x h; marks = λ q h. rw ((below q (states_of a)).full h) refl }) r d.last

-- kinds, columns and parts of one room beside itself
pub left_alone : {a least column part parent born : List ℕ} {kinds rounds : ℕ} → SoundTable a → Kinds a a least kinds → Column a least column kinds
    → Refined (side a a (states_of a)) part parent born rounds → RefinedAlone a column part kinds rounds
left_alone {a} {least} {column} {part} {parent} {born} {kinds} {rounds} s k c d =
    record { least = least; bytes = k; columns = c; parts = left_parts a a part parent born rounds s s d; last = left_rounds a a d }
