-- The cells of a state are noted one after the other: its sign with each state that they lead to.
--   Noting: the loop over the classes of one state
--   noting_first, noting_more, noting_set, noting_again: its first turn, and the others
--   sources_left, sources_right: the sources of one state more
use Prim.Native.Nat.{ℕ, ◌+◌, ◌-◌, ◌%◌, ◌^◌, ◌≤◌, ◌<◌}
use mathlib.Core.Path.{◌≡◌, ◌∙◌}
use mathlib.Core.Bool.{true}
use mathlib.Core.List.{List}
use native.Mathlib.Omega.{arith}
use native.Mathlib.Decide.{ℕ_discrete}
use borrow.Author.Count.{below_more}
use lib.Bits.{bit_or}
use lib.ListN.{length, get_or, set, length-set}
use lib.Seq.{get_or-set_same, get_or-set_other}
use Rattle.scope.specs.Limits.{classes_at}
use Rattle.scope.specs.Positions.Bits.{has}
use Rattle.scope.specs.Machines.Room.{states_of, classes_of, class_of, cell_of, next_of, SoundTable}
use Rattle.two_rooms.specs.Side.{both_limit, both, FirstStates}
use Rattle.two_rooms.proofs.Rooms.{next_left, next_right}
use Rattle.signs.specs.Signs.{signs, Sources, Among, CellsNoted}
use Rattle.signs.proofs.Signs.{or_left, or_right, sign_own}

-- the first c cells are noted; last is the state of such a cell
pub record Noting (room : List ℕ) (base q s : ℕ) (from₀ from : List ℕ) (last c : ℕ) : Type 0 where
  pub within : c ≤ classes_of room
  pub long : length from ≡ both_limit
  pub noted : CellsNoted room base q s from₀ from c
  pub done : Among s (get_or from last 0)

-- s is noted with y besides what was noted
abbrev added : List ℕ → ℕ → ℕ → List ℕ
added from y s = set from y (bit_or (get_or from y 0) s)

module _ (s : ℕ) (from : List ℕ) {y : ℕ} (l : length from ≡ both_limit) (m : y < both_limit) where
  at : get_or (added from y s) y 0 ≡ bit_or (get_or from y 0) s
  at = get_or-set_same from y (bit_or (get_or from y 0) s) 0 (omega arith)

  added_here : Among s (get_or (added from y s) y 0)
  added_here = rw at (or_right (get_or from y 0) s)

  added_still : (x : ℕ) → Among (get_or from x 0) (get_or (added from y s) x 0)
  added_still x = elim (ℕ_discrete x y) [
    | yes z ↦ rw (z, at) (or_left (get_or from y 0) s)
    | no z ↦ rw (get_or-set_other from y x (bit_or (get_or from y 0) s) 0 z) (λ k h. h)
  ]

  added_long : length (added from y s) ≡ both_limit
  added_long = length-set from y (bit_or (get_or from y 0) s) ∙ l

module _ {room : List ℕ} {base q s : ℕ} where
  -- the class 0 leads to y
  pub noting_first : {from : List ℕ} {y : ℕ} → length from ≡ both_limit → 0 < classes_of room → y < both_limit → y ≡ base + cell_of room q 0 → Noting room base q s from (added from y s) y 1
  noting_first {from} {y} l g m e = record {
    within = omega arith;
    long = added_long s from l m;
    noted = record {
      kept = added_still s from l m;
      here = λ c h. let z : c ≡ 0 = omega arith in rw (z, ← e) (added_here s from l m);
    };
    done = added_here s from l m;
  }

  module _ {from₀ from : List ℕ} {last c y : ℕ} (d : Noting room base q s from₀ from last c) (l : c < classes_of room) (m : y < both_limit) (e : y ≡ base + cell_of room q c) where
    -- one class more, which leads to y, where s is noted
    noting_more : {from' : List ℕ} → length from' ≡ both_limit → ((x : ℕ) → Among (get_or from x 0) (get_or from' x 0)) → Among s (get_or from' y 0) → Noting room base q s from₀ from' y (c + 1)
    noting_more {from'} long still here = record {
      within = omega arith;
      long = long;
      noted = record {
        kept = λ x k h. still x k (d.noted.kept x k h);
        here = below_more (λ (j : ℕ). Among s (get_or from' (base + cell_of room q j) 0)) c (λ j h k z. still (base + cell_of room q j) k (d.noted.here j h k z)) (rw (← e) here);
      };
      done = here;
    }

    -- it is noted now
    pub noting_set : Noting room base q s from₀ (added from y s) y (c + 1)
    noting_set = noting_more (added_long s from d.long m) (added_still s from d.long m) (added_here s from d.long m)

    -- or was before
    pub noting_again : y ≡ last → Noting room base q s from₀ from last (c + 1)
    noting_again z = rw (← z) (noting_more d.long (λ x k h. h) (rw z d.done))

module _ {a b : List ℕ} {n : ℕ} (k : FirstStates a b n) {q s : ℕ} {from from' : List ℕ} (e : s ≡ 2 ^ (q % signs)) (f : Sources (both a b).next q from) where
  -- one state more, which a byte leads as its class does in the room
  sources_more : {room : List ℕ} {base p : ℕ} → SoundTable room → CellsNoted room base p s from from' (classes_of room) → ((x : ℕ) → (both a b).next q x ≡ base + next_of room p x)
      → Sources (both a b).next (q + 1) from'
  unfolding next_of
  sources_more {room} u d is r x h l = below_more (λ (r : ℕ). has (get_or from' ((both a b).next r x) 0) (r % signs) ≡ true) q
      (λ r h. d.kept ((both a b).next r x) (r % signs) (f r x h l))
      (rw (is x) (d.here (class_of room x) (u.classes (classes_at + x) (omega arith) (omega arith)) (q % signs) (rw e (sign_own q)))) r h

  -- of a
  pub sources_left : q < states_of a → CellsNoted a 0 q s from from' (classes_of a) → Sources (both a b).next (q + 1) from'
  sources_left h d = sources_more k.left d (λ x. omega (arith, next_left a b q x h))

  -- of b
  pub sources_right : states_of a ≤ q → CellsNoted b (states_of a) (q - states_of a) s from from' (classes_of b) → Sources (both a b).next (q + 1) from'
  sources_right h d = sources_more k.right d (λ x. next_right a b q x h)
