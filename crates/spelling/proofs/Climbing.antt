-- Climbing: a part that is born later than round r was one with its parent until then, so the first part on the way up that is born by round r is the part
-- after round r.
--   On M part born q r y: y begins a part, and was together with q after round r and until the part was born
--   Above part parent born q r y: so for whatever machine the tree is of
--   climb_first, climb_more, climb_done: the way begins with the part of q, goes up, and ends
--   climb_low, climb_up: the numbers on the way are small, and fall
--   climbs, climbed_together: the arrays can be climbed; two states climb to one part exactly if they are together after that round
use Prim.Native.Nat.{ℕ, ◌-◌, ◌≤◌, ◌<◌}
use mathlib.Core.Path.{◌≡◌}
use mathlib.Core.Logic.{◌↔◌}
use mathlib.Core.List.{List}
use native.Mathlib.Omega.{arith}
use lib.ListN.{get_or}
use Rattle.scope.specs.Machines.Machine.{Machine}
use Rattle.scope.specs.Machines.Rounds.{Together}
use Rattle.scope.proofs.Machines.Rounds.{together_flip, together_chain, together_less, rounds_bound}
use Rattle.two_rooms.specs.Side.{both_limit}
use Rattle.refinement.specs.Refined.{Parent, Refined}
use Rattle.spelling.specs.Climb.{Climbs, Climbed}
use Rattle.parting.proofs.Names.{first_one}
use Rattle.refinement.proofs.RoundTurns.{together_itself, part_own}

pub record On (M : Machine) (part born : List ℕ) (q r y : ℕ) : Type 0 where
  pub inside : y < M.states
  pub name : get_or part y 0 ≡ y
  pub low : y ≤ q
  pub birth : Together M (get_or born y 0) y q
  pub past : Together M r y q

module _ (part parent born : List ℕ) (q r : ℕ) where
  abbrev pub Above : ℕ → Type 0
  Above y = (M : Machine) (k : ℕ) → Refined M part parent born k → q < M.states → r ≤ k → On M part born q r y

  -- the part of q, after all rounds
  pub climb_first : Above (get_or part q 0)
  climb_first M k d h le =
      let x = get_or part q 0 in
      let l : x < M.states = omega (arith, (d.named q h).low) in
      let n = (part_own M k M.states part d.named q h).like in
      record {
        inside = l;
        name = n;
        low = (d.named q h).low;
        birth = together_less M (get_or born x 0) k x q (d.tree x l n).by (d.named q h).like;
        past = together_less M r k x q le (d.named q h).like;
      }

  module _ (y : ℕ) (a : Above y) where
    up : (M : Machine) (k : ℕ) → Refined M part parent born k → q < M.states → r ≤ k → r < get_or born y 0 → Parent M part parent born y
    up M k d h le l = let o = a M k d h le in (d.tree y o.inside o.name).up (omega arith)

    -- a part on the way is a state, and so is the round of its birth
    pub climb_low : Climbs part parent born q r → (y < both_limit) × (get_or born y 0 < both_limit)
    climb_low e =
        let o = a e.machine e.rounds e.refined e.is_state e.past in
        (omega (arith, o.inside, e.few), omega (arith, (e.refined.tree y o.inside o.name).by, rounds_bound e.machine e.refined.closed e.rounds e.refined.last, e.few))

    -- its parent is below
    pub climb_up : Climbs part parent born q r → r < get_or born y 0 → get_or parent y 0 < y
    climb_up e l = (up e.machine e.rounds e.refined e.is_state e.past l).below

    -- with which it was one until then
    pub climb_more : r < get_or born y 0 → Above (get_or parent y 0)
    climb_more l M k d h le =
        let o = a M k d h le in
        let u = up M k d h le l in
        let z = get_or parent y 0 in
        let s = get_or born y 0 - 1 in
        let e : Together M s z q = together_chain M s z y q u.like (together_less M s (get_or born y 0) y q (omega arith) o.birth) in
        record {
          inside = omega (arith, u.below, o.inside);
          name = u.name;
          low = omega (arith, u.below, o.low);
          birth = together_less M (get_or born z 0) s z q (omega (arith, u.older)) e;
          past = together_less M r s z q (omega arith) e;
        }

    -- a part that is born by round r is the part after it
    pub climb_done : get_or born y 0 ≤ r → Climbed part parent born q r y
    climb_done l M k d h le =
        let o = a M k d h le in
        record {
          low = o.low;
          like = o.past;
          least = λ p m e. (d.tree y o.inside o.name).fresh p m
              (together_less M (get_or born y 0) r p y l (together_chain M r p q y e (together_flip M r y q o.past)));
        }

module _ (M : Machine) (part parent born : List ℕ) (k : ℕ) (d : Refined M part parent born k) where
  -- the arrays can be climbed to any round
  pub climbs : (q r : ℕ) → M.states ≤ both_limit → q < M.states → r ≤ k → Climbs part parent born q r
  climbs q r f h l = record { machine = M; rounds = k; refined = d; few = f; is_state = h; past = l }

  -- two states climb to one part exactly if they are together after that round
  pub climbed_together : (p q r x y : ℕ) → p < M.states → q < M.states → r ≤ k → Climbed part parent born p r x → Climbed part parent born q r y
      → (x ≡ y) ↔ Together M r p q
  climbed_together p q r x y hp hq l c e =
      let f = c M k d hp l in
      let g = e M k d hq l in (
        λ z. together_chain M r p x q (together_flip M r x p f.like) (rw z g.like),
        λ t. first_one (Together M r) (together_itself M r) (together_flip M r) (together_chain M r) p q x y t f g,
      )
