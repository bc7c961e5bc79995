-- The rounds, one after the other. A round that opens a part shows that the last one did not rest; so no more rounds are made than there are, and where a
-- round opens none, nothing splits any more.
--   together_itself: a state is together with itself
--   part_same, part_told, part_own: names after r rounds
--   round_in, round_out: to agree in the parts of one round is to be together after the next
--   named_next: so the names that a pass gives are those of the next round
--   name_stays: a state that begins a part keeps it
--   rests_now, restless_now: a round that opens no part, or one
--   tree_next, tree_kept: the tree after a round that opens a part, or none
--   After M part parent born r: the rounds have come to r, and none of them rested
--   after_none, after_copied, after_own, after_few, after_more, after_done: round 0; its names in another list; its names; how many rounds at most; one more; and the end
use Prim.Native.Nat.{ℕ, suc, ◌+◌, ◌-◌, ◌≤◌, ◌<◌}
use mathlib.Core.Path.{◌≡◌, refl, sym, ◌∙◌}
use mathlib.Core.Logic.{inl, inr}
use mathlib.Core.List.{List}
use native.Mathlib.Numerals.{add-one}
use native.Mathlib.Omega.{arith}
use native.Mathlib.Decide.{ℕ_discrete}
use lib.ListN.{get_or, replicate}
use Rattle.scope.specs.Machines.Machine.{Machine, Closed}
use Rattle.scope.specs.Machines.Rounds.{Together, Rests}
use Rattle.scope.proofs.Counting.Tests.{split}
use Rattle.scope.proofs.Counting.Lists.{zeros}
use Rattle.scope.proofs.Machines.Rounds.{together_in, together_flip, together_chain, rests_later, rounds_stop, rounds_bound}
use Rattle.two_rooms.specs.Side.{both_limit}
use Rattle.parting.specs.Named.{Named, OnePart, Agree}
use Rattle.round.specs.Round.{Opened, Births}
use Rattle.refinement.specs.Refined.{Birth, BirthTree, Refined}
use Rattle.parting.proofs.Names.{named_same, named_told, named_own}

-- a state is together with itself
pub together_itself : (M : Machine) (r p : ℕ) → Together M r p p
together_itself M r p = together_in M r p p (λ w g l. refl)

module _ (M : Machine) (r n : ℕ) (part : List ℕ) (d : Named (Together M r) part n) where
  -- after r rounds two states are in one part exactly if they are together
  pub part_same : (p q : ℕ) → p < n → q < n → OnePart part p q → Together M r p q
  part_same = named_same (Together M r) (together_itself M r) (together_flip M r) (together_chain M r) part n d

  -- the other way round
  pub part_told : (p q : ℕ) → p < n → q < n → Together M r p q → OnePart part p q
  part_told = named_told (Together M r) (together_itself M r) (together_flip M r) (together_chain M r) part n d

  -- the names are those of the parts that they make
  pub part_own : Named (OnePart part) part n
  part_own = named_own (Together M r) (together_itself M r) (together_flip M r) (together_chain M r) part n d

module _ (M : Machine) (c : Closed M) (r : ℕ) (old : List ℕ) (o : Named (Together M r) old M.states) where
  -- what agrees in the parts of a round is together after the next
  round_in : (p q : ℕ) → p < M.states → q < M.states → Agree M.next old p q → Together M (suc r) p q
  round_in p q hp hq g = (
    part_same M r M.states old o p q hp hq g.here,
    λ x h. part_same M r M.states old o (M.next p x) (M.next q x) (c.inside p x hp h) (c.inside q x hq h) (g.there x h),
  )

  -- and the other way round
  round_out : (p q : ℕ) → p < M.states → q < M.states → Together M (suc r) p q → Agree M.next old p q
  round_out p q hp hq e = record {
    here = part_told M r M.states old o p q hp hq e.0;
    there = λ x h. part_told M r M.states old o (M.next p x) (M.next q x) (c.inside p x hp h) (c.inside q x hq h) (e.1 x h);
  }

  -- the names that a pass gives are those of the next round
  named_next : (new : List ℕ) → Named (Agree M.next old) new M.states → Named (Together M (suc r)) new M.states
  named_next new g q h = record {
    low = (g q h).low;
    like = round_in (get_or new q 0) q (omega (arith, (g q h).low)) h (g q h).like;
    least = λ p l e. (g q h).least p l (round_out p q (omega (arith, (g q h).low)) h e);
  }

module _ (M : Machine) (r : ℕ) (old new : List ℕ) (o : Named (Together M r) old M.states) (w : Named (Together M (suc r)) new M.states) where
  -- a state that begins a part keeps it
  name_stays : (x : ℕ) → x < M.states → get_or old x 0 ≡ x → get_or new x 0 ≡ x
  name_stays x h e = elim (split (get_or new x 0) x) [
    | inl l ↦ absurd ((o x h).least (get_or new x 0) (omega arith) (w x h).like.0)
    | inr l ↦ omega (arith, (w x h).low)
  ]

  -- no part is opened: nothing splits
  rests_now : (Opened old new M.states → ⊥) → Rests M r
  rests_now n p q hp hq e = part_same M (suc r) M.states new w p q hp hq (stay p hp ∙ part_told M r M.states old o p q hp hq e ∙ sym (stay q hq))
    where
      begun : (x : ℕ) → x < M.states → get_or new x 0 ≡ x → get_or old x 0 ≡ x
      begun x h e = elim (ℕ_discrete (get_or old x 0) x) [ yes k ↦ k | no k ↦ absurd (n (record { state = x; is_state = h; opens = record { begins = e; began = k } })) ]

      stay : (q : ℕ) → q < M.states → get_or new q 0 ≡ get_or old q 0
      stay q k =
          let l : get_or new q 0 < M.states = omega (arith, (w q k).low) in
          sym (begun (get_or new q 0) l (part_own M (suc r) M.states new w q k).like) ∙ part_told M r M.states old o (get_or new q 0) q l k (w q k).like.0

  -- a part is opened: something split
  restless_now : Opened old new M.states → Rests M r → ⊥
  restless_now f s =
      let x = f.state in
      let l : get_or old x 0 < x = omega (arith, (o x f.is_state).low, f.opens.began) in
      (w x f.is_state).least (get_or old x 0) (omega (arith, f.opens.begins)) (s (get_or old x 0) x (omega (arith, f.is_state)) f.is_state (o x f.is_state).like)

  module _ (parent parent' born born' : List ℕ) (t : BirthTree M r old parent born) (b : Births old new parent parent' born born' (suc r) M.states) where
    -- the tree with the parts that were opened
    tree_next : BirthTree M (suc r) new parent' born'
    tree_next x h e = go (ℕ_discrete (get_or old x 0) x)
      where
        kept : (x : ℕ) → get_or old x 0 ≡ x → (get_or parent' x 0 ≡ get_or parent x 0) × (get_or born' x 0 ≡ get_or born x 0)
        kept x k = b.kept x (λ l y. y.began k)

        go : Dec (get_or old x 0 ≡ x) → Birth M (suc r) new parent' born' x
        go (yes k) =
            let z = t x h k in
            let (ep, eb) = kept x k in
            record {
              by = omega (arith, eb, z.by);
              fresh = rw eb z.fresh;
              up = λ l.
                  let u = z.up (omega (arith, eb)) in
                  let f = kept (get_or parent x 0) u.name in
                  record {
                    below = omega (arith, ep, u.below);
                    name = rw ep (name_stays (get_or parent x 0) (omega (arith, u.below)) u.name);
                    older = rw (ep, eb, f.1) u.older;
                    like = rw (ep, eb) u.like;
                  };
            }
        go (no k) =
            let (ep, eb) = b.made x h (record { begins = e; began = k }) in
            let m : get_or old x 0 < x = omega (arith, (o x h).low, k) in
            let y : get_or old x 0 < M.states = omega arith in
            let n = (part_own M r M.states old o x h).like in
            let f = kept (get_or old x 0) n in
            record {
              by = omega (arith, eb);
              fresh = rw eb (λ p l. (w x h).least p (omega arith));
              up = λ l. record {
                below = omega (arith, ep);
                name = rw ep (name_stays (get_or old x 0) y n);
                older = rw (ep, eb, f.1) (omega (arith, (t (get_or old x 0) y n).by));
                like = let z : suc r - 1 ≡ r = omega arith in rw (ep, eb, z) (o x h).like;
              };
            }

-- a round that opens no part leaves the tree
tree_kept : (M : Machine) (r k : ℕ) (old new parent parent' born born' : List ℕ) → Births old new parent parent' born born' k M.states → (Opened old new M.states → ⊥)
    → BirthTree M r old parent born → BirthTree M r old parent' born'
tree_kept M r k old new parent parent' born born' b n t x h e =
    let kept : (x : ℕ) → (get_or parent' x 0 ≡ get_or parent x 0) × (get_or born' x 0 ≡ get_or born x 0) =
    λ x. b.kept x (λ l o. n (record { state = x; is_state = l; opens = o })) in
    let z = t x h e in
    let (ep, eb) = kept x in
    record {
      by = omega (arith, eb, z.by);
      fresh = rw eb z.fresh;
      up = λ l.
          let u = z.up (omega (arith, eb)) in
          record { below = omega (arith, ep, u.below); name = rw ep u.name; older = rw (ep, eb, (kept (get_or parent x 0)).1) u.older; like = rw (ep, eb) u.like };
    }

pub record After (M : Machine) (part parent born : List ℕ) (r : ℕ) : Type 0 where
  pub named : Named (Together M r) part M.states
  pub tree : BirthTree M r part parent born
  pub restless : (k : ℕ) → k < r → Rests M k → ⊥

-- after round 0 every part is born
pub after_none : (M : Machine) (part : List ℕ) → Named (Together M 0) part M.states → After M part (replicate both_limit 0) (replicate both_limit 0) 0
after_none M part d = record {
  named = d;
  tree = λ x h e. record {
    by = omega (arith, zeros both_limit x);
    fresh = λ p l k. (d x h).least p (omega arith) (rw (zeros both_limit x) at k);
    up = λ l. absurd (omega (arith, zeros both_limit x));
  };
  restless = λ k h. absurd (omega arith);
}

-- only the names of the states count
pub after_copied : {M : Machine} {new parent born : List ℕ} {r : ℕ} (part : List ℕ) → ((q : ℕ) → q < M.states → get_or part q 0 ≡ get_or new q 0) → After M new parent born r → After M part parent born r
after_copied {parent = parent} part e a = record {
  named = λ q h. rw (e q h) (a.named q h);
  tree = λ x h y.
      let b = a.tree x h (sym (e x h) ∙ y) in
      record {
        by = b.by;
        fresh = b.fresh;
        up = λ l. (let u = b.up l in record { below = u.below; name = e (get_or parent x 0) (omega (arith, u.below)) ∙ u.name; older = u.older; like = u.like });
      };
  restless = a.restless;
}

module _ (M : Machine) (c : Closed M) (r : ℕ) (old parent born : List ℕ) (a : After M old parent born r) where
  -- the names are those of the parts that they make
  pub after_own : Named (OnePart old) old M.states
  after_own = part_own M r M.states old a.named

  -- there are at most n - 2 rounds
  pub after_few : r ≤ M.states - 2
  after_few =
      let (k, s) = rounds_stop M c in
      elim (split k r) [ inl l ↦ absurd (a.restless k l s.rests) | inr l ↦ omega (arith, rounds_bound M c k s) ]

  module _ (new parent' born' : List ℕ) (g : Named (Agree M.next old) new M.states) (b : Births old new parent parent' born born' (r + 1) M.states) where
    -- a round that opened a part
    pub after_more : Opened old new M.states → After M new parent' born' (r + 1)
    after_more f =
        let w = named_next M c r old a.named new g in
        let n = restless_now M r old new a.named w f in
        rw add-one (record {
          named = w;
          tree = tree_next M r old new a.named w parent parent' born born' a.tree (rw add-one at b);
          restless = λ k h s. n (rests_later M c k r (omega arith) s);
        })

    -- a round that opened none
    pub after_done : (Opened old new M.states → ⊥) → Refined M old parent' born' r
    after_done n =
        let w = named_next M c r old a.named new g in
        record {
          closed = c;
          named = a.named;
          tree = tree_kept M r (r + 1) old new parent parent' born born' b n a.tree;
          last = record { rests = rests_now M r old new a.named w n; least = a.restless };
        }
