-- One pass over the states: each is placed with the state that begins its new part, and is linked where it begins one.
--   RoundPassed R old new₀ new link parent parent' born born' r opened q: the pass has come to the state q
--   chain_kept, chain_opened: what that does to the links
--   passed_none, passed_stays, passed_joined, passed_opened: a state stays in its part, joins a new one, or opens one
use Prim.Native.Nat.{ℕ, ◌+◌, ◌≤◌, ◌<◌}
use mathlib.Core.Path.{◌≡◌, refl, sym, ◌∙◌}
use mathlib.Core.Bool.{Bool, true, false}
use mathlib.Core.Logic.{inl, inr}
use mathlib.Core.List.{List}
use native.Mathlib.Omega.{arith}
use native.Mathlib.Decide.{ℕ_discrete}
use borrow.Author.Count.{below_more}
use lib.Seq.{get_or-set_same, get_or-set_other, set-get_or}
use lib.ListN.{length, get_or, set, length-set}
use Rattle.scope.proofs.Counting.Tests.{split}
use Rattle.parting.proofs.Links.{last_more}
use Rattle.buffers.specs.Stored.{Decides}
use Rattle.buffers.proofs.OneMore.{holds, fails}
use Rattle.two_rooms.specs.Side.{both_limit}
use Rattle.parting.specs.Named.{LeastLike, Renamed}
use Rattle.parting.specs.Chain.{ChainEnd, Chain}
use Rattle.round.specs.Round.{OpensPart, Opened, Births}
use Rattle.parting.proofs.Names.{renamed_none, renamed_more}

pub record RoundPassed (R : ℕ → ℕ → Type 0) (old new₀ new link parent parent' born born' : List ℕ) (r : ℕ) (opened : Bool) (q : ℕ) : Type 0 where
  pub named : Renamed R new₀ new q
  pub chain : Chain R old link q
  pub zero : (x : ℕ) → q ≤ x → get_or link x 0 ≡ 0
  pub births : Births old new parent parent' born born' r q
  pub some : Decides opened (Opened old new q)
  pub link_long : length link ≡ both_limit

pub passed_none : (R : ℕ → ℕ → Type 0) (old new link parent born : List ℕ) (r : ℕ) → length link ≡ both_limit → ((x : ℕ) → get_or link x 0 ≡ 0) → RoundPassed R old new new link parent parent born born r false 0
passed_none R old new link parent born r long z = record {
  named = renamed_none R new;
  chain = record { top = λ h l. absurd (omega arith); down = λ p l. absurd (omega arith); begun = λ p l. absurd (omega arith) };
  zero = λ x l. z x;
  births = record { made = λ x l. absurd (omega arith); kept = λ x n. (refl, refl); parent_long = refl; born_long = refl };
  some = fails (λ o. omega (arith, o.is_state));
  link_long = long;
}

module _ (R : ℕ → ℕ → Type 0) (old link : List ℕ) (q : ℕ) (c : Chain R old link q) where
  -- a state that opens no part
  chain_kept : (p : ℕ) → LeastLike R q p → get_or link q 0 ≡ 0 → (LeastLike R q q → get_or old q 0 < q → ⊥) → Chain R old link (q + 1)
  chain_kept p f z n = record {
    top = below_more (λ (h : ℕ). get_or old h 0 ≡ h → ChainEnd R old h (q + 1) (get_or link h 0)) q
        (λ h l e. last_more R old h q (get_or link h 0) (c.top h l e) (λ w. n w.begins (omega (arith, w.above, w.part))))
        (λ e. record { is = λ l. absurd (omega arith); none = λ p l w. omega (arith, w.above, w.below) });
    down = below_more (λ (p : ℕ). LeastLike R p p → get_or old p 0 < p → ChainEnd R old (get_or old p 0) p (get_or link p 0)) q c.down (λ g l. absurd (n g l));
    begun = below_more (λ (p : ℕ). (x : ℕ) × LeastLike R p x) q c.begun (p, f);
  }

  -- a state that opens one is the last of its chain
  chain_opened : q < length link → LeastLike R q q → get_or old q 0 < q → get_or old (get_or old q 0) 0 ≡ get_or old q 0
      → Chain R old (set (set link q (get_or link (get_or old q 0) 0)) (get_or old q 0) q) (q + 1)
  chain_opened long f l own =
      let h = get_or old q 0 in
      let v = get_or link h 0 in
      let link' = set (set link q v) h q in
      let at : get_or link' h 0 ≡ q = get_or-set_same (set link q v) h q 0 (omega (arith, length-set link q v)) in
      let off : (x : ℕ) → (x ≡ h → ⊥) → (x ≡ q → ⊥) → get_or link' x 0 ≡ get_or link x 0 =
      λ x m n. get_or-set_other (set link q v) h x q 0 m ∙ get_or-set_other link q x v 0 n in
      let here : get_or link' q 0 ≡ v = get_or-set_other (set link q v) h q q 0 (λ e. omega arith) ∙ get_or-set_same link q v 0 long in
      record {
        top = below_more (λ (x : ℕ). get_or old x 0 ≡ x → ChainEnd R old x (q + 1) (get_or link' x 0)) q
            (λ x k e. elim (ℕ_discrete x h) [
              | yes y ↦ rw (y, at) (record { is = λ m. record { above = l; below = omega arith; begins = f; part = refl }; none = λ p m w. omega (arith, w.below) })
              | no n ↦ rw (off x n (λ y. omega arith)) (last_more R old x q (get_or link x 0) (c.top x k e) (λ w. n (sym w.part)))
            ])
            (λ e. absurd (omega arith));
        down = below_more (λ (p : ℕ). LeastLike R p p → get_or old p 0 < p → ChainEnd R old (get_or old p 0) p (get_or link' p 0)) q
            (λ p k g m. rw (off p (λ y. omega (arith, rw y at m, own)) (λ y. omega arith)) (c.down p k g m))
            (λ g m. rw here (c.top h l own));
        begun = below_more (λ (p : ℕ). (x : ℕ) × LeastLike R p x) q c.begun (q, f);
      }

module _ (old new : List ℕ) (q p : ℕ) where
  opens_set : (x : ℕ) → x < q → OpensPart old new x → OpensPart old (set new q p) x
  opens_set x l o = record { begins = get_or-set_other new q x p 0 (λ e. omega arith) ∙ o.begins; began = o.began }

  opens_old : (x : ℕ) → x < q → OpensPart old (set new q p) x → OpensPart old new x
  opens_old x l o = record { begins = sym (get_or-set_other new q x p 0 (λ e. omega arith)) ∙ o.begins; began = o.began }

  opened_set : Opened old new q → Opened old (set new q p) (q + 1)
  opened_set o = record { state = o.state; is_state = omega (arith, o.is_state); opens = opens_set o.state o.is_state o.opens }

module _ (R : ℕ → ℕ → Type 0) (old new₀ new link parent parent' born born' : List ℕ) (r : ℕ) (opened : Bool) (q : ℕ) (long : q < both_limit) (wide : length new₀ ≡ both_limit)
    (d : RoundPassed R old new₀ new link parent parent' born born' r opened q) where
  -- a state that opens no part
  passed_kept : (p : ℕ) → LeastLike R q p → (LeastLike R q q → get_or old q 0 < q → ⊥) → get_or old q 0 ≤ q → RoundPassed R old new₀ (set new q p) link parent parent' born born' r opened (q + 1)
  passed_kept p f n low =
      let at : get_or (set new q p) q 0 ≡ p = get_or-set_same new q p 0 (omega (arith, d.named.long)) in
      let shut : OpensPart old (set new q p) q → ⊥ =
      λ o. (let e : p ≡ q = sym at ∙ o.begins in n (rw e at f) (omega (arith, o.began))) in
      let b = d.births in
      record {
        named = renamed_more R new₀ new q p (omega arith) d.named f;
        chain = chain_kept R old link q d.chain p f (d.zero q (omega arith)) n;
        zero = λ x l. d.zero x (omega arith);
        births = record {
          made = below_more (λ (x : ℕ). OpensPart old (set new q p) x → (get_or parent' x 0 ≡ get_or old x 0) × (get_or born' x 0 ≡ r)) q
              (λ x l o. b.made x l (opens_old old new q p x l o)) (λ o. absurd (shut o));
          kept = λ x m. b.kept x (λ l o. m (omega arith) (opens_set old new q p x l o));
          parent_long = b.parent_long;
          born_long = b.born_long;
        };
        some = record {
          yes = λ e. opened_set old new q p (d.some.yes e);
          no = λ e o. elim (split o.state q) [
            | inl l ↦ d.some.no e (record { state = o.state; is_state = l; opens = opens_old old new q p o.state l o.opens })
            | inr l ↦ (let z : o.state ≡ q = omega (arith, o.is_state) in shut (rw z at o.opens))
          ];
        };
        link_long = d.link_long;
      }

  -- a state that stays in its part, where its name is there already
  pub passed_stays : get_or new₀ q 0 ≡ get_or old q 0 → LeastLike R q (get_or old q 0) → RoundPassed R old new₀ new link parent parent' born born' r opened (q + 1)
  passed_stays e f =
      let here : get_or new q 0 ≡ get_or old q 0 = d.named.kept q (omega arith) ∙ e in
      let same : set new q (get_or old q 0) ≡ new = rw (← here) (set-get_or new q 0) in
      rw same at (passed_kept (get_or old q 0) f (λ g k. g.least (get_or old q 0) k f.like) f.low)

  -- a state that joins a part
  pub passed_joined : (p : ℕ) → LeastLike R q p → (p ≡ q → ⊥) → get_or old q 0 ≤ q → RoundPassed R old new₀ (set new q p) link parent parent' born born' r opened (q + 1)
  passed_joined p f n low = passed_kept p f (λ g k. g.least p (omega (arith, f.low)) f.like) low

  -- a state that opens one
  pub passed_opened : LeastLike R q q → get_or old q 0 < q → get_or old (get_or old q 0) 0 ≡ get_or old q 0 → length parent ≡ both_limit → length born ≡ both_limit
      → RoundPassed R old new₀ (set new q q) (set (set link q (get_or link (get_or old q 0) 0)) (get_or old q 0) q) parent (set parent' q (get_or old q 0)) born (set born' q r) r true (q + 1)
  passed_opened f l own pl bl =
      let h = get_or old q 0 in
      let v = get_or link h 0 in
      let b = d.births in
      let opens : OpensPart old (set new q q) q = record { begins = get_or-set_same new q q 0 (omega (arith, d.named.long)); began = λ e. omega arith } in
      let offp : (x : ℕ) → (x ≡ q → ⊥) → get_or (set parent' q h) x 0 ≡ get_or parent' x 0 = λ x n. get_or-set_other parent' q x h 0 n in
      let offb : (x : ℕ) → (x ≡ q → ⊥) → get_or (set born' q r) x 0 ≡ get_or born' x 0 = λ x n. get_or-set_other born' q x r 0 n in
      record {
        named = renamed_more R new₀ new q q (omega arith) d.named f;
        chain = chain_opened R old link q d.chain (omega (arith, d.link_long)) f l own;
        zero = λ x k. get_or-set_other (set link q v) h x q 0 (λ e. omega arith) ∙ get_or-set_other link q x v 0 (λ e. omega arith) ∙ d.zero x (omega arith);
        births = record {
          made = below_more (λ (x : ℕ). OpensPart old (set new q q) x → (get_or (set parent' q h) x 0 ≡ get_or old x 0) × (get_or (set born' q r) x 0 ≡ r)) q
              (λ x k o. let m = b.made x k (opens_old old new q q x k o) in (offp x (λ e. omega arith) ∙ m.0, offb x (λ e. omega arith) ∙ m.1))
              (λ o. (get_or-set_same parent' q h 0 (omega (arith, b.parent_long)), get_or-set_same born' q r 0 (omega (arith, b.born_long))));
          kept = λ x m.
              let n : x ≡ q → ⊥ = λ e. m (omega arith) (rw e opens) in
              let k = b.kept x (λ y o. m (omega arith) (opens_set old new q q x y o)) in
              (offp x n ∙ k.0, offb x n ∙ k.1);
          parent_long = length-set parent' q h ∙ b.parent_long;
          born_long = length-set born' q r ∙ b.born_long;
        };
        some = holds (record { state = q; is_state = omega arith; opens = opens });
        link_long = length-set (set link q v) h q ∙ length-set link q v ∙ d.link_long;
      }
