-- The walk along a chain. The states that begin new parts within one old part are linked, the last first, from the state that begins the old part. So a state has
-- been compared with all that could agree with it when the links end.
--   chain_low, last_more: a state of a chain is below the next to be placed; the last stays the last while none is added
--   ChainTried R old h q p: of the chain only p, and what it leads to, is still to be compared with q
--   tried_first, tried_more, tried_less: comparing along the chain
--   place_old, place_head, place_still, place_found, place_none: the state itself, that which begins the old part, or one of the chain is the first that agrees
--   rank, Facing, facing_in, facing_found, facing_more, facing_less: the walk from the state that begins the old part along its chain
use Prim.Native.Nat.{ℕ, ◌+◌, ◌≤◌, ◌<◌}
use mathlib.Core.Path.{◌≡◌, ◌∙◌}
use mathlib.Core.Bool.{cond}
use mathlib.Core.Logic.{◌⊎◌, inl, inr}
use mathlib.Core.List.{List}
use native.Mathlib.Omega.{arith}
use lib.Dec.{ltb}
use lib.ListN.{get_or}
use Rattle.scope.proofs.Counting.Tests.{split, below, not_below}
use Rattle.parting.specs.Named.{LeastLike, OnePart, Agree}
use Rattle.parting.specs.Chain.{InChain, ChainEnd, Chain}
use Rattle.parting.proofs.Names.{first_own, agree_itself, agree_flip, agree_chain}

-- a state of a chain, or 0 at its end, is below the next to be placed
pub chain_low : (R : ℕ → ℕ → Type 0) (old : List ℕ) (h e l : ℕ) → h < e → (0 < l → InChain R old h e l) → l < e
chain_low R old h e l k w = elim (split 0 l) [ inl x ↦ (w x).below | inr x ↦ omega arith ]

-- and below all that come later
wider : (R : ℕ → ℕ → Type 0) (old : List ℕ) (h e f l : ℕ) → e ≤ f → InChain R old h e l → InChain R old h f l
wider R old h e f l k w = record { above = w.above; below = omega (arith, w.below); begins = w.begins; part = w.part }

-- the last state of a chain stays the last while none is added
pub last_more : (R : ℕ → ℕ → Type 0) (old : List ℕ) (h e l : ℕ) → ChainEnd R old h e l → (InChain R old h (e + 1) e → ⊥) → ChainEnd R old h (e + 1) l
last_more R old h e l d n = record {
  is = λ k. wider R old h e (e + 1) l (omega arith) (d.is k);
  none = λ p k w. elim (split p e) [
    | inl x ↦ d.none p k (record { above = w.above; below = x; begins = w.begins; part = w.part })
    | inr x ↦ (let z : p ≡ e = omega (arith, w.below) in n (rw z at w))
  ];
}

-- how far the walk along a chain is from its end: p, or q where p begins the old part
abbrev pub rank : ℕ → ℕ → ℕ → ℕ
rank h q p = cond (ltb h p) p q

pub record ChainTried (R : ℕ → ℕ → Type 0) (old : List ℕ) (h q p : ℕ) : Type 0 where
  pub is : 0 < p → InChain R old h q p
  pub none : (j : ℕ) → p < j → InChain R old h q j → R j q → ⊥

-- p is h, which begins the old part, or of its chain, and neither h nor one of the chain above p agrees with q
abbrev pub Facing : (ℕ → ℕ → Type 0) → List ℕ → ℕ → ℕ → ℕ → Type 0
Facing R old h q p = (p ≡ h) ⊎ ((0 < p) × ChainTried R old h q p × (R h q → ⊥))

module _ (next : ℕ → ℕ → ℕ) (old : List ℕ) (q : ℕ) (f : LeastLike (OnePart old) q (get_or old q 0)) where
  abbrev R : ℕ → ℕ → Type 0
  R = Agree next old

  abbrev h : ℕ
  h = get_or old q 0

  found : (p : ℕ) → p ≤ q → LeastLike R p p → R p q → LeastLike R q p
  found p l g e = record { low = l; like = e; least = λ j k a. g.least j k (agree_chain next old j q p a (agree_flip next old p q e)) }

  -- a state that begins its old part begins a new one
  pub place_old : q ≤ h → LeastLike R q q
  place_old l = record { low = omega arith; like = agree_itself next old q; least = λ j k a. f.least j (omega arith) a.here }

  -- the state that begins the old part agrees
  place_head : R h q → LeastLike R q h
  place_head e = found h f.low (record { low = omega arith; like = agree_itself next old h; least = λ j k a. f.least j k (a.here ∙ f.like) }) e

  -- so it is too where q begins its old part itself
  pub place_still : (h < q → R h q) → LeastLike R q h
  place_still e = elim (split h q) [
    | inl l ↦ place_head (e l)
    | inr l ↦ (let z : h ≡ q = omega (arith, f.low) in rw z (place_old l))
  ]

  -- a state of the chain agrees
  place_found : (p : ℕ) → InChain R old h q p → R p q → LeastLike R q p
  place_found p w e = found p (omega (arith, w.below)) w.begins e

  module _ (link : List ℕ) (c : Chain R old link q) where
    -- all of the chain is to be compared
    tried_first : h < q → ChainTried R old h q (get_or link h 0)
    tried_first l = let d = c.top h l f.like in record { is = d.is; none = λ j k w a. d.none j k w }

    before : (p : ℕ) → InChain R old h q p → ChainEnd R old h p (get_or link p 0)
    before p w = rw w.part at (c.down p w.below w.begins (omega (arith, w.above, w.part)))

    -- the next of the chain is below
    tried_less : (p : ℕ) → InChain R old h q p → get_or link p 0 < p
    tried_less p w = chain_low R old h p (get_or link p 0) w.above (before p w).is

    -- one state of the chain does not agree
    tried_more : (p : ℕ) → ChainTried R old h q p → 0 < p → (R p q → ⊥) → ChainTried R old h q (get_or link p 0)
    tried_more p t l n =
        let w = t.is l in
        let d = before p w in
        record {
          is = λ k. wider R old h p q (get_or link p 0) (omega (arith, w.below)) (d.is k);
          none = λ j k v a. elim (split j p) [
            | inl x ↦ d.none j k (record { above = v.above; below = x; begins = v.begins; part = v.part })
            | inr x ↦ elim (split p j) [
              | inl y ↦ t.none j y v a
              | inr y ↦ (let z : j ≡ p = omega arith in n (rw z at a))
            ]
          ];
        }

    -- none does: q is the first
    pub place_none : (p : ℕ) → ChainTried R old h q p → p ≤ 0 → (R h q → ⊥) → LeastLike R q q
    place_none p t z n = record { low = omega arith; like = agree_itself next old q; least = λ j l e. go j l e (c.begun j l) }
      where
        go : (j : ℕ) → j < q → R j q → (x : ℕ) × LeastLike R j x → ⊥
        go j l e (x, g) =
            let a : R x q = agree_chain next old x j q g.like e in
            let own = first_own R (agree_itself next old) (agree_flip next old) (agree_chain next old) j x g in
            elim (split h x) [
              | inl k ↦ t.none x (omega arith) (record { above = k; below = omega (arith, g.low); begins = own; part = a.here }) a
              | inr k ↦ elim (split x h) [
                | inl m ↦ f.least x m a.here
                | inr m ↦ (let y : x ≡ h = omega arith in n (rw y at a))
              ]
            ]

    module _ (l : h < q) where
      -- p is of the part of q, and below it
      pub facing_in : (p : ℕ) → Facing R old h q p → (p < q) × OnePart old p q
      facing_in p (inl e) = rw e (l, f.like)
      facing_in p (inr (k, t, n)) = ((t.is k).below, (t.is k).part)

      -- it agrees
      pub facing_found : (p : ℕ) → Facing R old h q p → R p q → LeastLike R q p
      facing_found p (inl e) a = rw e (place_head (rw e at a))
      facing_found p (inr (k, t, n)) a = place_found p (t.is k) a

      -- it does not
      pub facing_more : (p : ℕ) → Facing R old h q p → (R p q → ⊥) → ChainTried R old h q (get_or link p 0) × (R h q → ⊥)
      facing_more p (inl e) n = rw e (tried_first l, rw e at n)
      facing_more p (inr (k, t, m)) n = (tried_more p t k n, m)

      -- the chain falls; the state that begins the old part comes before all of it
      pub facing_less : (p : ℕ) → Facing R old h q p → InChain R old h q (get_or link p 0) → rank h q (get_or link p 0) < rank h q p
      facing_less p (inl e) w = rw ((below h (get_or link p 0)).full w.above, not_below h p (omega arith)) w.below
      facing_less p (inr (k, t, n)) w =
          let v = t.is k in
          rw ((below h (get_or link p 0)).full w.above, (below h p).full v.above) (tried_less p v)
