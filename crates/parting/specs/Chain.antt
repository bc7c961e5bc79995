-- The states that begin new parts within one old part are linked, from the state that begins the old one; old has the parts before.
--   InChain R old h e l: l is below e and begins a new part within the old part that h begins
--   ChainEnd R old h e l: l is the last such state; 0 if there is none
--   Chain R old link e: from h, link leads to the last such state, and from each to the one before it; each state below e has a first
use Rattle.std.specs.Prelude.{ℕ, ◌<◌, ◌≡◌, List, get_or}
use Rattle.parting.specs.Named.{LeastLike}

pub record InChain (R : ℕ → ℕ → Type 0) (old : List ℕ) (h e l : ℕ) : Type 0 where
  pub above : h < l
  pub below : l < e
  pub begins : LeastLike R l l
  pub part : get_or old l 0 ≡ h

pub record ChainEnd (R : ℕ → ℕ → Type 0) (old : List ℕ) (h e l : ℕ) : Type 0 where
  pub is : 0 < l → InChain R old h e l
  pub none : (p : ℕ) → l < p → InChain R old h e p → ⊥

pub record Chain (R : ℕ → ℕ → Type 0) (old link : List ℕ) (e : ℕ) : Type 0 where
  pub top : (h : ℕ) → h < e → get_or old h 0 ≡ h → ChainEnd R old h e (get_or link h 0)
  pub down : (p : ℕ) → p < e → LeastLike R p p → get_or old p 0 < p → ChainEnd R old (get_or old p 0) p (get_or link p 0)
  pub begun : (p : ℕ) → p < e → (x : ℕ) × LeastLike R p x
