-- Naming by the least member. Where R is an equivalence, two states have one name exactly if R relates them, and a name is its own name.
--   first_own, first_one: a first state is the first of its own; related states have one first state
--   named_same, named_told, named_below, named_name, named_own: two states have one name exactly if R relates them, and so on for the names in a list
--   named_none, named_more, renamed_none, renamed_more: names are stored one after the other
--   agree_itself, agree_flip, agree_chain: to agree is an equivalence
use Prim.Native.Nat.{ℕ, ◌+◌, ◌<◌}
use mathlib.Core.Path.{◌≡◌, refl, sym, ◌∙◌}
use mathlib.Core.List.{List}
use native.Mathlib.Omega.{arith}
use borrow.Author.Count.{below_more}
use lib.Seq.{get_or-set_same, get_or-set_other}
use lib.ListN.{length, get_or, set, length-set}
use Rattle.scope.proofs.Counting.Tests.{level}
use Rattle.parting.specs.Named.{LeastLike, Named, Renamed, OnePart, Agree}

module _ (R : ℕ → ℕ → Type 0) (itself : (p : ℕ) → R p p) (flip : (p q : ℕ) → R p q → R q p) (chain : (p q t : ℕ) → R p q → R q t → R p t) where
  -- a first state is the first of its own
  pub first_own : (q x : ℕ) → LeastLike R q x → LeastLike R x x
  first_own q x f = record { low = omega arith; like = itself x; least = λ p l e. f.least p l (chain p x q e f.like) }

  -- related states have one first state
  pub first_one : (p q x y : ℕ) → R p q → LeastLike R p x → LeastLike R q y → x ≡ y
  first_one p q x y e f g = level x y
      (λ l. g.least x l (chain x p q f.like e))
      (λ l. f.least y l (chain y q p g.like (flip p q e)))

  module _ (part : List ℕ) (n : ℕ) (d : Named R part n) where
    -- states of one name are related
    pub named_same : (p q : ℕ) → p < n → q < n → OnePart part p q → R p q
    named_same p q hp hq e = chain p (get_or part p 0) q (flip (get_or part p 0) p (d p hp).like) (rw e (d q hq).like)

    -- related states have one name
    pub named_told : (p q : ℕ) → p < n → q < n → R p q → OnePart part p q
    named_told p q hp hq e = first_one p q (get_or part p 0) (get_or part q 0) e (d p hp) (d q hq)

    -- a name is one of the states
    pub named_below : (q : ℕ) → q < n → get_or part q 0 < n
    named_below q h = omega (arith, (d q h).low)

    -- a name is its own name
    pub named_name : (q : ℕ) → q < n → get_or part (get_or part q 0) 0 ≡ get_or part q 0
    named_name q h = named_told (get_or part q 0) q (named_below q h) h (d q h).like

    -- so the names are those of the parts that they make
    pub named_own : Named (OnePart part) part n
    named_own q h = record { low = (d q h).low; like = named_name q h; least = λ p l e. (d q h).least p l (named_same p q (omega (arith, (d q h).low)) h e) }

-- no name is stored yet
pub named_none : (R : ℕ → ℕ → Type 0) (part : List ℕ) → Named R part 0
named_none R part q h = absurd (omega arith)

-- nor has any taken the place of another
pub renamed_none : (R : ℕ → ℕ → Type 0) (part : List ℕ) → Renamed R part part 0
renamed_none R part = record { named = named_none R part; kept = λ x l. refl; long = refl }

-- one more name is stored
pub named_more : (R : ℕ → ℕ → Type 0) (part : List ℕ) (q x : ℕ) → q < length part → Named R part q → LeastLike R q x → Named R (set part q x) (q + 1)
named_more R part q x h d f = below_more (λ (i : ℕ). LeastLike R i (get_or (set part q x) i 0)) q
    (λ i l. rw (get_or-set_other part q i x 0 (λ e. omega arith)) (d i l))
    (rw (get_or-set_same part q x 0 h) f)

-- and so where it takes the place of another
pub renamed_more : (R : ℕ → ℕ → Type 0) (part part' : List ℕ) (q x : ℕ) → q < length part → Renamed R part part' q → LeastLike R q x → Renamed R part (set part' q x) (q + 1)
renamed_more R part part' q x h d f = record {
  named = named_more R part' q x (omega (arith, d.long)) d.named f;
  kept = λ y l. get_or-set_other part' q y x 0 (λ e. omega arith) ∙ d.kept y (omega arith);
  long = length-set part' q x ∙ d.long;
}

module _ (next : ℕ → ℕ → ℕ) (part : List ℕ) where
  -- a state agrees with itself
  pub agree_itself : (p : ℕ) → Agree next part p p
  agree_itself p = record { here = refl; there = λ x h. refl }

  -- to agree goes both ways
  pub agree_flip : (p q : ℕ) → Agree next part p q → Agree next part q p
  agree_flip p q f = record { here = sym f.here; there = λ x h. sym (f.there x h) }

  -- and from one to the next
  pub agree_chain : (p q t : ℕ) → Agree next part p q → Agree next part q t → Agree next part p t
  agree_chain p q t f g = record { here = f.here ∙ g.here; there = λ x h. f.there x h ∙ g.there x h }
