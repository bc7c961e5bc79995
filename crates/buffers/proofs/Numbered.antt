-- Numbering on first arrival. A thing more has a number already, or takes the next and leads it; what was read before keeps its number, though it may stand in other
-- buffers.
--   found_here, found_none: the first that has P; none has
--   numbered_none, numbered_same: nothing is read; the same numbers, keys and leads
--   numbered_old, numbered_new: a thing more, with a number that is given, or with the next
--   numbered_arrival: they number on first arrival, as scope says it
--   lead_one, numbered_one: where R is an equivalence, leads that are alike are one, and things are alike exactly if they have one number
--   numbered_few, numbered_fewer: at most as many numbers as values that tell their leads apart; fewer, where something has yet another value
use Prim.Native.Nat.{ℕ, suc, ◌+◌, ◌-◌, ◌≤◌, ◌<◌}
use mathlib.Core.Path.{◌≡◌, refl, sym, ap, ◌∙◌}
use mathlib.Core.Logic.{◌⊎◌, inl, inr, ◌↔◌}
use native.Mathlib.Omega.{arith}
use borrow.Author.Count.{below_more}
use Rattle.scope.specs.Machines.Canonical.{met, Arrival}
use Rattle.scope.proofs.Counting.Arrival.{met_grow, met_above}
use Rattle.scope.proofs.Counting.Hole.{pigeon}
use Rattle.scope.proofs.Counting.Tests.{split, level}
use Rattle.buffers.specs.Numbered.{Found, Came, Numbered}

-- ---- the first that has P

-- here it is
pub found_here : {P : ℕ → Type 0} {k i : ℕ} → i < k → P i → ((j : ℕ) → j < i → P j → ⊥) → Found P k i
found_here h p n = record { most = omega arith; has = λ l. p; none = n }

-- there is none
pub found_none : {P : ℕ → Type 0} {k : ℕ} → ((j : ℕ) → j < k → P j → ⊥) → Found P k k
found_none n = record { most = omega arith; has = λ l. absurd (omega arith); none = n }

-- ---- one thing more

-- nothing is read
pub numbered_none : {R : ℕ → ℕ → Type 0} {key number lead : ℕ → ℕ} {from : ℕ} → from ≤ 1 → Numbered R key number lead from from 0
numbered_none h = record {
  some = omega arith;
  below = λ x l. absurd (omega arith);
  like = λ x l. absurd (omega arith);
  apart = λ v w l g. absurd (omega arith);
  came = λ v l g. absurd (omega arith);
}

-- key', number', lead': the same, where they were known
module _ {R : ℕ → ℕ → Type 0} {key number lead : ℕ → ℕ} {from k e : ℕ} (n : Numbered R key number lead from k e) (key' number' lead' : ℕ → ℕ)
    (keys : (x : ℕ) → x < e → key' x ≡ key x) (numbers : (x : ℕ) → x < e → number' x ≡ number x) (leads : (v : ℕ) → v < k → lead' v ≡ lead v) where
  came : (v m : ℕ) → e ≤ m → v < k → from ≤ v → Came key' number' lead' v m
  came v m le h g = let c = n.came v h g in
      record {
        thing = c.thing;
        inside = omega (arith, c.inside);
        leads = keys c.thing c.inside ∙ c.leads ∙ sym (leads v h);
        own = numbers c.thing c.inside ∙ c.own;
        earlier = λ x l. rw (numbers x (omega (arith, c.inside))) (c.earlier x l);
      }

  like : (x : ℕ) → x < e → R (lead' (number' x)) (key' x)
  like x h = rw (numbers x h, keys x h, leads (number x) (n.below x h)) (n.like x h)

  apart : (v w : ℕ) → w < k → v < w → R (lead' v) (lead' w) → ⊥
  apart v w h l = rw (leads v (omega arith), leads w h) (n.apart v w h l)

  -- nothing more
  pub numbered_same : Numbered R key' number' lead' from k e
  numbered_same = record {
    some = n.some;
    below = λ x h. rw (numbers x h) (n.below x h);
    like = like;
    apart = apart;
    came = λ v h g. came v e (omega arith) h g;
  }

  -- e has a number that is given
  pub numbered_old : number' e < k → R (lead' (number' e)) (key' e) → Numbered R key' number' lead' from k (e + 1)
  numbered_old h r = record {
    some = n.some;
    below = below_more (λ (x : ℕ). number' x < k) e (λ x l. rw (numbers x l) (n.below x l)) h;
    like = below_more (λ (x : ℕ). R (lead' (number' x)) (key' x)) e like r;
    apart = apart;
    came = λ v h g. came v (e + 1) (omega arith) h g;
  }

  -- e takes the next, since no lead is like it
  pub numbered_new : number' e ≡ k → lead' k ≡ key' e → R (key' e) (key' e) → ((v : ℕ) → v < k → R (lead v) (key' e) → ⊥) → Numbered R key' number' lead' from (k + 1) (e + 1)
  numbered_new q l r f = record {
    some = omega (arith, n.some);
    below = below_more (λ (x : ℕ). number' x < k + 1) e (λ x h. omega (arith, numbers x h, n.below x h)) (omega arith);
    like = below_more (λ (x : ℕ). R (lead' (number' x)) (key' x)) e like (rw (q, l) r);
    apart = λ v w h g. elim (split w k) [
      | inl y ↦ apart v w y g
      | inr y ↦ (let z : w ≡ k = omega arith in rw (z, l, leads v (omega arith)) (f v (omega arith)))
    ];
    came = below_more (λ (v : ℕ). from ≤ v → Came key' number' lead' v (e + 1)) k (λ v h g. came v (e + 1) (omega arith) h g)
        (λ g. record { thing = e; inside = omega arith; leads = sym l; own = q; earlier = λ x h. omega (arith, numbers x h, n.below x h) });
  }

-- ---- what it comes to

module _ {R : ℕ → ℕ → Type 0} {key number lead : ℕ → ℕ} {from k e : ℕ} (n : Numbered R key number lead from k e) where
  -- a number that is read was given by then, and the one before it earlier
  pub numbered_arrival : Arrival number from e
  unfolding met
  numbered_arrival x h = elim (split from (number x)) [
    | inl l ↦ past (n.came (number x - 1) (omega (arith, n.below x h)) (omega arith)) l
    | inr l ↦ omega (arith, met_grow number from 0 x (omega arith))
  ]
    where
      past : Came key number lead (number x - 1) e → from < number x → number x ≤ met number from x
      past c l = elim (split c.thing x) [
        | inl y ↦ omega (arith, met_above number from x c.thing y, c.own)
        | inr y ↦ absurd (elim (split x c.thing) [
          | inl z ↦ omega (arith, c.earlier x z)
          | inr z ↦ (let w : x ≡ c.thing = omega arith in omega (arith, ap number w, c.own))
        ])
      ]

  module _ (back : (a b : ℕ) → R a b → R b a) (on : (a b c : ℕ) → R a b → R b c → R a c) where
    -- two leads that are alike are one
    pub lead_one : (v w : ℕ) → v < k → w < k → R (lead v) (lead w) → v ≡ w
    lead_one v w h l r = level v w (λ g. n.apart v w l g r) (λ g. n.apart w v h g (back (lead v) (lead w) r))

    -- alike are those with one number
    pub numbered_one : (x y : ℕ) → x < e → y < e → (number x ≡ number y) ↔ R (key x) (key y)
    numbered_one x y h l = (
      λ q. on (key x) (lead (number x)) (key y) (back (lead (number x)) (key x) (n.like x h)) (rw q (n.like y l)),
      λ r. lead_one (number x) (number y) (n.below x h) (n.below y l)
          (on (lead (number x)) (key x) (lead (number y)) (n.like x h) (on (key x) (key y) (lead (number y)) r (back (lead (number y)) (key y) (n.like y l)))),
    )

  -- leads with one value are alike, and there are `most` values
  module _ (most : ℕ) (value : ℕ → ℕ) (inside : (v : ℕ) → v < k → value (lead v) < most) (same : (v w : ℕ) → v < k → w < k → value (lead v) ≡ value (lead w) → R (lead v) (lead w)) where
    one : (v w : ℕ) → v < k → w < k → value (lead v) ≡ value (lead w) → v ≡ w
    one v w h l q = level v w (λ g. n.apart v w l g (same v w h l q)) (λ g. n.apart w v h g (same w v l h (sym q)))

    -- so there are at most as many numbers
    pub numbered_few : k ≤ most
    numbered_few = pigeon (λ v i. (v < k) × (value (lead v) ≡ i)) k most (λ v h. (value (lead v), inside v h, (h, refl))) (λ v w i x y. one v w x.0 y.0 (x.1 ∙ sym y.1))

    -- and fewer, where u is like no lead: it could have the next
    pub numbered_fewer : (u : ℕ) → value u < most → ((v : ℕ) → v < k → value (lead v) ≡ value u → ⊥) → k < most
    numbered_fewer u h f = pigeon At (suc k) most place each
      where
        At : ℕ → ℕ → Type 0
        At v i = ((v < k) × (value (lead v) ≡ i)) ⊎ ((v ≡ k) × (value u ≡ i))

        place : (v : ℕ) → v < suc k → (i : ℕ) × (i < most) × At v i
        place v l = elim (split v k) [ inl x ↦ (value (lead v), inside v x, inl (x, refl)) | inr x ↦ (value u, h, inr (omega arith, refl)) ]

        each : (v w i : ℕ) → At v i → At w i → v ≡ w
        each v w i (inl x) (inl y) = one v w x.0 y.0 (x.1 ∙ sym y.1)
        each v w i (inl x) (inr y) = absurd (f v x.0 (x.1 ∙ sym y.1))
        each v w i (inr x) (inl y) = absurd (f w y.0 (y.1 ∙ sym x.1))
        each v w i (inr x) (inr y) = x.0 ∙ sym y.0
