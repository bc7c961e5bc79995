-- Numbers sink: one that falls leaves what was above it above it. A sweep that moves none leaves them level, so that they keep the rule of ways home; each other
-- sweep lowers their sum.
--   sinking_none, sinking_pass, sinking_mark: all are 65,535; one state more that is not accepting, or is and takes 0
--   SweptTo m w₀ w moved q: a sweep that came down to the state q; sweep_begins, sweep_passes, sweep_lowers, sweep_ends: it begins, passes a state by, lowers it, ends
--   level_home: numbers that sank and are level are the ways home
use Prim.Native.Nat.{ℕ, zero, suc, ◌+◌, ◌-◌, ◌≤◌, ◌<◌}
use mathlib.Core.Path.{◌≡◌, refl, ◌∙◌}
use mathlib.Core.Bool.{Bool, true, false, true≢false, false≢true}
use mathlib.Core.Logic.{inl, inr}
use mathlib.Core.List.{List, [], ◌∷◌}
use native.Mathlib.Omega.{arith}
use native.Mathlib.Decide.{ℕ_discrete}
use borrow.Author.Count.{below_more}
use borrow.Author.Tests.{eqb-true, eqb-false}
use lib.ListN.{length, get_or, set, length-set, replicate, length-replicate, get_or-replicate}
use lib.Seq.{get_or-set_same, get_or-set_other}
use Rattle.scope.specs.Limits.{byte_values, state_limit, no_way}
use Rattle.scope.specs.Machines.Room.{states_of, mark_of, next_of, machine, SoundTable}
use Rattle.scope.proofs.Counting.Tests.{split}
use Rattle.scope.proofs.Machines.Run.{sound_closed}
use Rattle.ways.specs.Held.{HeldClasses}
use Rattle.ways.specs.LeastOver.{LeastOver}
use Rattle.ways.proofs.LeastOver.{least_all, least_one}
use Rattle.way_rules.proofs.Rules.{rules_way}
use Rattle.way_writing.specs.Sinking.{Sinking, WaysLevel, total, WaysSwept}
use Rattle.way_writing.specs.WaysWritten.{WaysHome}

-- ---- numbers that sink

-- all are 65,535
pub sinking_none : {m : List ℕ} → SoundTable m → Sinking m (replicate state_limit no_way) 0
sinking_none {m} s = record {
  size = length-replicate state_limit no_way;
  most = λ q h. omega (arith, all q h);
  here = λ q h. absurd (omega arith);
  some = λ q h a l. absurd (omega (arith, all q h));
}
  where
    all : (q : ℕ) → q < states_of m → get_or (replicate state_limit no_way) q 0 ≡ no_way
    all q h = get_or-replicate state_limit q no_way 0 (omega (arith, s.few_states))

-- the number of the state q falls to v
sinking_lower : {m w : List ℕ} {i : ℕ} (q v : ℕ) → SoundTable m → q < states_of m → v ≤ get_or w q 0 → ((machine m).accepts q ≡ true → v ≡ 0)
    → ((machine m).accepts q ≡ false → (b : ℕ) × (b < byte_values) × (get_or w (next_of m q b) 0 < v)) → Sinking m w i → Sinking m (set w q v) i
sinking_lower {m} {w} {i} q v t lt le none some s = record {
  size = length-set w q v ∙ s.size;
  most = λ p h. omega (arith, fallen p, s.most p h);
  here = λ p h. elim (ℕ_discrete p q) [ yes e ↦ rw (e, at) none | no n ↦ rw (off p n) (s.here p h) ];
  some = λ p h a. elim (ℕ_discrete p q) [
    | yes e ↦ rw (e, at) (λ l. let (b, k, x) = some (rw e at a) in (b, k, omega (arith, fallen (next_of m q b))))
    | no n ↦ rw (off p n) (λ l. let (b, k, x) = s.some p h a l in (b, k, omega (arith, fallen (next_of m p b))))
  ];
}
  where
    at : get_or (set w q v) q 0 ≡ v
    at = get_or-set_same w q v 0 (omega (arith, s.size, t.few_states))

    off : (p : ℕ) → (p ≡ q → ⊥) → get_or (set w q v) p 0 ≡ get_or w p 0
    off p n = get_or-set_other w q p v 0 n

    fallen : (p : ℕ) → get_or (set w q v) p 0 ≤ get_or w p 0
    fallen p = elim (ℕ_discrete p q) [ yes e ↦ rw (e, at) le | no n ↦ omega (arith, off p n) ]

-- the next state has 0, if it is accepting
next : {m w : List ℕ} {i : ℕ} → ((machine m).accepts i ≡ true → get_or w i 0 ≡ 0) → Sinking m w i → Sinking m w (i + 1)
next {m} {w} {i} f s = record {
  size = s.size;
  most = s.most;
  here = below_more (λ (q : ℕ). (machine m).accepts q ≡ true → get_or w q 0 ≡ 0) i s.here f;
  some = s.some;
}

-- it is not
pub sinking_pass : {m w : List ℕ} {i : ℕ} → (mark_of m i ≡ 1 → ⊥) → Sinking m w i → Sinking m w (i + 1)
sinking_pass {m} {i = i} n = next (λ a. absurd (n (eqb-true (mark_of m i) 1 a)))

-- it is, and takes 0
pub sinking_mark : {m w : List ℕ} {i : ℕ} → SoundTable m → i < states_of m → mark_of m i ≡ 1 → Sinking m w i → Sinking m (set w i 0) (i + 1)
sinking_mark {m} {w} {i} t h e s = next (λ a. get_or-set_same w i 0 0 (omega (arith, s.size, t.few_states)))
    (sinking_lower i 0 t h (omega arith) (λ a. refl) (λ a. absurd (eqb-false (mark_of m i) 1 a e)) s)

-- their sum, where one changes
total_set : (w : List ℕ) (i v : ℕ) → i < length w → total (set w i v) + get_or w i 0 ≡ total w + v
total_set [] i v h = absurd (omega arith)
total_set (x ∷ w) zero v h = omega arith
total_set (x ∷ w) (suc i) v h = omega (arith, total_set w i v (omega arith))

-- ---- a sweep

-- what holds of the numbers when the states from q on are passed
pub record SweptTo (m w₀ w : List ℕ) (moved : Bool) (q : ℕ) : Type 0 where
  pub few : q ≤ states_of m
  pub sinking : Sinking m w (states_of m)
  pub most : total w ≤ total w₀
  pub less : moved ≡ true → total w < total w₀
  pub level : moved ≡ false → WaysLevel m w q

-- no state is passed
pub sweep_begins : {m w : List ℕ} → Sinking m w (states_of m) → SweptTo m w w false (states_of m)
sweep_begins s = record {
  few = omega arith;
  sinking = s;
  most = omega arith;
  less = λ e. absurd (false≢true e);
  level = λ e q h k. absurd (omega arith);
}

module _ {m w₀ w l : List ℕ} {moved : Bool} {n r q : ℕ} (lt : 0 < q) (c : HeldClasses m l n) (f : LeastOver m (λ p. get_or w p 0) l n (q - 1) r)
    (p : SweptTo m w₀ w moved q) where
  -- a state whose number is at most one more than the least
  pub sweep_passes : get_or w (q - 1) 0 ≤ r + 1 → SweptTo m w₀ w moved (q - 1)
  sweep_passes le = record {
    few = omega (arith, p.few);
    sinking = p.sinking;
    most = p.most;
    less = p.less;
    level = λ e i h k b g. elim (split i q) [
      | inl x ↦ (let z : i ≡ q - 1 = omega arith in rw z (omega (arith, least_all c f b g)))
      | inr x ↦ p.level e i h x b g
    ];
  }

  -- another takes one more than the least
  pub sweep_lowers : SoundTable m → r + 1 < get_or w (q - 1) 0 → SweptTo m w₀ (set w (q - 1) (r + 1)) true (q - 1)
  sweep_lowers s gt = record {
    few = omega (arith, p.few);
    sinking = sinking_lower (q - 1) (r + 1) s here (omega arith) (λ a. absurd (omega (arith, p.sinking.here (q - 1) here a)))
        (λ a. let (b, k, e) = least_one c f (omega (arith, p.sinking.most (q - 1) here)) in (b, k, omega arith)) p.sinking;
    most = omega (arith, falls);
    less = λ e. falls;
    level = λ e. absurd (true≢false e);
  }
    where
      here : q - 1 < states_of m
      here = omega (arith, p.few)

      falls : total (set w (q - 1) (r + 1)) < total w₀
      falls = omega (arith, total_set w (q - 1) (r + 1) (omega (arith, p.few, p.sinking.size, s.few_states)), p.most)

-- all states are passed
pub sweep_ends : {m w₀ w : List ℕ} {moved : Bool} → SweptTo m w₀ w moved 0 → WaysSwept m w₀ w moved
sweep_ends p = record { sinking = p.sinking; less = p.less; level = p.level }

-- ---- level numbers

-- numbers that sank and are level keep the rule of ways home
pub level_home : {m w : List ℕ} → SoundTable m → Sinking m w (states_of m) → WaysLevel m w 0 → WaysHome m w
level_home {m} {w} t s l = rules_way (machine m) (sound_closed m t) (λ q. get_or w q 0) (omega (arith, t.few_states)) (λ q h. record {
  most = s.most q h;
  here = s.here q h;
  least = λ a b k x. l q h (omega arith) b k;
  some = λ a x. (let (b, k, y) = s.some q h a x in (b, k, omega (arith, l q h (omega arith) b k)));
})
