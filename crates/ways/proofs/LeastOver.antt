-- The least of the ways that classes lead to, class by class; and the rule, where all classes that some byte has are among them.
--   least_none, least_more: of no class, of one more
--   least_all, least_one: it is at most the number of each state to which a byte leads, and that of one of them
--   right_rule, rule_right: a state keeps the rule exactly if it has what the least of those that bytes lead to gives it
use Prim.Native.Nat.{ℕ, suc, ◌+◌, ◌≤◌, ◌<◌, min}
use mathlib.Core.Path.{◌≡◌, sym, ◌∙◌}
use mathlib.Core.Bool.{false≢true}
use mathlib.Core.Logic.{inl, inr}
use mathlib.Core.List.{List}
use native.Mathlib.Omega.{arith}
use lib.ListN.{get_or}
use Rattle.scope.specs.Limits.{byte_values, no_way}
use Rattle.scope.specs.Machines.Room.{cell_of, next_of, machine}
use Rattle.scope.proofs.Counting.Tests.{which, split, below, not_below}
use Rattle.ways.specs.Held.{HeldClasses}
use Rattle.way_rules.specs.Rule.{Rule}
use Rattle.ways.specs.LeastOver.{LeastOver, right_way}

-- of no class
pub least_none : (m : List ℕ) (f : ℕ → ℕ) (l : List ℕ) (q : ℕ) → LeastOver m f l 0 q no_way
least_none m f l q = record { most = omega arith; below = λ j h. absurd (omega arith); some = λ h. absurd (omega arith) }

-- of one class more
pub least_more : {m : List ℕ} {f : ℕ → ℕ} {l : List ℕ} {i q r : ℕ} → LeastOver m f l i q r → LeastOver m f l (i + 1) q (min r (f (cell_of m q (get_or l i 0))))
least_more {m} {f} {l} {i} {q} {r} s = record {
  most = omega (arith, s.most);
  below = λ j h. elim (split j i) [ inl k ↦ omega (arith, s.below j k) | inr k ↦ (let e : j ≡ i = omega arith in rw e (omega arith)) ];
  some = λ h. elim (split r (f (cell_of m q (get_or l i 0)))) [
    | inl k ↦ (let (j, g, e) = s.some (omega arith) in (j, omega arith, omega arith))
    | inr k ↦ (i, omega arith, omega arith)
  ];
}

module _ {m l : List ℕ} {n q r : ℕ} {f : ℕ → ℕ} (h : HeldClasses m l n) (s : LeastOver m f l n q r) where
  -- at most the number of each state to which a byte leads
  pub least_all : (b : ℕ) → b < byte_values → r ≤ f (next_of m q b)
  unfolding next_of
  least_all b g = let (j, k, e) = h.all b g in rw (← e) (s.below j k)

  -- and that of one of them, if it is below 65,535
  pub least_one : r < no_way → (b : ℕ) × (b < byte_values) × (r ≡ f (next_of m q b))
  unfolding next_of
  least_one g = let (j, k, e) = s.some g in let (b, x, z) = h.byte j k in (b, x, rw z e)

  -- what the least gives keeps the rule
  pub right_rule : f q ≡ right_way ((machine m).accepts q) r → Rule (machine m) f q
  unfolding right_way
  right_rule e = elim (which ((machine m).accepts q)) [
    | inl a ↦ (let z : f q ≡ 0 = rw a at e in
        record { most = omega arith; here = λ x. z; least = λ x. absurd (false≢true (sym x ∙ a)); some = λ x. absurd (false≢true (sym x ∙ a)) })
    | inr a ↦ elim (split r no_way) [
      | inl k ↦ (let z : f q ≡ suc r = rw (a, (below r no_way).full k) at e in
          record {
            most = omega arith;
            here = λ x. absurd (false≢true (sym a ∙ x));
            least = λ x b g y. omega (arith, least_all b g);
            some = λ x y. (let (b, g, w) = least_one k in (b, g, omega arith));
          })
      | inr k ↦ (let z : f q ≡ no_way = rw (a, not_below r no_way k) at e in
          record {
            most = omega arith;
            here = λ x. absurd (false≢true (sym a ∙ x));
            least = λ x b g y. absurd (omega (arith, least_all b g));
            some = λ x y. absurd (omega arith);
          })
    ]
  ]

  -- what keeps the rule is what the least gives
  pub rule_right : Rule (machine m) f q → f q ≡ right_way ((machine m).accepts q) r
  unfolding right_way
  rule_right u = elim (which ((machine m).accepts q)) [
    | inl a ↦ rw a (u.here a)
    | inr a ↦ elim (split r no_way) [
      | inl k ↦ (let (b, g, w) = least_one k in
          let z : f q ≡ suc r = elim (split (f q) no_way) [
            | inl y ↦ (let (b', g', w') = u.some a y in omega (arith, least_all b' g', u.least a b g (omega arith)))
            | inr y ↦ omega (arith, u.most, u.least a b g (omega arith))
          ] in
          rw (a, (below r no_way).full k) z)
      | inr k ↦ (let z : f q ≡ no_way = elim (split (f q) no_way) [
        | inl y ↦ (let (b', g', w') = u.some a y in absurd (omega (arith, least_all b' g')))
        | inr y ↦ omega (arith, u.most)
      ] in
          rw (a, not_below r no_way k) z)
    ]
  ]
