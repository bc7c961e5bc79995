-- Numbers that keep the rule at every state are the ways home, and the ways home keep it. For a number d below 65,535 there is a string of d bytes, by the states
-- with d - 1, d - 2, .. 0; these are different states, so d is below the number of states, and one more is never 65,535.
--   descent: where each number above 0 comes with a state of the number before it, numbers are below the number of states
--   rules_way, way_rules: numbers that keep it everywhere are the ways home, and these keep it
--   fewest_few: a way home has fewer bytes than there are states
--   way_none: a way home is 65,535 exactly if no string leads to acceptance
use Prim.Native.Nat.{ℕ, zero, suc, ◌≤◌, ◌<◌}
use mathlib.Core.Path.{◌≡◌, refl, sym, ◌∙◌}
use mathlib.Core.Bool.{true, false, false≢true}
use mathlib.Core.Logic.{inl, inr, ◌↔◌}
use mathlib.Core.List.{List, [], ◌∷◌}
use native.Mathlib.Omega.{arith}
use lib.ListN.{length}
use Rattle.scope.specs.Limits.{byte_values, no_way}
use Rattle.scope.specs.Machines.Machine.{Machine, Closed}
use Rattle.scope.specs.Machines.Ways.{Home, Fewest, Way, fewest, none}
use Rattle.scope.proofs.Counting.Tests.{which, split}
use Rattle.scope.proofs.Counting.Hole.{pigeon}
use Rattle.scope.proofs.Machines.Ways.{way_one}
use Rattle.way_rules.specs.Rule.{Rule}

-- R i v: the state v has the number i. From a number down to 0 there are that many different states, so it is below their number.
pub descent : (R : ℕ → ℕ → Type 0) (n : ℕ) → ((d q : ℕ) → q < n → R (suc d) q → (v : ℕ) × (v < n) × R d v) → ((i j v : ℕ) → R i v → R j v → i ≡ j)
    → (d q : ℕ) → q < n → R d q → d < n
descent R n down one d q h x = pigeon R (suc d) n (λ i k. each d q h x i (omega arith)) one
  where
    each : (d q : ℕ) → q < n → R d q → (i : ℕ) → i ≤ d → (v : ℕ) × (v < n) × R i v
    each zero q h x i k = let e : i ≡ 0 = omega arith in rw e (q, h, x)
    each (suc d) q h x i k = elim (split i (suc d)) [
      | inl m ↦ (let (v, l, y) = down d q h x in each d v l y i (omega arith))
      | inr m ↦ (let e : i ≡ suc d = omega arith in rw e (q, h, x))
    ]

home_here : (M : Machine) (q : ℕ) → M.accepts q ≡ true → Home M q []
home_here M q a = record { bytes = tt; accepted = a }

home_more : {M : Machine} {q : ℕ} (b : ℕ) {w : List ℕ} → b < byte_values → Home M (M.next q b) w → Home M q (b ∷ w)
home_more b h x = record { bytes = (h, x.bytes); accepted = x.accepted }

home_less : {M : Machine} {q b : ℕ} {w : List ℕ} → Home M q (b ∷ w) → Home M (M.next q b) w
home_less x = record { bytes = x.bytes.1; accepted = x.accepted }

module _ (M : Machine) (c : Closed M) where
  -- ---- numbers that keep the rule

  module _ (f : ℕ → ℕ) (few : M.states < no_way) (r : (q : ℕ) → q < M.states → Rule M f q) where
    -- a number above 0 and below 65,535 is one more than that of a state to which a byte leads
    down : (q d : ℕ) → q < M.states → f q ≡ suc d → suc d < no_way → (b : ℕ) × (b < byte_values) × (f (M.next q b) ≡ d)
    down q d h e l = elim (which (M.accepts q)) [
      | inl a ↦ absurd (omega (arith, (r q h).here a))
      | inr a ↦ (let (b, k, x) = (r q h).some a (omega arith) in (b, k, omega arith))
    ]

    -- so there is a string for it
    string : (d q : ℕ) → q < M.states → f q ≡ d → d < no_way → (w : List ℕ) × Home M q w × (length w ≡ d)
    string zero q h e l = elim (which (M.accepts q)) [
      | inl a ↦ ([], home_here M q a, refl)
      | inr a ↦ (let (b, k, x) = (r q h).some a (omega arith) in absurd (omega arith))
    ]
    string (suc d) q h e l =
        let (b, k, x) = down q d h e l in
        let (w, y, z) = string d (M.next q b) (c.inside q b h k) x (omega arith) in
        (b ∷ w, home_more b k y, omega (arith, z))

    -- and it is below the number of states
    below : (q : ℕ) → q < M.states → f q < no_way → f q < M.states
    below q h l = descent (λ d v. (f v ≡ d) × (d < no_way)) M.states (λ d v k x. let (b, n, y) = down v d k x.0 x.1 in (M.next v b, c.inside v b k n, (y, omega (arith, x.1)))) (λ i j v x y. sym x.0 ∙ y.0) (f q) q h (refl, l)

    -- a state from which a string leads to acceptance has one, of at most as many bytes
    found : (w : List ℕ) (q : ℕ) → q < M.states → Home M q w → (f q < no_way) × (f q ≤ length w)
    found [] q h x = (omega (arith, (r q h).here x.accepted), omega (arith, (r q h).here x.accepted))
    found (b ∷ w) q h x =
        let n = c.inside q b h x.bytes.0 in
        let (l, m) = found w (M.next q b) n (home_less x) in
        elim (which (M.accepts q)) [
          | inl a ↦ (omega (arith, (r q h).here a), omega (arith, (r q h).here a))
          | inr a ↦ (let y = (r q h).least a b x.bytes.0 l in (omega (arith, below (M.next q b) n l, few), omega arith))
        ]

    -- numbers that keep the rule are the ways home
    pub rules_way : (q : ℕ) → q < M.states → Way M q (f q)
    rules_way q h = elim (split (f q) no_way) [
      | inl l ↦ (let (w, x, y) = string (f q) q h refl l in fewest (record { word = w; home = x; long = y; least = λ v z. (found v q h z).1 }))
      | inr l ↦ (let e : f q ≡ no_way = omega (arith, (r q h).most) in rw e (none (λ v z. omega (arith, (found v q h z).0))))
    ]

  -- ---- ways home

  -- the state to which the first byte of a shortest string leads needs one byte fewer
  fewest_down : (d q : ℕ) → q < M.states → Fewest M q (suc d) → (v : ℕ) × (v < M.states) × Fewest M v d
  fewest_down d q h x = go x.word x.home x.long
    where
      go : (w : List ℕ) → Home M q w → length w ≡ suc d → (v : ℕ) × (v < M.states) × Fewest M v d
      go [] y e = absurd (omega arith)
      go (b ∷ w) y e = (
        M.next q b,
        c.inside q b h y.bytes.0,
        record {
          word = w;
          home = home_less y;
          long = omega arith;
          least = λ v z. omega (arith, x.least (b ∷ v) (home_more b y.bytes.0 z));
        },
      )

  -- fewer bytes than there are states
  pub fewest_few : (q d : ℕ) → q < M.states → Fewest M q d → d < M.states
  fewest_few q d = descent (λ i v. Fewest M v i) M.states fewest_down (λ i j v y z. way_one (fewest y) (fewest z)) d q

  -- a way home below 65,535 is that of a string
  way_fewest : {q d : ℕ} → d < no_way → Way M q d → Fewest M q d
  way_fewest l (fewest x) = x
  way_fewest l (none y) = absurd (omega arith)

  -- a string that leads to acceptance is at least as long
  way_least : {q d : ℕ} → Way M q d → (w : List ℕ) → Home M q w → d ≤ length w
  way_least (fewest x) w z = x.least w z
  way_least (none y) w z = absurd (y w z)

  way_most : {q d : ℕ} → M.states < no_way → q < M.states → Way M q d → d ≤ no_way
  way_most few h (fewest x) = omega (arith, fewest_few _ _ h x)
  way_most few h (none y) = omega arith

  way_first : {q d : ℕ} → M.accepts q ≡ false → Fewest M q d → (b : ℕ) × (w : List ℕ) × Home M q (b ∷ w) × (length (b ∷ w) ≡ d)
  way_first {q} {d} a x = go x.word x.home x.long
    where
      go : (w : List ℕ) → Home M q w → length w ≡ d → (b : ℕ) × (w : List ℕ) × Home M q (b ∷ w) × (length (b ∷ w) ≡ d)
      go [] y e = absurd (false≢true (sym a ∙ y.accepted))
      go (b ∷ w) y e = (b, w, y, e)

  -- 65,535 exactly if no string leads to acceptance
  pub way_none : {q d : ℕ} → M.states < no_way → q < M.states → Way M q d → (d ≡ no_way) ↔ ((w : List ℕ) → Home M q w → ⊥)
  way_none few h (fewest x) = (λ e w z. omega (arith, fewest_few _ _ h x), λ n. absurd (n x.word x.home))
  way_none few h (none y) = (λ e. y, λ n. refl)

  -- the ways home keep the rule
  module _ (f : ℕ → ℕ) (few : M.states < no_way) (way : (q : ℕ) → q < M.states → Way M q (f q)) where
    pub way_rules : (q : ℕ) → q < M.states → Rule M f q
    way_rules q h = record {
      most = way_most few h (way q h);
      here = λ a. omega (arith, way_least (way q h) [] (home_here M q a));
      least = λ a b k l.
          let x = way_fewest l (way (M.next q b) (c.inside q b h k)) in
          omega (arith, way_least (way q h) (b ∷ x.word) (home_more b k x.home), x.long);
      some = λ a l.
          let x = way_fewest l (way q h) in
          let (b, w, y, e) = way_first a x in
          let n = way (M.next q b) (c.inside q b h y.bytes.0) in
          let m = way_least n w (home_less y) in
          let z = way_fewest (omega (arith, fewest_few q (f q) h x)) n in
          (b, y.bytes.0, omega (arith, x.least (b ∷ z.word) (home_more b y.bytes.0 z.home), z.long));
    }
