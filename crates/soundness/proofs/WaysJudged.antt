-- Ways home are right exactly if each state has what the least of those that bytes lead to gives it.
--   least_first, least_next, least_four: the least over one class; lowered by one more; by four
--   lowered_none, lowered_more: no state is lowered, one more
--   Unlowered m l i q least: the states from q on are not lowered yet; unlowered_more: one fewer
--   ways_judged: what is tested decides whether the ways home are sound
use Prim.Native.Nat.{ℕ, zero, suc, ◌+◌, ◌*◌, ◌/◌, ◌%◌, ◌≤◌, ◌<◌, min}
use mathlib.Core.Path.{◌≡◌, refl, sym, ◌∙◌}
use mathlib.Core.Bool.{Bool}
use mathlib.Core.Logic.{◌⊎◌, inl, inr}
use mathlib.Core.List.{List}
use native.Mathlib.Omega.{arith}
use lib.ListN.{length, get_or, set, length-set}
use lib.Seq.{get_or-set_same, get_or-set_other}
use Rattle.scope.specs.Limits.{byte_values, state_limit, ways_at, room_bytes, no_way}
use Rattle.scope.specs.Machines.Ways.{Way, fewest, none}
use Rattle.scope.specs.Machines.Room.{states_of, cell_of, machine, Below, SoundTable, SoundWays}
use Rattle.scope.proofs.Counting.Tests.{split}
use Rattle.scope.proofs.Machines.Run.{sound_closed}
use Rattle.buffers.specs.Stored.{Decides}
use Rattle.room.specs.Head.{way_of}
use Rattle.room.proofs.HeadAndParts.{cell_known}
use Rattle.ways.specs.Held.{HeldClasses}
use Rattle.ways.specs.LeastOver.{LeastOver}
use Rattle.ways.proofs.LeastOver.{least_none, least_more, right_rule, rule_right}
use Rattle.way_rules.proofs.Rules.{descent, rules_way, way_rules, fewest_few}
use Rattle.ways.proofs.Kept.{ways_kept}
use Rattle.soundness.specs.WaysJudged.{four, key_of, keys, Lowered, RightKeys}
use Rattle.soundness.proofs.Keys.{Short, way_by_key, by_short, by_none, by_key, key_way, way_key, right_keys, right_key_cases}

-- the first class
pub least_first : {m l : List ℕ} {f : ℕ → ℕ} {q x : ℕ} → x ≡ f (cell_of m q (get_or l 0 0)) → x ≤ no_way → LeastOver m f l 1 q x
least_first {m} {l} {f} {q} {x} e h = let z : x ≡ min no_way (f (cell_of m q (get_or l 0 0))) = omega arith in rw z (least_more (least_none m f l q))

-- one class more
pub least_next : {m l : List ℕ} {f : ℕ → ℕ} {i q r x : ℕ} → LeastOver m f l i q r → x ≡ min r (f (cell_of m q (get_or l i 0))) → LeastOver m f l (i + 1) q x
least_next a e = rw e (least_more a)

-- four classes more
pub least_four : {m l : List ℕ} {f : ℕ → ℕ} {i q r : ℕ} (x y z s : ℕ) → LeastOver m f l i q r
    → x ≡ min r (f (cell_of m q (get_or l i 0))) → y ≡ min x (f (cell_of m q (get_or l (i + 1) 0)))
    → z ≡ min (f (cell_of m q (get_or l (i + 2) 0))) (f (cell_of m q (get_or l (i + 3) 0))) → s ≡ min y z → LeastOver m f l (i + four) q s
least_four {m} {l} {f} {i} {q} {r} x y z s a e g h k =
    let i1 : i + 1 + 1 ≡ i + 2 = omega arith in
    let i2 : i + 2 + 1 ≡ i + 3 = omega arith in
    let i3 : i + 3 + 1 ≡ i + four = omega arith in
    let c = f (cell_of m q (get_or l (i + 2) 0)) in
    let d = f (cell_of m q (get_or l (i + 3) 0)) in
    let t : s ≡ min (min y c) d = omega arith in
    rw (t, g, e) (rw i3 at (least_more (rw i2 at (least_more (rw i1 at (least_more (least_more a)))))))

-- ---- state by state

pub lowered_none : {m l : List ℕ} {i : ℕ} {least : List ℕ} → length least ≡ state_limit → Lowered m l i 0 least
lowered_none e = record { size = e; each = λ p h. absurd (omega arith) }

pub lowered_more : {m l : List ℕ} {i q : ℕ} {least : List ℕ} (r : ℕ) → Lowered m l i q least → q < state_limit → LeastOver m (key_of m) l i q r → Lowered m l i (q + 1) (set least q r)
lowered_more {m} {l} {i} {q} {least} r a h s = record {
  size = length-set least q r ∙ a.size;
  each = λ p k. elim (split p q) [
    | inl g ↦ rw (get_or-set_other least q p r 0 (λ e. omega arith)) (a.each p g)
    | inr g ↦ (let e : p ≡ q = omega arith in rw (e, get_or-set_same least q r 0 (omega (arith, a.size))) s)
  ];
}

abbrev pub Unlowered : List ℕ → List ℕ → ℕ → ℕ → List ℕ → Type 0
Unlowered m l i q least = (p : ℕ) → p < states_of m → q ≤ p → LeastOver m (key_of m) l i p (get_or least p 0)

pub unlowered_more : (m l : List ℕ) (i q : ℕ) (least : List ℕ) (r : ℕ) → Unlowered m l i q least → Unlowered m l i (q + 1) (set least q r)
unlowered_more m l i q least r a p h k = rw (get_or-set_other least q p r 0 (λ e. omega arith)) (a p h (omega arith))

-- ---- what is right

-- a listed class leads to a state
leads : {m l : List ℕ} {n : ℕ} → SoundTable m → HeldClasses m l n → (q j : ℕ) → q < states_of m → j < n → cell_of m q (get_or l j 0) < states_of m
leads {m} {l} s h q j x y = (cell_known s q (get_or l j 0) x (h.below j y (omega arith))).1

module _ {m l : List ℕ} {n : ℕ} (s : SoundTable m) (g : (j : ℕ) → get_or m j 0 < byte_values) (h : HeldClasses m l n)
    (k : (q : ℕ) → q < states_of m → Short (key_of m q)) where
  -- the least key is short
  least_short : {q r : ℕ} → q < states_of m → LeastOver m (key_of m) l n q r → Short r
  least_short {q} {r} x a = elim (split r no_way) [
    | inl o ↦ (let (j, y, e) = a.some o in rw e (k (cell_of m q (get_or l j 0)) (leads s h q j x y)))
    | inr o ↦ inl (omega (arith, a.most))
  ]

  -- and its way is the least way
  least_way : {q r : ℕ} → q < states_of m → LeastOver m (key_of m) l n q r → LeastOver m (way_of m) l n q (way_by_key r)
  least_way {q} {r} x a = record {
    most = elim (split r no_way) [ inl o ↦ omega (arith, by_short r o) | inr o ↦ omega (arith, by_none r o) ];
    below = λ j y. (let v = cell_of m q (get_or l j 0) in rw (key_way m g v (k v (leads s h q j x y))) (by_key r (key_of m v) (a.below j y)));
    some = λ o. elim (split r no_way) [
      | inl u ↦ (let (j, y, e) = a.some u in let v = cell_of m q (get_or l j 0) in (j, y, rw (key_way m g v (k v (leads s h q j x y)), ← e) refl))
      | inr u ↦ absurd (omega (arith, by_none r u))
    ];
  }

module _ {m l least : List ℕ} {n : ℕ} (s : SoundTable m) (g : (j : ℕ) → get_or m j 0 < byte_values) (h : HeldClasses m l n) (a : Lowered m l n (states_of m) least) where
  few : states_of m < no_way
  few = omega (arith, s.few_states)

  -- ---- right keys are short

  module _ (r : RightKeys m least (states_of m)) where
    -- each is 0, or none, or 256 more than another
    key_down : (q : ℕ) → q < states_of m → (key_of m q ≡ 0) ⊎ (key_of m q ≡ no_way) ⊎ ((v : ℕ) × (v < states_of m) × (key_of m v < keys) × (key_of m q ≡ key_of m v + byte_values))
    key_down q x = elim (right_key_cases ((machine m).accepts q) (get_or least q 0)) [
      | inl e ↦ inl (r q x ∙ e)
      | inr (inl e) ↦ inr (inl (r q x ∙ e))
      | inr (inr (o, e)) ↦ (let (j, y, f) = (a.each q x).some (omega arith) in inr (inr (cell_of m q (get_or l j 0), leads s h q j x y, omega arith, omega (arith, r q x))))
    ]

    -- so it is a multiple of 256, if it is not none
    key_whole : (d q : ℕ) → q < states_of m → key_of m q < d → (key_of m q ≡ no_way) ⊎ (key_of m q % byte_values ≡ 0)
    key_whole zero q x o = absurd (omega arith)
    key_whole (suc d) q x o = elim (key_down q x) [
      | inl e ↦ inr (omega arith)
      | inr (inl e) ↦ inl e
      | inr (inr (v, y, u, e)) ↦ elim (key_whole d v y (omega arith)) [ inl z ↦ absurd (omega arith) | inr z ↦ inr (omega arith) ]
    ]

    -- with each multiple there is that before it
    whole_down : (d q : ℕ) → q < states_of m → key_of m q ≡ suc d * byte_values → (v : ℕ) × (v < states_of m) × (key_of m v ≡ d * byte_values)
    whole_down d q x o = elim (key_down q x) [
      | inl e ↦ absurd (omega arith)
      | inr (inl e) ↦ absurd (omega arith)
      | inr (inr (v, y, u, e)) ↦ (v, y, omega arith)
    ]

    -- so its way is below the number of states
    right_short : (q : ℕ) → q < states_of m → Short (key_of m q)
    right_short q x = elim (key_whole (suc (key_of m q)) q x (omega arith)) [
      | inl e ↦ inl e
      | inr e ↦ inr (omega (arith, s.few_states, descent (λ d v. key_of m v ≡ d * byte_values) (states_of m) whole_down (λ d b v y z. omega arith) (key_of m q / byte_values) q x (omega arith)), e)
    ]

  -- ---- right keys are those of the ways home, and these have right keys

  keys_home : RightKeys m least (states_of m) → (q : ℕ) → q < states_of m → Way (machine m) q (way_of m q)
  keys_home r =
      let k = right_short r in
      rules_way (machine m) (sound_closed m s) (way_of m) few (λ q x.
      right_rule h (least_way s g h k x (a.each q x))
      (key_way m g q (k q x) ∙ (right_keys ((machine m).accepts q) (key_of m q) (get_or least q 0) (k q x) (least_short s g h k x (a.each q x))).0 (r q x)))

  -- a way home is below the number of states, or none
  home_short : SoundWays m → (q : ℕ) → q < states_of m → Short (key_of m q)
  home_short w q x = let b = w.beside q x in way_key m q b.way b.high b.low (go b.right)
    where
      go : {d : ℕ} → Way (machine m) q d → (d < state_limit) ⊎ (d ≡ no_way)
      go (fewest y) = inl (omega (arith, fewest_few (machine m) (sound_closed m s) q _ x y, s.few_states))
      go (none y) = inr refl

  -- and has its key from the least one
  home_right : SoundWays m → RightKeys m least (states_of m)
  home_right w q x = let k = home_short w in
      (right_keys ((machine m).accepts q) (key_of m q) (get_or least q 0) (k q x) (least_short s g h k x (a.each q x))).1
      (sym (key_way m g q (k q x))
      ∙ rule_right h (least_way s g h k x (a.each q x)) (way_rules (machine m) (sound_closed m s) (way_of m) few (ways_kept w) q x))

  -- with what is unused, they decide
  pub ways_judged : {t : Bool} → Decides t (RightKeys m least (states_of m) × Below m (ways_at + states_of m * 2) room_bytes 1) → Decides t (SoundWays m)
  ways_judged d = record {
    yes = λ e. (let (r, o) = d.yes e in
        record {
          beside = λ q x. record {
            way = way_of m q;
            right = keys_home r q x;
            high = omega (arith, g (ways_at + q * 2 + 1));
            low = omega (arith, g (ways_at + q * 2 + 1));
          };
          ways_off = o;
        });
    no = λ e w. d.no e (home_right w, w.ways_off);
  }
