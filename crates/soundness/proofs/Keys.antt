-- Keys of ways below the number of states have the order of the ways. So a state has the key that the least key gives exactly if it has the way that the least way gives.
--   Short k: k is the key of a way below the most states, or of none
--   way_by_key k: the way of a key
--   key_way: a state's way is that of its key; way_key: a way below the number of states, or none, has a short key
--   by_key: the way of a greater key is no less
--   right_keys: a key is right exactly if its way is; right_key_cases: what right keys there are
use Prim.Native.Nat.{ℕ, suc, ◌+◌, ◌*◌, ◌/◌, ◌%◌, ◌≤◌, ◌<◌}
use mathlib.Core.Path.{◌≡◌, refl, ◌∙◌}
use mathlib.Core.Bool.{Bool, true, false, cond}
use mathlib.Core.Logic.{◌⊎◌, inl, inr, ◌↔◌}
use mathlib.Core.List.{List}
use native.Mathlib.Omega.{arith}
use lib.Dec.{ltb}
use lib.ListN.{get_or}
use Rattle.scope.specs.Limits.{byte_values, state_limit, ways_at, no_way}
use Rattle.scope.proofs.Counting.Tests.{split, below, not_below}
use Rattle.room.specs.Head.{way_of}
use Rattle.ways.specs.LeastOver.{right_way}
use Rattle.soundness.specs.WaysJudged.{key_of, keys, right_key}

abbrev pub Short : ℕ → Type 0
Short k = (k ≡ no_way) ⊎ ((k < keys) × (k % byte_values ≡ 0))

unfoldable pub way_by_key : ℕ → ℕ
way_by_key k = cond (ltb k no_way) (k / byte_values) no_way

-- a key below 65,535 is that of its high part
pub by_short : (k : ℕ) → k < no_way → way_by_key k ≡ k / byte_values
unfolding way_by_key
by_short k h = rw ((below k no_way).full h) refl

-- from there on there is no way
pub by_none : (k : ℕ) → no_way ≤ k → way_by_key k ≡ no_way
unfolding way_by_key
by_none k h = rw (not_below k no_way h) refl

-- the way of a greater key is no less
pub by_key : (j k : ℕ) → j ≤ k → way_by_key j ≤ way_by_key k
by_key j k h = elim (split k no_way) [
  | inl l ↦ omega (arith, by_short j (omega arith), by_short k l)
  | inr l ↦ elim (split j no_way) [ inl o ↦ omega (arith, by_short j o, by_none k l) | inr o ↦ omega (arith, by_none j o, by_none k l) ]
]

-- the way of a state is that of its key; g: bytes are below 256
pub key_way : (m : List ℕ) → ((i : ℕ) → get_or m i 0 < byte_values) → (q : ℕ) → Short (key_of m q) → way_of m q ≡ way_by_key (key_of m q)
key_way m g q (inl e) = omega (arith, g (ways_at + q * 2), g (ways_at + q * 2 + 1), by_none (key_of m q) (omega arith))
key_way m g q (inr (l, e)) = omega (arith, g (ways_at + q * 2), g (ways_at + q * 2 + 1), by_short (key_of m q) (omega arith))

-- the bytes of a way below the number of states, or of none, are a short key
pub way_key : (m : List ℕ) (q d : ℕ) → get_or m (ways_at + q * 2) 0 ≡ d / byte_values → get_or m (ways_at + q * 2 + 1) 0 ≡ d % byte_values → (d < state_limit) ⊎ (d ≡ no_way) → Short (key_of m q)
way_key m q d e f (inl h) = inr (omega arith, omega arith)
way_key m q d e f (inr h) = inl (omega arith)

-- what the least key gives, and what the least way gives
pub right_keys : (a : Bool) (k r : ℕ) → Short k → Short r → (k ≡ right_key a r) ↔ (way_by_key k ≡ right_way a (way_by_key r))
unfolding right_key right_way
right_keys true k r s t = (λ e. omega (arith, by_short k (omega arith)), λ e. go s e)
  where
    go : Short k → way_by_key k ≡ 0 → k ≡ 0
    go (inl z) e = absurd (omega (arith, by_none k (omega arith)))
    go (inr (l, z)) e = omega (arith, by_short k (omega arith))
right_keys false k r s (inl t) = let x : ltb r keys ≡ false = not_below r keys (omega arith) in
    let y = by_none r (omega arith) in
    let z : ltb (way_by_key r) no_way ≡ false = not_below (way_by_key r) no_way (omega arith) in
    rw (x, z) (λ e. by_none k (omega arith), λ e. go s e)
  where
    go : Short k → way_by_key k ≡ no_way → k ≡ no_way
    go (inl z) e = z
    go (inr (l, z)) e = absurd (omega (arith, by_short k (omega arith)))
right_keys false k r s (inr (l, t)) = let x : ltb r keys ≡ true = (below r keys).full l in
    let y = by_short r (omega arith) in
    let z : ltb (way_by_key r) no_way ≡ true = (below (way_by_key r) no_way).full (omega arith) in
    rw (x, z) (λ e. omega (arith, by_short k (omega arith)), λ e. go s (e ∙ rw y refl))
  where
    go : Short k → way_by_key k ≡ suc (r / byte_values) → k ≡ r + byte_values
    go (inl z) e = absurd (omega (arith, by_none k (omega arith)))
    go (inr (m, z)) e = omega (arith, by_short k (omega arith))

-- a right key is 0, or none, or 256 more than the least
pub right_key_cases : (a : Bool) (r : ℕ) → (right_key a r ≡ 0) ⊎ (right_key a r ≡ no_way) ⊎ ((r < keys) × (right_key a r ≡ r + byte_values))
unfolding right_key
right_key_cases true r = inl refl
right_key_cases false r = elim (split r keys) [ inl l ↦ inr (inr (l, rw ((below r keys).full l) refl)) | inr l ↦ inr (inl (rw (not_below r keys l) refl)) ]
