-- How ways home are judged: by keys, their two bytes with the low one first. Where a way is below the number of states, or is none, its key has its order.
--   four: so many classes are taken at a time
--   key_of m q: the key of the state q; keys: those of ways below the number of states are below this
--   Lowered m l i n least: least has, for each of the first n states, the least key of those to which the first i classes of l lead
--   right_key a r: the key of a state that is accepting, or is not, where r is the least of those that bytes lead to
--   RightKeys m least n: each of the first n states has the key that its mark and its least one give
use Rattle.std.specs.Prelude.{ℕ, ◌+◌, ◌*◌, ◌<◌, ◌≡◌, Bool, cond, List, eqb, ltb, length, get_or}
use Rattle.scope.specs.Limits.{byte_values, state_limit, ways_at, no_way}
use Rattle.scope.specs.Machines.Room.{mark_of}
use Rattle.ways.specs.LeastOver.{LeastOver}

abbrev pub four : ℕ
four = 4

abbrev pub key_of : List ℕ → ℕ → ℕ
key_of m q = get_or m (ways_at + q * 2 + 1) 0 * byte_values + get_or m (ways_at + q * 2) 0

abbrev pub keys : ℕ
keys = 32768

pub record Lowered (m l : List ℕ) (i n : ℕ) (least : List ℕ) : Type 0 where
  pub size : length least ≡ state_limit
  pub each : (q : ℕ) → q < n → LeastOver m (key_of m) l i q (get_or least q 0)

unfoldable pub right_key : Bool → ℕ → ℕ
right_key a r = cond a 0 (cond (ltb r keys) (r + byte_values) no_way)

abbrev pub RightKeys : List ℕ → List ℕ → ℕ → Type 0
RightKeys m least n = (q : ℕ) → q < n → key_of m q ≡ right_key (eqb (mark_of m q) 1) (get_or least q 0)
