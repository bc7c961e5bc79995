-- Numbering on first arrival: things are read one after the other, and each has a number already or takes the next.
--   Found P k i: i is the first below k with P, or k if there is none
--   Came key number lead v e: where the number v was given, among the things below e
--   Numbered R key number lead from k e: so are the things below e numbered, by what they are known by; k numbers are given, the first `from` of them before any thing was read
use Rattle.std.specs.Prelude.{ℕ, ◌≤◌, ◌<◌, ◌≡◌}

pub record Found (P : ℕ → Type 0) (k i : ℕ) : Type 0 where
  pub most : i ≤ k
  pub has : i < k → P i
  pub none : (j : ℕ) → j < i → P j → ⊥

-- a thing has the number v and leads it, and all numbers before it are smaller
pub record Came (key number lead : ℕ → ℕ) (v e : ℕ) : Type 0 where
  pub thing : ℕ
  pub inside : thing < e
  pub leads : key thing ≡ lead v
  pub own : number thing ≡ v
  pub earlier : (x : ℕ) → x < thing → number x < v

-- key x: what the thing x is known by; lead v: what the first thing with the number v is known by
pub record Numbered (R : ℕ → ℕ → Type 0) (key number lead : ℕ → ℕ) (from k e : ℕ) : Type 0 where
  pub some : from ≤ k
  pub below : (x : ℕ) → x < e → number x < k
  pub like : (x : ℕ) → x < e → R (lead (number x)) (key x)
  pub apart : (v w : ℕ) → w < k → v < w → R (lead v) (lead w) → ⊥
  pub came : (v : ℕ) → v < k → from ≤ v → Came key number lead v e
