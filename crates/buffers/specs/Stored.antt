-- What a function on buffers answers and leaves.
--   Decides r P: r says whether P holds
--   Stored old new from to f: the elements from `from` up to `to` are those of f, and the others are kept
--   BeginAlike a b n: the first n elements of two buffers are equal
--   AtMost m from to r: the elements from `from` up to `to` are at most r
--   Greatest m from to r: r is the greatest of these elements, 0 if there is none
use Rattle.std.specs.Prelude.{ℕ, ◌≤◌, ◌<◌, ◌≡◌, Bool, true, false, ◌⊎◌, List, length, get_or}

pub record Decides (r : Bool) (P : Type 0) : Type 0 where
  pub yes : r ≡ true → P
  pub no : r ≡ false → P → ⊥

pub record Stored (old new : List ℕ) (from to : ℕ) (f : ℕ → ℕ) : Type 0 where
  pub size : length new ≡ length old
  pub inside : (i : ℕ) → i < to → from ≤ i → get_or new i 0 ≡ f i
  pub outside : (i : ℕ) → (i < from) ⊎ (to ≤ i) → get_or new i 0 ≡ get_or old i 0

abbrev pub BeginAlike : List ℕ → List ℕ → ℕ → Type 0
BeginAlike a b n = (i : ℕ) → i < n → get_or a i 0 ≡ get_or b i 0

abbrev pub AtMost : List ℕ → ℕ → ℕ → ℕ → Type 0
AtMost m from to r = (i : ℕ) → i < to → from ≤ i → get_or m i 0 ≤ r

pub record Greatest (m : List ℕ) (from to r : ℕ) : Type 0 where
  pub above : AtMost m from to r
  pub least : (l : ℕ) → AtMost m from to l → r ≤ l
