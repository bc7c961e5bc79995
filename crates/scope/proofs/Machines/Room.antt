-- The bytes of a room: n, k, the classes, the used marks and cells, and the rest of marks and cells. Where that rest is 0, the used parts are all that stands before the ways home.
--   flat_in: a cell is among those of n rows
--   cell_used: the cell that a state reads for a byte is a used one
--   cells_fit: the used cells end before the ways home
--   SameParts a b: the used parts of two rooms are equal
--   bytes_from_parts: rooms with equal used parts, and 0 elsewhere, are equal up to the ways home
use Prim.Native.Nat.{ℕ, ◌+◌, ◌-◌, ◌*◌, ◌≤◌, ◌<◌}
use mathlib.Core.Path.{◌≡◌}
use mathlib.Core.Logic.{◌⊎◌, inl, inr}
use mathlib.Core.List.{List}
use native.Mathlib.Nat.{suc-mul, mul-le-mul, mul-le-mul_right}
use native.Mathlib.Omega.{arith}
use lib.ListN.{get_or}
use Rattle.scope.specs.Limits.{byte_values, classes_at, marks_at, cells_at, ways_at}
use Rattle.scope.specs.Machines.Room.{states_of, classes_of, class_of, mark_of, Below, SoundTable, SameTables}
use Rattle.scope.proofs.Counting.Tests.{split}

-- a cell is among those of n rows
pub flat_in : (n k q c : ℕ) → q < n → c < k → q * k + c < n * k
flat_in n k q c a b = omega (arith, mul-le-mul_right k a, suc-mul q k)

module _ (m : List ℕ) (s : SoundTable m) where
  -- the cell for a state and a byte's class is among the n·k used ones
  pub cell_used : (q b : ℕ) → q < states_of m → b < byte_values → q * classes_of m + class_of m b < states_of m * classes_of m
  cell_used q b h k = flat_in (states_of m) (classes_of m) q (class_of m b) h (s.classes (classes_at + b) (omega arith) (omega arith))

  -- 128 states and 64 classes fill the table
  pub cells_fit : cells_at + states_of m * classes_of m ≤ ways_at
  cells_fit = omega (arith, mul-le-mul s.few_states s.few_classes)

-- n, k, the classes, the used marks and cells are equal
pub record SameParts (a b : List ℕ) : Type 0 where
  pub states : states_of a ≡ states_of b
  pub classes : classes_of a ≡ classes_of b
  pub class : (x : ℕ) → x < byte_values → class_of a x ≡ class_of b x
  pub mark : (q : ℕ) → q < states_of a → mark_of a q ≡ mark_of b q
  pub cell : (i : ℕ) → i < states_of a * classes_of a → get_or a (cells_at + i) 0 ≡ get_or b (cells_at + i) 0

-- what is not used is 0 in both rooms, so the used parts are all
pub bytes_from_parts :
    (a b : List ℕ) → SameParts a b → Below a (marks_at + states_of a) cells_at 1 → Below b (marks_at + states_of b) cells_at 1
    → Below a (cells_at + states_of a * classes_of a) ways_at 1 → Below b (cells_at + states_of b * classes_of b) ways_at 1 → SameTables a b
bytes_from_parts a b e u v x y i h =
    go (split i 1) (split i classes_at) (split i marks_at) (split i (marks_at + states_of a)) (split i cells_at) (split i (cells_at + states_of a * classes_of a))
  where
    size : states_of a * classes_of a ≡ states_of b * classes_of b
    size = rw (e.states, e.classes)

    go : (i < 1) ⊎ (1 ≤ i) → (i < classes_at) ⊎ (classes_at ≤ i) → (i < marks_at) ⊎ (marks_at ≤ i) → (i < marks_at + states_of a) ⊎ (marks_at + states_of a ≤ i)
        → (i < cells_at) ⊎ (cells_at ≤ i) → (i < cells_at + states_of a * classes_of a) ⊎ (cells_at + states_of a * classes_of a ≤ i) → get_or a i 0 ≡ get_or b i 0
    go (inl p) q r s t w = let z : i ≡ 0 = omega arith in rw z e.states
    go (inr p) (inl q) r s t w = let z : i ≡ 1 = omega arith in rw z e.classes
    go (inr p) (inr q) (inl r) s t w = let z : i ≡ classes_at + (i - classes_at) = omega arith in rw z (e.class (i - classes_at) (omega arith))
    go (inr p) (inr q) (inr r) (inl s) t w = let z : i ≡ marks_at + (i - marks_at) = omega arith in rw z (e.mark (i - marks_at) (omega arith))
    go (inr p) (inr q) (inr r) (inr s) (inl t) w = omega (arith, u i t s, v i t (omega (arith, e.states)))
    go (inr p) (inr q) (inr r) (inr s) (inr t) (inl w) = let z : i ≡ cells_at + (i - cells_at) = omega arith in rw z (e.cell (i - cells_at) (omega arith))
    go (inr p) (inr q) (inr r) (inr s) (inr t) (inr w) = omega (arith, x i h w, y i h (omega (arith, size)))
