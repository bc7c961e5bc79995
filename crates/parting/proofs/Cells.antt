-- The cells of a row are taken off one after the other, from the lowest on.
--   row_cell: the cell for a byte of least in the row of a state
--   rest_more: what is left of a word
--   cell_fits: one cell more fits into the word
use Prim.Native.Nat.{ℕ, zero, suc, ◌+◌, ◌*◌, ◌/◌, ◌%◌, ◌^◌, ◌≤◌, ◌<◌}
use mathlib.Core.Path.{◌≡◌, ◌∙◌}
use mathlib.Core.List.{List}
use native.Mathlib.Nat.{add-zero, zero-add, mul-add-div_right, mul-add-mod_self_right, div-eq_of_lt, mod-eq_of_lt, mul-le-mul_left, mul-le-mul_right, pow-le-pow_right, pow-zero, pow-suc, pow-succ', div-one, div-div-eq-div-mul}
use native.Mathlib.Numerals.{add-one}
use native.Mathlib.Omega.{arith}
use lib.ListN.{get_or}
use Rattle.two_rooms.specs.Side.{both_limit}
use Rattle.parting.specs.CellRows.{row_width, cell_values, RowFrom, none, more, CellRows}

module _ {next : ℕ → ℕ → ℕ} {least : List ℕ} {q : ℕ} where
  -- the lowest cell
  cell_first : {i word : ℕ} → RowFrom next least q i word → i < row_width → (word % cell_values ≡ next q (get_or least i 0)) × (word % cell_values < both_limit)
  cell_first none h = absurd (omega arith)
  cell_first (more {i} {word} l r) h = let e = mul-add-mod_self_right word cell_values (next q (get_or least i 0)) ∙ mod-eq_of_lt (omega arith) in (e, omega arith)

  -- the others
  cell_rest : {i word : ℕ} → RowFrom next least q i word → i < row_width → RowFrom next least q (i + 1) (word / cell_values)
  cell_rest none h = absurd (omega arith)
  cell_rest (more {i} {word} l r) h = let y = next q (get_or least i 0) in rw (mul-add-div_right {m = cell_values} (omega arith) word y, div-eq_of_lt {n = y} {m = cell_values} (omega arith), add-zero) r

  -- the cell for the byte j of least, where the lowest is for the byte i
  cell_at : (j : ℕ) {i word : ℕ} → RowFrom next least q i word → i + j < row_width → (word / cell_values ^ j % cell_values ≡ next q (get_or least (i + j) 0)) × (next q (get_or least (i + j) 0) < both_limit)
  cell_at zero {i} {word} r h = let (e, l) = cell_first r (omega arith) in rw (pow-zero cell_values, div-one word, add-zero i) (e, rw (← e) l)
  cell_at (suc j) {i} {word} r h = let e : i + suc j ≡ i + 1 + j = omega arith in
      rw (e, pow-succ' cell_values j, ← div-div-eq-div-mul word cell_values (cell_values ^ j)) (cell_at j (cell_rest r (omega arith)) (omega arith))

  -- how large the cells from i on can be
  cells_below : {i word : ℕ} → RowFrom next least q i word → (word + 1) * cell_values ^ i ≤ cell_values ^ row_width
  cells_below none = omega arith
  cells_below (more {i} {word} l r) = omega (arith, rw (add-one i, pow-suc cell_values i) at (cells_below r), mul-le-mul_right {m = next q (get_or least i 0) + 1} {n = cell_values} (cell_values ^ i) (omega arith))

  -- one cell more fits into the word
  pub cell_fits : {i word : ℕ} → RowFrom next least q i word → 0 < i → (word + 1) * cell_values ≤ cell_values ^ row_width
  cell_fits {i} {word} r h = omega (arith, cells_below r, mul-le-mul_left (word + 1) (pow-le-pow_right {n = cell_values} (omega arith) h))

-- the cell for the byte i of least in the row of q
pub row_cell : (next : ℕ → ℕ → ℕ) (least rows : List ℕ) (n : ℕ) → CellRows next least rows n → (q i : ℕ) → q < n → i < row_width
    → (get_or rows q 0 / cell_values ^ i % cell_values ≡ next q (get_or least i 0)) × (next q (get_or least i 0) < both_limit)
row_cell next least rows n r q i h l = rw (zero-add i) at (cell_at i (r.row q h) (omega arith))

-- the word that is left, with one cell less
pub rest_more : (w i : ℕ) → w / cell_values ^ i / cell_values ≡ w / cell_values ^ (i + 1)
rest_more w i = rw (add-one i, pow-suc cell_values i) (div-div-eq-div-mul w (cell_values ^ i) cell_values)
