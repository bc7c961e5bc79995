-- Rows: where the first bytes of least lead each state. A row is one word of 64 bits, with a cell for each of these bytes, the lowest first.
--   row_width, cell_values: how many cells a row has; how many values a cell
--   RowFrom next least q i word: word has, the lowest first, the cells of the bytes of least from i on: the states to which they lead q
--   CellRows next least rows n: rows has the row of each of the first n states
use Rattle.std.specs.Prelude.{ℕ, ◌+◌, ◌*◌, ◌/◌, ◌^◌, ◌≤◌, ◌<◌, List, length, get_or}
use Rattle.two_rooms.specs.Side.{both_limit}

abbrev pub row_width : ℕ
row_width = 4

abbrev pub cell_values : ℕ
cell_values = 2 ^ (64 / row_width)

pub data RowFrom (next : ℕ → ℕ → ℕ) (least : List ℕ) (q : ℕ) : ℕ → ℕ → Type 0 where
  none : RowFrom next least q row_width 0
  more : {i word : ℕ} → next q (get_or least i 0) < both_limit → RowFrom next least q (i + 1) word → RowFrom next least q i (word * cell_values + next q (get_or least i 0))

pub record CellRows (next : ℕ → ℕ → ℕ) (least rows : List ℕ) (n : ℕ) : Type 0 where
  pub long : n ≤ length rows
  pub row : (q : ℕ) → q < n → RowFrom next least q 0 (get_or rows q 0)
