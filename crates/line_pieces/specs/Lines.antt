-- Lines on their way into a buffer.
--   RoomFor n lines: the buffer has room for n bytes behind the lines
--   PutBehind l from to: l is put behind the lines `from`, in the same buffer
use Rattle.std.specs.Prelude.{ℕ, ◌+◌, ◌≤◌, ◌≡◌, List, length}
use Rattle.line_pieces.specs.Appended.{Appended}
use Rattle.line_pieces.specs.declared.Lines.{Lines}

abbrev pub RoomFor : ℕ → Lines → Type 0
RoomFor n lines = lines.at + n ≤ length lines.out.now

pub record PutBehind (l : List ℕ) (from to : Lines) : Type 0 where
  pub same_buffer : to.out.ghost_name ≡ from.out.ghost_name
  pub appended : Appended from.out.now to.out.now from.at l to.at
