-- The room of the smallest machine, byte by byte.
--   table_cell a s c q i: the cell of its state q and its class i
--   table_byte a s c i: the byte i of its room, where that is a cell
--   image_byte a p i: the byte i of its room
use Rattle.std.specs.Prelude.{ℕ, ◌+◌, ◌-◌, ◌*◌, ◌/◌, ◌%◌, cond, List, ltb, get_or}
use Rattle.scope.specs.Limits.{classes_at, marks_at, cells_at}
use Rattle.scope.specs.Machines.Room.{mark_of}
use Rattle.room.specs.Head.{head_byte}
use Rattle.smallest_plan.specs.declared.States.{States}
use Rattle.smallest_plan.specs.declared.Classes.{Classes}
use Rattle.smallest_plan.specs.declared.Plan.{Plan}
use Rattle.smallest_plan.specs.Smallest.{led}

-- the cell of the state q and the class i
abbrev pub table_cell : List ℕ → States → Classes → ℕ → ℕ → ℕ
table_cell a s c q i = led a s q (get_or c.leader i 0)

-- the byte i of a room, where it is one of its cells
abbrev pub table_byte : List ℕ → States → Classes → ℕ → ℕ
table_byte a s c i = table_cell a s c ((i - cells_at) / c.count) ((i - cells_at) % c.count)

unfoldable pub image_byte : List ℕ → Plan → ℕ → ℕ
image_byte a p i =
    cond (ltb i classes_at) (head_byte p.states.count p.classes.count i)
    (cond (ltb i marks_at) (get_or p.classes.class (i - classes_at) 0)
    (cond (ltb i (marks_at + p.states.count)) (mark_of a (get_or p.states.order (i - marks_at) 0))
    (cond (ltb i cells_at) 0
    (cond (ltb i (cells_at + p.states.count * p.classes.count)) (table_byte a p.states p.classes i) 0))))
