-- What grouping all byte values answers.
--   GroupsAnswer R r: r has the classes by R of all byte values, if they are not too many
use Rattle.std.specs.Prelude.{ℕ, Option, Some, None}
use Rattle.byte_classes.specs.Group.{own_place, Grouped, TooMany}
use Rattle.byte_classes.specs.declared.group.Groups.{Groups}

abbrev pub GroupsAnswer : (ℕ → ℕ → Type 0) → Option Groups → Type 0
GroupsAnswer R (Some g) = Grouped R own_place g.map g.classes
GroupsAnswer R None = TooMany R
