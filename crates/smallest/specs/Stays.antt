-- A plan that changes nothing of its room.
--   Stays a p: p changes nothing of the room a
use Rattle.std.specs.Prelude.{ℕ, ◌<◌, ◌≡◌, List, get_or}
use Rattle.scope.specs.Limits.{byte_values}
use Rattle.scope.specs.Machines.Room.{states_of, classes_of, class_of}
use Rattle.smallest_plan.specs.declared.Plan.{Plan}
use Rattle.smallest_plan.specs.Planned.{SameOrder}

pub record Stays (a : List ℕ) (p : Plan) : Type 0 where
  pub states : p.states.count ≡ states_of a
  pub classes : p.classes.count ≡ classes_of a
  pub order : SameOrder p.states.order p.states.count
  pub class : (x : ℕ) → x < byte_values → get_or p.classes.class x 0 ≡ class_of a x
