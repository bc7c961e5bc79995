--   Nests i x y: a parenthesis opens at i: one more is open, and its place is noted where it is inside as many others as may be
use Rattle.std.specs.Prelude.{ℕ, suc}
use Rattle.modes.specs.Modes.{atom, await, at}
use Rattle.modes.specs.Notes.{nested_at}
use Rattle.judge_state.specs.Reading.{Takes}
use Rattle.judge_state.specs.declared.Reading.{Reading}

abbrev pub Nests : ℕ → Reading → Reading → Type 0
Nests i x y = Takes (at (await atom) (suc x.deep)) (nested_at x.deep i) x y
