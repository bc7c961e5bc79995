-- What a byte makes of what is known, by what may come: `Takes` of Rattle.reading, with the mode machine's step and its notes.
--   Begins p x b i y: the byte b at i, where the piece p may begin and nothing else may come
--   Placeless m x b y: the byte b, in a mode m in which its place does not count
--   Advances x b i y: the byte b at i
use Rattle.std.specs.Prelude.{ℕ}
use Rattle.modes.specs.Modes.{Piece, Mode, stuck, begins, next, step}
use Rattle.modes.specs.Notes.{begun_at, noted, note}
use Rattle.judge_state.specs.Reading.{standing, Takes}
use Rattle.judge_state.specs.declared.Reading.{Reading}

abbrev pub Begins : Piece → Reading → ℕ → ℕ → Reading → Type 0
Begins p x b i y = Takes (begins p x.deep b stuck) (begun_at p x.deep b i) x y

abbrev pub Placeless : Mode → Reading → ℕ → Reading → Type 0
Placeless m x b y = Takes (next m x.deep b) (noted m x.deep b 0) x y

abbrev pub Advances : Reading → ℕ → ℕ → Reading → Type 0
Advances x b i y = Takes (step (standing x) b) (note (standing x) b i) x y
