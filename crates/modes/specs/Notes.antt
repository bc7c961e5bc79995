-- What is noted beside the mode machine, byte by byte: the places that RANGE, DEPTH and POSITIONS name, and what it takes to find them. A position is noted
-- once its atom is read, or its class opens; a range, once its high end is read. Nothing is asked of notes where the machine is stuck.
--   Sheet: the places noted so far, with the place and the low end of what is being read
--   Notes: a sheet, and the first digit of a code that is being read
--   since i m: what is being read began at i
--   started p i m: the piece p begins at i
--   as_read p v m: the piece p is read, and is the byte v
--   nested n i m: a parenthesis opens at i, inside n others
--   begun p n b i m x: after the byte b at i, where p may begin; x, if it does not
--   sheet_after, noted m n b i: after the byte b at i, in the mode m with n open parentheses
--   notes_to s i: what is noted after the first i bytes of s
use Rattle.std.specs.Prelude.{ℕ, zero, suc, ◌+◌, ◌*◌, cond, List, [], ◌∷◌, ◌++◌, eqb, ltb}
use Prim.Native.Char.{code}
use Rattle.scope.specs.Limits.{nest_limit}
use Rattle.scope.specs.Bytes.{byte}
use Rattle.scope.specs.Text.Tree.{only_if}
use Rattle.scope.specs.Text.Grammar.{escapable, hex}
use Rattle.modes.specs.Modes.{Piece, atom, low, high, Mode, await, done, back, digit, State, stuck, at, bare_in, again, run_to}
use Rattle.modes.specs.Modes as mode

-- from: the first byte of the atom, or the dash of the range; least: the byte that a dash would make the low end of a range
pub record Sheet : Type 0 where
  pub from : ℕ
  pub least : ℕ
  pub falls : List ℕ
  pub opens : List ℕ
  pub firsts : List ℕ

pub record Notes : Type 0 where
  pub half : ℕ
  pub sheet : Sheet

abbrev pub since : ℕ → Sheet → Sheet
since i m = record { from = i; least = m.least; falls = m.falls; opens = m.opens; firsts = m.firsts }

abbrev pub started : Piece → ℕ → Sheet → Sheet
started atom i m = since i m
started low i m = m
started high i m = m

abbrev pub as_read : Piece → ℕ → Sheet → Sheet
as_read atom v m = record { from = m.from; least = m.least; falls = m.falls; opens = m.opens; firsts = m.firsts ++ m.from ∷ [] }
as_read low v m = record { from = m.from; least = v; falls = m.falls; opens = m.opens; firsts = m.firsts }
as_read high v m =
    record { from = m.from; least = m.least; falls = m.falls ++ only_if (ltb v m.least) m.from; opens = m.opens; firsts = m.firsts }

abbrev pub nested : ℕ → ℕ → Sheet → Sheet
nested n i m = record { from = m.from; least = m.least; falls = m.falls; opens = m.opens ++ only_if (eqb n nest_limit) i; firsts = m.firsts }

-- `.`, `[` and `(`
abbrev pub opening : Piece → ℕ → ℕ → ℕ → Sheet → Sheet → Sheet
opening atom n b i m x =
    cond (eqb (code ".") b) (as_read atom b (since i m)) (cond (eqb (code "[") b) (as_read atom b (since i m)) (cond (eqb (code "(") b) (nested n i (since i m)) x))
opening low n b i m x = x
opening high n b i m x = x

abbrev pub begun : Piece → ℕ → ℕ → ℕ → Sheet → Sheet → Sheet
begun p n b i m x = cond (bare_in p b) (as_read p b (started p i m)) (cond (eqb (code "\\") b) (started p i m) (opening p n b i m x))

-- `-` after a low end
abbrev pub dashed : Piece → ℕ → ℕ → Sheet → Sheet
dashed atom b i m = m
dashed low b i m = cond (eqb (code "-") b) (since i m) m
dashed high b i m = m

-- h is the first digit
abbrev pub sheet_after : Mode → ℕ → ℕ → ℕ → ℕ → Sheet → Sheet
sheet_after (await p) n b i h m = begun p n b i m m
sheet_after (done p) n b i h m = begun (again p) n b i m (dashed p b i m)
sheet_after (back p) n b i h m = cond (escapable b) (as_read p b m) m
sheet_after (mode.code p) n b i h m = m
sheet_after (digit p) n b i h m = as_read p (h * 16 + hex b) m

abbrev pub halved : Mode → ℕ → ℕ → ℕ
halved (await p) b h = h
halved (done p) b h = h
halved (back p) b h = h
halved (mode.code p) b h = hex b
halved (digit p) b h = h

abbrev pub noted : Mode → ℕ → ℕ → ℕ → Notes → Notes
noted m n b i x = record { half = halved m b x.half; sheet = sheet_after m n b i x.half x.sheet }

-- the same, where the sheet alone changes
abbrev pub read_as : Piece → ℕ → Notes → Notes
read_as p v x = record { half = x.half; sheet = as_read p v x.sheet }

abbrev pub nested_at : ℕ → ℕ → Notes → Notes
nested_at n i x = record { half = x.half; sheet = nested n i x.sheet }

abbrev pub begun_at : Piece → ℕ → ℕ → ℕ → Notes → Notes
begun_at p n b i x = record { half = x.half; sheet = begun p n b i x.sheet x.sheet }

abbrev pub note : State → ℕ → ℕ → Notes → Notes
note stuck b i x = x
note (at m n) b i x = noted m n b i x

abbrev pub blank : Notes
blank = record { half = 0; sheet = record { from = 0; least = 0; falls = []; opens = []; firsts = [] } }

abbrev pub notes_to : List ℕ → ℕ → Notes
notes_to s zero = blank
notes_to s (suc i) = note (run_to s i) (byte s i) i (notes_to s i)
