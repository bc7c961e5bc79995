-- No rule of 01, but what the contracts of judging and the theorems on SYNTAX cite: SYNTAX itself is defined by the grammar and by continuations alone (Judge).
-- A machine that reads a text byte by byte and knows, after each byte, whether a legal text can still come of it. It has a few modes and a count of open
-- parentheses. A mode says which piece of the grammar the text has come to, and how far: the piece is awaited, it is done, or its escape has come to the
-- backslash, to the `x`, or to the first digit. There are three pieces: an atom; a byte in a class, which may be the low end of a range; and the high end of
-- a range. On `(a[b-` the machine awaits an atom, awaits one with 1 open, is done with an atom, awaits a byte, is done with it, and awaits a high end.
-- A count is enough for what nests: after a `)` the text goes on as after any atom, whatever was read before its `(`.
-- A byte that can't come leads to `stuck`. That is a state too, so each step has a result and a run needs no premise; no byte leads out of it.
-- In each step the sets of bytes are tested first, and single bytes after them. Where a byte is known to be in the set, the first test decides; where it is
-- known by its value, all tests compute. So no proof has to show that a set and a single byte don't meet. Marks come after what begins an atom: that
-- none of them begins one is shown once (`MarkSteps`).
--   Piece, Mode, State: a state is a mode with the number of open parentheses, or stuck; initial: the first one; is_stuck: its test
--   begins p n b x: after the byte b, where p may begin; x, if it does not
--   ends p n b: after the byte b, where p is done and no next piece begins
--   next, step: the state after one byte more
--   run_modes x w: the state after the bytes w, from x
--   run_to s i: the state after the first i bytes of s, from the initial one
use Rattle.std.specs.Prelude.{ℕ, zero, suc, Bool, true, false, cond, List, [], ◌∷◌, eqb, ltb}
use Prim.Native.Char as char
use Rattle.scope.specs.Bytes.{ByteSet, byte}
use Rattle.scope.specs.Text.Grammar.{literal, escapable, class_literal, is_mark, hex}

pub data Piece : Type 0 where
  atom low high : Piece

pub data Mode : Type 0 where
  await done back code digit : Piece → Mode

pub data State : Type 0 where
  stuck : State
  at : Mode → ℕ → State

abbrev pub initial : State
initial = at (await atom) 0

abbrev pub is_stuck : State → Bool
is_stuck stuck = true
is_stuck (at m n) = false

-- after an atom
abbrev pub after_atom : Mode
after_atom = done atom

-- the bytes that stand for themselves
abbrev pub bare_in : Piece → ByteSet
bare_in atom = literal
bare_in low = class_literal
bare_in high = class_literal

-- `.`, `[` and `(`, with which an atom alone begins
abbrev pub opens : Piece → ℕ → ℕ → State → State
opens atom n b x = cond (eqb (char.code ".") b) (at after_atom n) (cond (eqb (char.code "[") b) (at (await low) n) (cond (eqb (char.code "(") b) (at (await atom) (suc n)) x))
opens low n b x = x
opens high n b x = x

-- a byte that stands for itself, a backslash, or one of those three
abbrev pub begins : Piece → ℕ → ℕ → State → State
begins p n b x = cond (bare_in p b) (at (done p) n) (cond (eqb (char.code "\\") b) (at (back p) n) (opens p n b x))

-- the piece that may follow at once
abbrev pub again : Piece → Piece
again atom = atom
again low = low
again high = low

-- `)`
abbrev pub closes : ℕ → State
closes zero = stuck
closes (suc n) = at after_atom n

-- a mark, `|` and `)` after an atom, `-` and `]` in a class
abbrev pub ends : Piece → ℕ → ℕ → State
ends atom n b = cond (is_mark b) (at after_atom n) (cond (eqb (char.code "|") b) (at (await atom) n) (cond (eqb (char.code ")") b) (closes n) stuck))
ends low n b = cond (eqb (char.code "-") b) (at (await high) n) (cond (eqb (char.code "]") b) (at after_atom n) stuck)
ends high n b = cond (eqb (char.code "]") b) (at after_atom n) stuck

-- `\e` and `\0`, which are atoms alone
abbrev pub empties : Piece → ℕ → ℕ → State
empties atom n b = cond (eqb (char.code "e") b) (at after_atom n) (cond (eqb (char.code "0") b) (at after_atom n) stuck)
empties low n b = stuck
empties high n b = stuck

abbrev pub next : Mode → ℕ → ℕ → State
next (await p) n b = begins p n b stuck
next (done p) n b = begins (again p) n b (ends p n b)
next (back p) n b = cond (escapable b) (at (done p) n) (cond (eqb (char.code "x") b) (at (code p) n) (empties p n b))
next (code p) n b = cond (ltb (hex b) 16) (at (digit p) n) stuck
next (digit p) n b = cond (ltb (hex b) 16) (at (done p) n) stuck

abbrev pub step : State → ℕ → State
step stuck b = stuck
step (at m n) b = next m n b

abbrev pub run_modes : State → List ℕ → State
run_modes x [] = x
run_modes x (b ∷ w) = run_modes (step x b) w

abbrev pub run_to : List ℕ → ℕ → State
run_to s zero = initial
run_to s (suc i) = step (run_to s i) (byte s i)
