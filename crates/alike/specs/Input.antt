-- What was taken, and where the reading stops. No contract can say what the input is, so none here ties these lines to it: that the blocks are those that the system gave, and `got`
-- the length of the last, is seen in `take_lines` itself, and in the stored runs.
--   Read t left right: what was taken are the two lines of some input, and not bytes of no line
--   Lines t left right: so it is, in two buffers that have one byte more than a pattern may have
--   most_reads: how many reads there are at most, since a loop must end
--   Stopped r: nothing came any more, or both lines are ended, or there were so many reads
use Rattle.std.specs.Prelude.{ℕ, ◌+◌, ◌≡◌, List, length}
use Rattle.scope.specs.Limits.{pattern_limit}
use Rattle.take_lines.specs.declared.Line.{Line}
use Rattle.take_lines.specs.declared.Taking.{Taking}
use Rattle.take_lines.specs.Taking.{Taken}
use Rattle.alike.specs.declared.Reading.{Reading}

pub data Read (t : Taking) (left right : List ℕ) : Type 0 where
  read : {input : List ℕ} → Taken input t left right → Read t left right

pub record Lines (t : Taking) (left right : List ℕ) : Type 0 where
  pub taken : Read t left right
  pub left_long : length left ≡ pattern_limit + 1
  pub right_long : length right ≡ pattern_limit + 1

-- 2 ^ 64 - 1
abbrev pub most_reads : ℕ
most_reads = 18446744073709551615

-- "an unended last line counts as it stands, .. and further lines are not read"
pub data Stopped (r : Reading) : Type 0 where
  nothing_came : r.got ≡ 0 → Stopped r
  both_ended : r.taking.line ≡ Line.Further → Stopped r
  most_read : r.reads ≡ most_reads → Stopped r
