-- The lines of an input, block by block.
--   lines_more: one block more; lines_short: the lengths of the two lines
--   reports_fit: how many bytes are printed
use Prim.Native.Nat.{ℕ, ◌+◌, ◌≤◌}
use mathlib.Core.Path.{ap, ◌∙◌}
use mathlib.Core.List.{List}
use native.Mathlib.Omega.{arith}
use lib.ListN.{length, length-take}
use Rattle.scope.specs.Limits.{pattern_limit}
use Rattle.take_lines.specs.declared.Taking.{Taking}
use Rattle.take_lines.specs.Taking.{TakesBlock}
use Rattle.alike_report.specs.Report.{Reports, reports, puts}
use Rattle.alike.specs.Input.{Read, read, Lines}

-- one block more
pub lines_more : {block left left' right right' : List ℕ} {t t' : Taking} → Lines t left right → TakesBlock block t t' left left' right right' → Lines t' left' right'
lines_more l x = record {
  taken = more l.taken x;
  left_long = x.left_grown.rest.size ∙ l.left_long;
  right_long = x.right_grown.rest.size ∙ l.right_long;
}
  where
    more : {block left left' right right' : List ℕ} {t t' : Taking} → Read t left right → TakesBlock block t t' left left' right right' → Read t' left' right'
    more (read h) x = read (x.taken _ h)

-- the two lines are no longer than their buffers
pub lines_short : {left right : List ℕ} {t : Taking} → Lines t left right → (t.first ≤ pattern_limit + 1) × (t.second ≤ pattern_limit + 1)
lines_short l = short l.taken
  where
    short : {left right : List ℕ} {t : Taking} → Read t left right → (t.first ≤ pattern_limit + 1) × (t.second ≤ pattern_limit + 1)
    short (read h) = (omega (arith, h.first.count), omega (arith, h.second.count))

-- what is reported is within the buffer
pub reports_fit : {left right out out' : List ℕ} {n : ℕ} → Reports left right out out' n → n ≤ length out'
reports_fit {out' = out'} {n} (reports a b (puts {c} x y)) = omega (arith, y.place, length-take n out', ap length y.front)
