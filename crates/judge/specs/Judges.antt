-- The judgements 3 to 6 of 01 on a text, in their order: a fault is answered only where none before it is.
--   JudgesText s r: r is the first fault of s, with its place, or s is legal within its limits
use Rattle.std.specs.Prelude.{ℕ, List, Result, Ok, Err}
use Rattle.scope.specs.Text.Tree.{Tree}
use Rattle.scope.specs.Text.Judge.{Pattern, SyntaxAt, RangeAt, Ordered, DepthAt, Shallow, PositionAt}
use Rattle.scope.specs.Operations.Compile.{Sized}
use Rattle.answers.specs.declared.Fault.{Fault}

pub data JudgesText (s : List ℕ) : Result (Unit {0}) Fault → Type 0 where
  legal : {t : Tree} → Sized s t → JudgesText s (Ok tt)
  syntax : {i : ℕ} → SyntaxAt s i → JudgesText s (Err (Fault.Syntax i))
  range : {t : Tree} {i : ℕ} → Pattern s t → RangeAt t i → JudgesText s (Err (Fault.Range i))
  depth : {t : Tree} {i : ℕ} → Pattern s t → Ordered t → DepthAt t i → JudgesText s (Err (Fault.Depth i))
  positions : {t : Tree} {i : ℕ} → Pattern s t → Ordered t → Shallow t → PositionAt t i → JudgesText s (Err (Fault.Positions i))
