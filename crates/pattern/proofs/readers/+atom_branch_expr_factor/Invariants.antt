-- The four readers meet their contracts, together: each may use what the others promise of a call whose measure is less. The measure is four times the bytes
-- that are left, and then the level: an expression calls a branch at the same place, a branch a factor, a factor an atom; only an atom starts anew, after
-- its `(`, and there a byte less is left. So do the loops, whose turns begin after what was read.
-- A call needs something to read there. It is found in the tree that is known to be there: the atom of a factor (`ready_atom`), what stands in its parentheses
-- (`ready_inner`), or the next part of a branch or an expression (`ready_part`).
-- The invariant of a loop: what was read so far begins everything that can be read there (`Begun`). A turn makes it so for one part more (`parts_more`), and where
-- the next byte ends the branch or the expression, what was read is all of it (`parts_found`).
use Prim.Native.Nat.{◌+◌, ◌-◌, ◌*◌, ◌≤◌}
use mathlib.Core.Path.{◌≡◌}
use lib.ListN.{length}
use Rattle.scope.specs.Text.Grammar.{branches, exprs}
use Rattle.pattern.specs.Parts.{Begun}
use Rattle.pattern.proofs.readers.+atom_branch_expr_factor.Given as goal

abbrev pub decreases-atom : goal.decreases-atom
decreases-atom l = 4 * (length l.text.now - l.at)

abbrev pub decreases-factor : goal.decreases-factor
decreases-factor l = 4 * (length l.text.now - l.at) + 1

abbrev pub decreases-branch : goal.decreases-branch
decreases-branch l = 4 * (length l.text.now - l.at) + 2

abbrev pub decreases-expr : goal.decreases-expr
decreases-expr l = 4 * (length l.text.now - l.at) + 3

abbrev pub invariant-branch-loop-all : goal.invariant-branch-loop-all
invariant-branch-loop-all l =
    (l.at ≤ l.all.next) × (l.all.next ≤ length l.text) × (length l.words ≡ length l.initial.words) × Begun branches l.text l.at l.count l.initial.words l.words l.all

abbrev pub decreases-branch-loop-all : goal.decreases-branch-loop-all
decreases-branch-loop-all l = length l.text - l.all.next

abbrev pub invariant-expr-loop-all : goal.invariant-expr-loop-all
invariant-expr-loop-all l =
    (l.at ≤ l.all.next) × (l.all.next ≤ length l.text) × (length l.words ≡ length l.initial.words) × Begun exprs l.text l.at l.count l.initial.words l.words l.all

abbrev pub decreases-expr-loop-all : goal.decreases-expr-loop-all
decreases-expr-loop-all l = length l.text - l.all.next
