use borrow.Author.Rules.{rules}
use Prim.Native.Nat.{◌+◌, ◌*◌, ◌<◌}
use native.Mathlib.Omega.{arith}
use lib.Count.{count_trailing_zeros}
use lib.ListN.{get_or}
use Rattle.scope.specs.Limits.{class_limit}
use Rattle.byte_runs.specs.Runs.{RunEnd}
use Rattle.byte_classes.proofs.Classes.{SplittingWord, runs_below, runs_old, runs_new, runs_full, splitting_none, splitting_all, word_none, word_all, word_run, word_more}
use Rattle.byte_classes.proofs.group.split.Goals as goal
use Rattle.byte_classes.proofs.group.split.Goals.{In-loop-rest, in-Some, in_default+else-k-eq-CLASSES}

-- what is split so far
so_far : (c : In-loop-rest)
    → SplittingWord c.args.bytes.now c.args.p c.args.ends.words c.args.map.now c.loop-rest.names c.loop-rest.map c.loop-rest.k c.loop-w.w c.loop-rest.rest
so_far c = c.loop-rest.invariant _ c.loop-w.invariant

-- the lowest bit of the rest is the next end
found : (c : In-loop-rest) → RunEnd c.args.ends.words (so_far c).x (64 * c.loop-w.w + count_trailing_zeros 64 c.loop-rest.rest)
found c = word_run (so_far c) c.loop-rest-test.true (omega (arith, c.loop-w-test.true))

-- its class is below 64
small : (c : In-loop-rest) → get_or c.loop-rest.map (64 * c.loop-w.w + count_trailing_zeros 64 c.loop-rest.rest) 0 < class_limit
small c = runs_below (so_far c).done (found c)

pub loop-w-init : goal.loop-w-init
loop-w-init c = splitting_none _ _ _ _ c.args.ends.last (search rules) c.requires.classes_below

pub loop-rest-init : goal.loop-rest-init
loop-rest-init c = λ old s. word_none s (c.args.ends.fits _)

pub returns-then-k-eq-CLASSES : goal.returns-then-k-eq-CLASSES
returns-then-k-eq-CLASSES c = let i = (goal.at.returns-then-k-eq-CLASSES c).In-loop-rest in
    runs_full (so_far i).done (found i) c.bit.ensures.0 c.in_default.is c.if-k-eq-CLASSES.true

pub loop-rest-preserved : goal.loop-rest-preserved
loop-rest-preserved c = λ old s.
    let t = c.loop-rest.invariant old s in
    let e = word_run t c.loop-rest-test.true (omega (arith, c.loop-w-test.true)) in
    elim c.match-names-key.branch [
      | in-Some w ↦ rw (w.names-is, w.map-is, w.k-is) (word_more t c.loop-rest-test.true (runs_old t.done e c.bit.ensures.0 w.in-Some.is))
      | in_default+else-k-eq-CLASSES w ↦
          rw (w.names-is, w.map-is, w.k-is) (word_more t c.loop-rest-test.true (runs_new t.done e c.bit.ensures.0 w.in_default.is w.if-k-eq-CLASSES.false))
    ]

pub loop-w-preserved : goal.loop-w-preserved
loop-w-preserved c = word_all (c.loop-rest.invariant _ c.loop-w.invariant) c.loop-rest-test.false

pub returns : goal.returns
returns c = splitting_all c.loop-w.invariant (omega arith)

pub bounds : goal.bounds
bounds c = omega (arith, small (goal.at.bounds c).In-loop-rest)

pub bounds-names-key : goal.bounds-names-key
bounds-names-key c = omega (arith, small (goal.at.bounds-names-key c).In-loop-rest)

pub overflow_cast-map : goal.overflow_cast-map
overflow_cast-map c = omega (arith, (so_far (goal.at.overflow_cast-map c).In-loop-rest).done.table.few)

pub overflow_add-k : goal.overflow_add-k
overflow_add-k c = omega (arith, (so_far (goal.at.overflow_add-k c).In-loop-rest).done.table.few)

pub overflow_cast-names : goal.overflow_cast-names
overflow_cast-names c = omega (arith, (so_far (goal.at.overflow_cast-names c).In-loop-rest).done.table.few)

pub bounds-names-key-in_default : goal.bounds-names-key-in_default
bounds-names-key-in_default c = omega (arith, small (goal.at.bounds-names-key-in_default c).In-loop-rest)
