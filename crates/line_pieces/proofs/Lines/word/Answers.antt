use Prim.Native.Nat.{◌<◌}
use mathlib.Core.Path.{◌≡◌, sym, ap}
use native.Mathlib.Omega.{arith}
use borrow.Author.Rules.{rules}
use lib.ListN.{length}
use Rattle.scope.specs.Lines.{hexes}
use Rattle.line_pieces.proofs.Appending.{put_none, put_as, room_hexes, put_hexes, put_shown}
use Rattle.line_pieces.proofs.Numerals.{shown_none}
use Rattle.line_pieces.proofs.Lines.word.Goals as goal
use Rattle.line_pieces.proofs.Lines.word.Goals.{Then-is_empty, Else-is_empty}

none : (c : Then-is_empty) → length c.args.word.now ≡ 0
none c = search rules

some : (c : Else-is_empty) → 0 < length c.args.word.now
some c = search rules

pub byte-requires : goal.byte-requires
byte-requires c = omega (arith, c.requires, ap length (shown_none c.args.word.now (none (goal.at.byte-requires c).Then-is_empty)))

pub returns-then-is_empty : goal.returns-then-is_empty
returns-then-is_empty c = put_as (sym (shown_none c.args.word.now (none (goal.at.returns-then-is_empty c).Then-is_empty))) c.byte.ensures

pub loop-byte-init : goal.loop-byte-init
unfolding hexes
loop-byte-init c = put_none c.args.self.now

pub byte-requires-in-loop-byte : goal.byte-requires-in-loop-byte
byte-requires-in-loop-byte c = omega (arith, room_hexes c.args.word.now c.loop-byte.byte-index c.loop-byte.invariant c.loop-byte-test.true c.requires)

pub byte-requires-in-loop-byte-2 : goal.byte-requires-in-loop-byte-2
byte-requires-in-loop-byte-2 c =
    let e = c.byte-in-loop-byte.ensures.appended in
    omega (arith, e.place, e.size, room_hexes c.args.word.now c.loop-byte.byte-index c.loop-byte.invariant c.loop-byte-test.true c.requires)

pub loop-byte-preserved : goal.loop-byte-preserved
loop-byte-preserved c =
    put_hexes c.args.word.now c.loop-byte.byte-index c.loop-byte.invariant c.loop-byte-test.true c.hex_digit.ensures c.hex_digit-in-loop-byte.ensures
    c.byte-in-loop-byte.ensures c.byte-in-loop-byte-2.ensures

pub returns : goal.returns
returns c = put_shown c.args.word.now c.loop-byte.byte-index c.loop-byte.invariant (some (goal.at.returns c).Else-is_empty) c.loop-byte-test.false
