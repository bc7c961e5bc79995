use borrow.Author.Rules.{rules}
use Prim.Native.Nat.{ℕ, ◌+◌, ◌%◌, ◌/◌}
use mathlib.Core.Path.{◌≡◌, sym}
use mathlib.Core.List.{List, [], ◌∷◌, ◌++◌}
use native.Mathlib.Omega.{arith}
use Rattle.scope.specs.Lines.{decimal}
use Rattle.line_pieces.specs.Lines.{PutBehind}
use Rattle.line_pieces.proofs.Appending.{put_none, put_as, put_join, room_behind}
use Rattle.line_pieces.proofs.Numerals.{decimal_one, decimal_more, decimal_longer}
use Rattle.line_pieces.proofs.Lines.+decimal.Goals as goal
use Rattle.line_pieces.proofs.Lines.+decimal.Goals.{Joined-n-ge10, then-n-ge10, else-n-ge10}

-- the digits before the last one are put
before : (t : ℕ) (c : Joined-n-ge10 t) → (k : List ℕ) × (k ++ ((48 + c.args.n % 10) ∷ []) ≡ decimal c.args.n) × PutBehind k c.args.self.now c.if-n-ge10.self
before t c =
    elim c.if-n-ge10.branch [
      | then-n-ge10 w ↦ (decimal (c.args.n / 10), sym (decimal_more c.args.n w.if-n-ge10.true), rw w.self-is w.decimal.ensures)
      | else-n-ge10 w ↦ ([], sym (decimal_one c.args.n w.if-n-ge10.false), rw w.self-is (put_none c.args.self.now))
    ]

pub decimal-requires : goal.decimal-requires
decimal-requires t c = (search rules, omega (arith, c.requires, decimal_longer c.args.n c.if-n-ge10.true))

pub byte-requires : goal.byte-requires
byte-requires t c =
    let (k, e, p) = before t (goal.at.byte-requires t c).Joined-n-ge10 in
    room_behind ((48 + c.args.n % 10) ∷ []) p (rw e c.requires)

pub returns : goal.returns
returns t c =
    let (k, e, p) = before t (goal.at.returns t c).Joined-n-ge10 in
    put_as e (put_join p c.byte.ensures)
