-- The byte after a backslash tells the atoms without a position from the others.
use Prim.Native.Nat.{ℕ}
use Prim.Native.Char.{code}
use mathlib.Core.Path.{◌≡◌}
use native.Mathlib.Omega.{arith}
use borrow.Author.Rules.{rules}
use Rattle.scope.specs.Limits.{byte_values}
use Rattle.leaves.specs.ReadAt.{Backslash}
use Rattle.factors.proofs.Atoms.{leaf_empty, leaf_nothing, leaf_some, leaf_room, leaf_single}
use Rattle.factors.proofs.leaf.Goals as goal
use Rattle.factors.proofs.leaf.Goals.{In_default, in_default-via-in-Some+in_default, in_default-via-in_default}

-- in the last arm it is neither of the two
neither : (c : In_default) → (b : ℕ) × Backslash c.args.text.now c.args.at b × (b ≡ code "e" → ⊥) × (b ≡ code "0" → ⊥)
neither c =
    elim c.in_default.branch [
      | in_default-via-in-Some+in_default w ↦ let f = w.in_default.field-0-test in (_, w.in_default.ensures, f.0.1, (λ e. f.1 e))
      | in_default-via-in_default w ↦ (byte_values, rw w.in_default.is at c.escaped.ensures, (λ e. omega arith), (λ e. omega arith))
    ]

pub single_end-requires : goal.single_end-requires
single_end-requires c = let (b, q, e, z) = neither c in leaf_some c.requires.readable.0 q c.requires.readable.1 e z

pub alone-requires : goal.alone-requires
alone-requires c = let (b, q, e, z) = neither (goal.at.alone-requires c).In_default in (leaf_room c.requires.readable.0 q c.requires.readable.1 e z, search rules)

pub returns-in_default : goal.returns-in_default
returns-in_default c =
    let (b, q, e, z) = neither (goal.at.returns-in_default c).In_default in
    leaf_single c.requires.readable.0 q c.requires.readable.1 e z c.single_end.ensures c.alone.ensures

pub returns-in-Some-eq101 : goal.returns-in-Some-eq101
returns-in-Some-eq101 c = let w = c.in-Some-eq101 in leaf_empty c.requires.readable.0 w.ensures w.field-0-test c.blank.ensures

pub returns-in-Some-eq48 : goal.returns-in-Some-eq48
returns-in-Some-eq48 c = let w = c.in-Some-eq48 in leaf_nothing c.requires.readable.0 w.ensures w.field-0-test c.blank-in-Some-eq48.ensures
