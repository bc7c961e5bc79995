-- What is lent is judged first, then the room, then the output; the scratch is cleared once the room is judged.
use mathlib.Core.Path.{◌≡◌, refl, ap, ◌∙◌}
use native.Mathlib.Omega.{arith}
use Rattle.scope.specs.Machines.Canonical.{Canonical}
use Rattle.scope.specs.Operations.Buffers.{Lent, Cleared}
use Rattle.scope.specs.Packing.PackedForm.{form_length}
use Rattle.scope.specs.Operations.Pack.{no_room, no_form, no_output, packed}
use Rattle.buffers.proofs.OneMore.{cleared_after, all_kept}
use Rattle.packing.proofs.pack.Goals as goal
use Rattle.packing.proofs.pack.Goals.{Else-not-is_lent, After-clear, Else-not-canonical, After-form_length}

-- what is lent
lent : (c : Else-not-is_lent) → Lent c.args.room.now c.args.bytes.now c.args.words.now
lent c = c.is_lent.ensures.yes c.if-not-is_lent.false

-- the room is canonical
canonical : (c : Else-not-canonical) → Canonical c.args.room.now
canonical c = c.is_canonical-canonical.ensures.0.yes c.if-not-canonical.false

-- the scratch, behind both writings
cleared : (c : After-clear) → Cleared c.args.bytes.now c.clear.new.bytes c.args.words.now c.clear.new.words
cleared c = cleared_after (omega arith) (omega arith) (all_kept _ 0) c.is_canonical-canonical.ensures.1 c.clear.ensures

pub returns-then-not-is_lent : goal.returns-then-not-is_lent
returns-then-not-is_lent c = no_room (c.is_lent.ensures.no c.if-not-is_lent.true) refl (record { bytes_kept = refl; words_kept = refl })

pub returns-then-not-canonical : goal.returns-then-not-canonical
returns-then-not-canonical c =
    let at = goal.at.returns-then-not-canonical c in
    no_form (lent at.Else-not-is_lent) (c.is_canonical-canonical.ensures.0.no c.if-not-canonical.true) refl (cleared at.After-clear)

-- the length of its form
size : (c : After-form_length) → c.form_length.result ≡ form_length c.args.room.now
size c = c.form_length.ensures ∙ ap form_length c.new-table.ensures

pub returns-then-form-form_length : goal.returns-then-form-form_length
returns-then-form-form_length c =
    let at = goal.at.returns-then-form-form_length c in
    no_output (lent at.Else-not-is_lent) (canonical at.Else-not-canonical) (omega (arith, size at.After-form_length)) refl (cleared at.After-clear)

pub returns : goal.returns
returns c =
    let at = goal.at.returns c in
    let (n, p) = rw c.new-table.ensures at c.pack_fields.ensures in
    packed (lent at.Else-not-is_lent) (canonical at.Else-not-canonical) n (omega (arith, size at.After-form_length, n)) p (cleared at.After-clear)
