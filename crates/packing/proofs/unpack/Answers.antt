-- What is lent is judged first; then the image that the fields make in the scratch; what was written there is cleared on every way out.
use mathlib.Core.Path.{refl}
use native.Mathlib.Omega.{arith}
use Rattle.scope.specs.Operations.Unpack.{no_room, no_form, unpacked}
use Rattle.buffers.proofs.OneMore.{cleared_after, all_kept}
use Rattle.packing.proofs.ScratchImage.{no_image, not_canonical, adopted_canonical, adopted_form}
use Rattle.packing.proofs.unpack.Goals as goal
use Rattle.packing.proofs.unpack.Goals.{then-not-unpack_fields-via-then-not-unpack_fields, then-not-unpack_fields-via-else-not-unpack_fields+then-not-is_canonical_table}

pub returns-then-not-is_lent : goal.returns-then-not-is_lent
returns-then-not-is_lent c = no_room (c.is_lent.ensures.no c.if-not-is_lent.true) refl (record { bytes_kept = refl; words_kept = refl })

pub returns-then-not-unpack_fields : goal.returns-then-not-unpack_fields
returns-then-not-unpack_fields c =
    let lent = c.is_lent.ensures.yes c.if-not-is_lent.false in
    let u = c.unpack_fields.ensures in
    elim c.then-not-unpack_fields.branch [
      | then-not-unpack_fields-via-then-not-unpack_fields w ↦
          no_form lent (no_image (u.no w.if-not-unpack_fields.true)) refl
          (cleared_after (omega arith) (omega arith) u.tail (all_kept _ 0) (rw w.words-is at c.clear.ensures))
      | then-not-unpack_fields-via-else-not-unpack_fields+then-not-is_canonical_table w ↦
          let (d, t) = w.is_canonical_table.ensures in
          no_form lent (not_canonical (u.yes w.if-not-unpack_fields.false) (d.no w.if-not-is_canonical_table.true)) refl
          (cleared_after (omega arith) (omega arith) u.tail t (rw w.words-is at c.clear.ensures))
    ]

pub returns : goal.returns
returns c =
    let lent = c.is_lent.ensures.yes c.if-not-is_lent.false in
    let (d, w) = c.is_canonical_table.ensures in
    let image = c.unpack_fields.ensures.yes c.if-not-unpack_fields.false in
    let (s, k) = d.yes c.if-not-is_canonical_table.false in
    let l = lent.room_long in
    let a = c.adopt.ensures in
    unpacked lent (adopted_canonical image s k l a) (adopted_form image s k l a) a.tail
    (cleared_after (omega arith) (omega arith) c.unpack_fields.ensures.tail w c.clear-2.ensures)
