use Rattle.scope.proofs.Operations.Buffers.{tail_then}
use Rattle.signs.proofs.Noting.{sources_left, sources_right}
use Rattle.signs.proofs.note_all.Goals as goal
use Rattle.signs.proofs.note_all.Goals.{else-q-s, then-q-s}

pub loop-q-preserved : goal.loop-q-preserved
loop-q-preserved c =
    let d = c.args.pair.now.first_states in
    let v = c.loop-q.invariant in
    let s = c.head-s.ensures.counts.0 in
    record {
      rows = c.write_row.ensures.0;
      kept = tail_then v.kept c.write_row.ensures.1;
      sources = elim c.if-q-s.branch [
        | then-q-s w ↦ rw w.from-is (sources_left d w.sign.ensures v.sources (rw s at w.if-q-s.true) w.note.ensures)
        | else-q-s w ↦ rw w.from-is (sources_right d w.sign-else-q-s.ensures v.sources (rw s at w.if-q-s.false) (rw s at w.note-else-q-s.ensures))
      ];
    }
