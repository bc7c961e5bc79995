-- At a whole byte all is out; else zero bits fill the last one.
use Prim.Native.Nat.{◌-◌}
use mathlib.Core.Path.{refl}
use native.Mathlib.Omega.{arith}
use lib.Pow.{pow_pos}
use Rattle.packed_bits.proofs.PackedFields.{zeros}
use Rattle.put_packed.proofs.bits.Bits.finish.Goals as goal
use Rattle.put_packed.proofs.bits.Bits.finish.Goals.{then-self-gt0, else-self-gt0}

pub put-requires : goal.put-requires
put-requires c = (omega arith, omega arith, pow_pos (8 - c.args.self.now.count))

pub returns : goal.returns
returns c =
    elim c.if-self-gt0.branch [
      | then-self-gt0 w ↦ rw w.self-is (record {
        same_buffer = w.put.ensures.put.same_buffer;
        bits = λ b old p f z.
            let s = c.args.self.now in
            let g = w.put.ensures.bits b old p f (zeros b p (8 - s.count) z) in
            (omega (arith, f.here, g.here, w.put.new.self.few), g.done);
      })
      | else-self-gt0 w ↦ rw w.self-is (record { same_buffer = refl; bits = λ b old p f z. (omega (arith, f.here), f.done) })
    ]
