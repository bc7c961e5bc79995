-- A field that fills no byte is held behind the others; else the upper eight bits go out and the lower ones are held.
use Prim.Native.Nat.{◌+◌, ◌-◌}
use mathlib.Core.Path.{refl}
use native.Mathlib.Omega.{arith}
use lib.ListN.{length-set}
use Rattle.put_packed.proofs.Joined.{top_lt}
use Rattle.put_packed.proofs.PutBits.{put_few, put_many}
use Rattle.put_packed.proofs.bits.Bits.put.Goals as goal

pub overflow_cast-self : goal.overflow_cast-self
overflow_cast-self c =
    let s = c.args.self.now in
    let r = c.join-all in
    omega (arith, top_lt r.result (s.count + c.args.width) (s.count + c.args.width - 8) r.ensures.1 (omega arith))

pub returns-then-count-lt8 : goal.returns-then-count-lt8
returns-then-count-lt8 c = record {
  put = record { same_buffer = refl; size = refl; place = omega arith };
  bits = λ b old p f h. put_few f c.args.width c.args.x c.join-all.result c.join-all.ensures.0 h refl refl refl refl;
}

pub returns : goal.returns
returns c =
    let more = c.args.self.now.count + c.args.width - 8 in record {
      put = record { same_buffer = refl; size = length-set c.args.self.now.out.now _ _; place = omega arith };
      bits = λ b old p f h. put_many f c.args.width c.args.x c.join-all.result c.join-all.ensures.0 h more (omega arith) (omega (arith, f.done.size)) refl refl refl c.low-self.ensures;
    }
