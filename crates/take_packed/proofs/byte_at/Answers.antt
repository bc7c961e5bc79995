-- Within the form a byte is eight of its bits; past its end all bits are 0.
use Prim.Native.Nat.{◌<◌}
use mathlib.Core.Path.{◌≡◌, ap, ◌∙◌}
use native.Mathlib.Omega.{arith}
use lib.ListN.{get_or}
use Rattle.std.specs.Option.{unwrap_or}
use Rattle.take_packed.proofs.Bytes.{form_byte_lem}
use Rattle.take_packed.proofs.byte_at.Goals as goal

pub returns : goal.returns
returns c =
    let a = c.args in
    let read : c.unwrap_or.result ≡ get_or a.form.now a.i 0 =
    c.unwrap_or.ensures ∙ ap (λ o. unwrap_or o 0) c.copied.ensures ∙ c.get.ensures.lookup.4 (omega arith) 0 in
    let small : get_or a.form.now a.i 0 < 256 = omega (arith, c.type_inv.form a.i) in
    rw read (form_byte_lem a.form.now a.i small, small)
