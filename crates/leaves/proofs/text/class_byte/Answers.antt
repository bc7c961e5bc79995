-- The first byte tells an escape from a bare byte.
use mathlib.Core.Path.{sym, ◌∙◌}
use native.Mathlib.Omega.{arith}
use Rattle.scope.specs.Text.Grammar.{escaped}
use Rattle.leaves.proofs.ByteByByte.{byte_here, class_escape, class_bare}
use Rattle.leaves.proofs.text.class_byte.Goals as goal

pub escape-requires : goal.escape-requires
escape-requires c =
    let p = c.requires in
    record { short = p.short; inside = p.inside; end = _; what = _; reads = class_escape p.reads (sym (byte_here _ _ p.inside) ∙ c.in-92.is) }

pub returns-in-92 : goal.returns-in-92
returns-in-92 c = escaped c.escape.ensures

pub returns-in_default : goal.returns-in_default
returns-in_default c = class_bare c.requires.reads (byte_here _ _ c.requires.inside) (λ e. omega arith)
