-- A field that is not plain is none that keys lead to; else the key chooses.
use Rattle.typing.proofs.Keys.{presses_unplain}
use Rattle.typing.proofs.press_open.Goals as goal

pub returns-then-not-is_plain : goal.returns-then-not-is_plain
returns-then-not-is_plain c = presses_unplain c.requires (c.is_plain.ensures.no c.if-not-is_plain.true)
