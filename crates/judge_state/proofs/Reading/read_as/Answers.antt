-- A high end may make a falling range.
use mathlib.Core.Path.{refl}
use native.Mathlib.Omega.{arith}
use Rattle.judge_state.proofs.ByteTaken.{read_falls, read_rises}
use Rattle.judge_state.proofs.Reading.read_as.Goals as goal

pub returns-in-High-clause-read_as : goal.returns-in-High-clause-read_as
returns-in-High-clause-read_as c =
    record { state = refl; notes = λ _. read_falls _ c.args.self.now c.in-High.is c.if-value-self.true c.more-in-High.ensures }

pub returns-else-value-self-clause-read_as : goal.returns-else-value-self-clause-read_as
returns-else-value-self-clause-read_as c = record { state = refl; notes = λ _. read_rises _ c.args.self.now c.in-High.is (omega arith) }
