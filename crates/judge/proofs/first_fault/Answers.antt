-- A tally beyond its limit has the first place beyond it.
use Rattle.judge.specs.Faults.{nothing, falling, deep, many}
use Rattle.judge.proofs.first_fault.Goals as goal

pub returns-in-Some : goal.returns-in-Some
returns-in-Some c = λ _ k. falling (c.in-Some.ensures _ k.falls_kept)

pub returns-in-Some-beyond : goal.returns-in-Some-beyond
returns-in-Some-beyond c = λ _ k. deep (c.in_default.ensures _ k.falls_kept) (c.in-Some-beyond.ensures _ k.opens_kept)

pub returns-in-Some-beyond-2 : goal.returns-in-Some-beyond-2
returns-in-Some-beyond-2 c = λ _ k. many (c.in_default.ensures _ k.falls_kept) (c.in_default-beyond.ensures _ k.opens_kept) (c.in-Some-beyond-2.ensures _ k.firsts_kept)

pub returns : goal.returns
returns c = λ _ k. nothing (c.in_default.ensures _ k.falls_kept) (c.in_default-beyond.ensures _ k.opens_kept) (c.in_default-beyond-2.ensures _ k.firsts_kept)
