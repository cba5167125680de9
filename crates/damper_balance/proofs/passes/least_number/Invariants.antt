use Rattle.std.proofs.Common.{◌≡◌, take}
use Rattle.damper_balance.specs.SectionNumbers.{least_at}
use Rattle.damper_balance.proofs.passes.least_number.Given as goal

abbrev pub invariant-loop-s : goal.invariant-loop-s
invariant-loop-s l = l.least ≡ least_at l.numbers (take l.s-index l.sections)
