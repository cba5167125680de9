use Rattle.damper_balance.proofs.PassLemmas.{AreSlacksFrom}
use Rattle.damper_balance.proofs.passes.slacks.Given as goal

abbrev pub invariant-loop-s : goal.invariant-loop-s
invariant-loop-s l = AreSlacksFrom l.tree l.heads l.fn.numbers l.s l.numbers
