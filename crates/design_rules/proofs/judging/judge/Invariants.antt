use Rattle.design_rules.proofs.RuleLists.{Asked}
use Rattle.design_rules.proofs.judging.judge.Given as goal

abbrev pub invariant-loop-i : goal.invariant-loop-i
invariant-loop-i g l =
    Asked g.R.SizeRule.allows g.R.SizeRule.count
    g.R.SizeRule.label l.facts l.i l.fn.rules.items l.rules.items
