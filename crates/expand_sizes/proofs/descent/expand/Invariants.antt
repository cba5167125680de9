use Rattle.expand_sizes.proofs.Sizing.{IsSizedTo}
use Rattle.expand_sizes.proofs.descent.expand.Given as goal

abbrev pub invariant-loop-s : goal.invariant-loop-s
invariant-loop-s l = IsSizedTo l.net l.choice l.s l.sizes.items l.rests.items
