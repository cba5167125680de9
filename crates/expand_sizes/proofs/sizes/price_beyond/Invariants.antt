use Rattle.expand_sizes.proofs.Children.{IsSummed}
use Rattle.expand_sizes.proofs.sizes.price_beyond.Given as goal

abbrev pub invariant-loop-child : goal.invariant-loop-child
invariant-loop-child l = IsSummed l.net l.fronts l.s l.k l.budget l.child-items l.child-index l.price
