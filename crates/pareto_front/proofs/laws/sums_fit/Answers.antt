use Rattle.pareto_front.proofs.Bounds.{sums_fit}
use Rattle.pareto_front.proofs.laws.sums_fit.Goals as goal

pub returns : goal.returns
returns c = sums_fit c.args.a.now c.args.b.now c.args.x c.args.y c.requires.a_bounded c.requires.b_bounded c.requires.bounds
