use Rattle.pareto_front.proofs.Points.{cheapest-need}
use Rattle.pareto_front.proofs.laws.points_are_prices.Goals as goal

pub returns : goal.returns
returns c = cheapest-need c.args.front.now c.tell_front.ensures
