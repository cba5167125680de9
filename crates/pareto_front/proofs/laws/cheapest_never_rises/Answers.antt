use Rattle.pareto_front.proofs.Points.{cheapest-rise}
use Rattle.pareto_front.proofs.laws.cheapest_never_rises.Goals as goal

pub returns : goal.returns
returns c less more over = cheapest-rise c.args.front.now less more c.tell_front.ensures over
