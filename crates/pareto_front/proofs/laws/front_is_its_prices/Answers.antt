use Rattle.pareto_front.proofs.Same.{same_prices}
use Rattle.pareto_front.proofs.laws.front_is_its_prices.Goals as goal

pub returns : goal.returns
returns c = same_prices c.args.a.now c.args.b.now c.tell_front.ensures c.tell_front-2.ensures c.requires
