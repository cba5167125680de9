use Rattle.pareto_front.proofs.Together.{IsBoth-ok, both_fits}
use Rattle.pareto_front.proofs.front_sum.in_one.Goals as goal

pub both-requires : goal.both-requires
both-requires c = record { fits = both_fits c.args.first.now c.args.second.now c.requires }

pub returns : goal.returns
returns c = IsBoth-ok c.both.result c.args.first.now c.args.second.now c.both.ensures.value c.both.ensures.needs c.both.ensures.bounded
