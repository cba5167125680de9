use Rattle.damper_balance.proofs.Throttling.{slacks_fit, throttled}
use Rattle.damper_balance.proofs.passes.throttle.Goals as goal

pub less_neighbours-requires-clause-fits : goal.less_neighbours-requires-clause-fits
less_neighbours-requires-clause-fits c s =
    slacks_fit c.args.tree.now c.args.heads c.args.numbers.now c.slacks.new.numbers s c.slacks.ensures.tree
    c.slacks.ensures.slacks

pub returns : goal.returns
returns c =
    throttled c.args.tree.now c.args.heads c.args.numbers.now c.slacks.new.numbers c.less_neighbours.new.numbers
    c.slacks.ensures.tree c.slacks.ensures.slacks c.less_neighbours.ensures
