use Rattle.damper_balance.proofs.FoundDampers.{losses_fit, dampers_found}
use Rattle.damper_balance.proofs.dampers.share.Goals as goal

pub throttle-requires-clause-fits : goal.throttle-requires-clause-fits
throttle-requires-clause-fits c s =
    losses_fit c.args.net.now c.args.d.now c.tree.result.now c.find_pressures-found.result.heads
    c.path_losses.new.numbers s c.tree.ensures.tree c.requires.design c.find_pressures-found.ensures.heads
    c.path_losses.ensures

pub returns-clause-dampers : goal.returns-clause-dampers
returns-clause-dampers c =
    dampers_found c.args.net.now c.args.d.now c.tree.result.now c.find_pressures-found.result.heads
    c.path_losses.new.numbers c.throttle.new.numbers c.tree.ensures.tree c.find_pressures-found.ensures.heads
    c.path_losses.ensures c.throttle.ensures
