use Rattle.damper_balance.proofs.FoundDampers.{path_losses_fit, path_losses_found}
use Rattle.damper_balance.proofs.dampers.path_losses.Goals as goal

pub add_along_ways-requires-clause-fits : goal.add_along_ways-requires-clause-fits
add_along_ways-requires-clause-fits c s =
    path_losses_fit c.args.net.now c.args.d.now c.tree.result.now c.losses.new.numbers s c.tree.ensures.network
    c.tree.ensures.tree c.losses.ensures

pub returns : goal.returns
returns c =
    path_losses_found c.args.net.now c.args.d.now c.tree.result.now c.losses.new.numbers
    c.add_along_ways.new.numbers c.tree.ensures.network c.tree.ensures.tree c.losses.ensures c.add_along_ways.ensures
