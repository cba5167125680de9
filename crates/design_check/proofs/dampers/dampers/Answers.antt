use Rattle.design_check.specs.Named.{named}
use Rattle.damper_balance.proofs.FoundDampers.{losses_fit, dampers_found}
use Rattle.design_check.proofs.dampers.dampers.Goals as goal

pub throttle-requires-clause-fits : goal.throttle-requires-clause-fits
throttle-requires-clause-fits c s =
    losses_fit c.args.net.now (named c.args.net.now c.args.listed.now) c.tree.result.now _ c.args.numbers.now s
    c.tree.ensures.tree c.requires.meets (record { supply = c.requires.supply; back = c.requires.back })
    c.requires.losses

pub returns : goal.returns
returns c =
    dampers_found c.args.net.now (named c.args.net.now c.args.listed.now) c.tree.result.now _ c.args.numbers.now
    c.throttle.new.numbers c.tree.ensures.tree (record { supply = c.requires.supply; back = c.requires.back })
    c.requires.losses c.throttle.ensures
