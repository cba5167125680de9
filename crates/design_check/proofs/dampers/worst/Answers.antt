use Rattle.design_check.specs.Named.{named}
use Rattle.damper_balance.proofs.FoundDampers.{worst_found}
use Rattle.design_check.proofs.dampers.worst.Goals as goal

pub returns : goal.returns
returns c =
    worst_found c.args.net.now (named c.args.net.now c.args.listed.now) c.args.side c.tree.result.now c.args.losses.now
    c.greatest.result c.tree.ensures.tree c.requires.losses c.greatest.ensures
