use Rattle.std.proofs.Common.{◌≡◌}
use Rattle.duct_units.specs.declared.side.Side.TheVariants.{Supply, Return}
use Rattle.duct_definitions.specs.Designs.{worst}
use Rattle.damper_balance.proofs.FoundDampers.{worst_found}
use Rattle.damper_balance.proofs.dampers.find_pressures.Goals as goal
use Rattle.damper_balance.proofs.dampers.find_pressures.Goals.{After-greatest-return_worst}

return_is : (c : After-greatest-return_worst)
    → c.greatest-return_worst.result ≡ worst c.args.net.now c.args.d.now Return
return_is c =
    worst_found c.args.net.now c.args.d.now Return c.tree-tree.result.now c.args.losses.now
    c.greatest-return_worst.result
    c.tree-tree.ensures.tree c.requires.losses c.greatest-return_worst.ensures

pub find_heads-requires-clause-back : goal.find_heads-requires-clause-back
find_heads-requires-clause-back c = return_is c

pub returns : goal.returns
returns c = record {
  supply_worst =
      worst_found c.args.net.now c.args.d.now Supply c.tree-tree.result.now c.args.losses.now
      c.greatest-supply_worst.result
      c.tree-tree.ensures.tree c.requires.losses c.greatest-supply_worst.ensures;
  return_worst = return_is (goal.at.returns c).After-greatest-return_worst;
  heads = c.find_heads.ensures;
}
