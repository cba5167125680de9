-- What is found for a design: the worst loss and the head of each side, and the damper of each section.
use Rattle.std.specs.Prelude.{◌≡◌}
use Rattle.duct_units.specs.declared.side.Side.TheVariants.{Supply, Return}
use Rattle.duct_definitions.specs.declared.design.Design.{Design}
use Rattle.duct_definitions.specs.Network.{Network}
use Rattle.duct_definitions.specs.Designs.{worst}
use Rattle.duct_definitions.specs.Dampers.{head, damper}
use Rattle.damper_balance.specs.SectionNumbers.{ListsEach}
use Rattle.damper_balance.specs.declared.dampers.Dampers.{Dampers}
use Rattle.damper_balance.specs.declared.dampers.Pressures.{Pressures}
use Rattle.damper_balance.specs.declared.passes.Heads.{Heads}

-- the head of each side
pub record AreHeads (net : Network) (d : Design) (heads : Heads) : Type 0 where
  pub supply : heads.supply ≡ head net d Supply
  pub back : heads.back ≡ head net d Return

-- the worst loss and the head of each side
pub record ArePressures (net : Network) (d : Design) (found : Pressures) : Type 0 where
  pub supply_worst : found.supply_worst ≡ worst net d Supply
  pub return_worst : found.return_worst ≡ worst net d Return
  pub heads : AreHeads net d found.heads

-- the worst loss and the head of each side, and the damper of each section
pub record AreDampers (net : Network) (d : Design) (found : Dampers) : Type 0 where
  pub supply_worst : found.supply_worst ≡ worst net d Supply
  pub supply_head : found.supply_head ≡ head net d Supply
  pub return_worst : found.return_worst ≡ worst net d Return
  pub return_head : found.return_head ≡ head net d Return
  pub damper : ListsEach net.tree (damper net d) found.damper
