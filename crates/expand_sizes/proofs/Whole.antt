-- The design at the end of the way outwards is the best.
use Rattle.std.proofs.Common.{◌≡◌, ℕ, ◌<◌, refl, arith, ◌∙◌, Option, Some, None, List}
use Rattle.std.specs.Prelude.{slice_index}
use Rattle.duct_definitions.specs.declared.design.Design.{Design}
use Rattle.duct_definitions.specs.Tree.{section_count, neighbour, side}
use Rattle.duct_definitions.specs.Network.{Network}
use Rattle.duct_definitions.specs.Designs.{size_beside, cost}
use Rattle.duct_definitions.specs.Order.{IsBest}
use Rattle.duct_definitions.proofs.TreeLaws.{earlier}
use Rattle.least_laws.specs.Choosing.{budget_of, left_beside, IsDescent}
use Rattle.least_laws.proofs.BestDesign.{descent_is_best}
use Rattle.least_laws.proofs.DescentMeets.{descent_cost}
use Rattle.fan_choice.specs.declared.choice.Choice.{Choice}
use Rattle.expand_sizes.specs.BestChoice.{budget_on}
use Rattle.expand_sizes.proofs.Budgets.{side-budget}
use Rattle.expand_sizes.proofs.Sizing.{IsSized, IsSizedTo}
use Rattle.expand_sizes.specs.Descent.{left_towards}

-- the design of all sections
module _ {net : Network} {choice : Choice} {n : ℕ} {sizes rests : List ℕ}
    (so_far : IsSizedTo net choice n sizes rests) (all : n ≡ section_count net.tree) where
  abbrev design : Design
  design = record { fan = choice.fan; back = choice.back; sizes = sizes }

  abbrev left : ℕ → ℕ
  left s = left_towards (budget_on choice (side net.tree s)) rests (neighbour net.tree s)

  sized : (s : ℕ) → s < section_count net.tree
      → IsSized net s (size_beside design (neighbour net.tree s)) (left s) (slice_index rests s) (slice_index sizes s)
  sized s within = so_far.each s (omega arith)

  left-is : (s : ℕ) → s < section_count net.tree → (o : Option ℕ) → neighbour net.tree s ≡ o
      → left_towards (budget_on choice (side net.tree s)) rests o
      ≡ left_beside net design left (budget_of net choice.fan choice.back choice.supply_budget (side net.tree s)) o
  left-is s within None at_fan = side-budget so_far.best (side net.tree s)
  left-is s within (Some m) next =
      let before = earlier net.tree s m so_far.tree within next in
      (sized m (omega arith)).rest_is

  descent : IsDescent net (budget_of net choice.fan choice.back choice.supply_budget) left design
  descent = record {
    sizes = so_far.size_count ∙ all;
    remaining = λ s within. left-is s within (neighbour net.tree s) refl;
    attains = λ s within. (sized s within).attains;
    first = λ s k within. (sized s within).first k;
  }

  pub design-best : IsBest net design
  design-best = descent_is_best net so_far.tree design choice.supply_budget choice.cost so_far.best.chosen left
      descent

  pub design-cost : cost net design ≡ choice.cost
  design-cost = descent_cost net so_far.tree design choice.supply_budget choice.cost so_far.best.chosen left descent
