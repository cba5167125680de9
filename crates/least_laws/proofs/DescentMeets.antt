-- The design taken from the fan outwards keeps both budgets, meets the rules, and has the least cost.
use Rattle.std.proofs.Common.{◌≡◌, ℕ, ◌≤◌, arith, ap, sym, ◌∙◌, Some}
use Rattle.std.proofs.lemmas.Option.{same_Some}
use Rattle.std.specs.Prelude.{is_some}
use Rattle.duct_units.specs.declared.side.Side.{Side}
use Rattle.duct_units.specs.declared.side.Side.TheVariants.{Supply, Return}
use Rattle.duct_definitions.specs.declared.design.Design.{Design}
use Rattle.duct_definitions.specs.Tree.{IsTree, side}
use Rattle.duct_definitions.specs.Network.{Network}
use Rattle.duct_definitions.specs.Designs.{Meets, worst, fans_cost, cost}
use Rattle.tree_sums.specs.Route.{Fan}
use Rattle.tree_sums.proofs.Places.{same-refl}
use Rattle.least_laws.specs.LeastFromChildren.{least_in}
use Rattle.least_laws.specs.Choosing.{side_least, budget_of, IsChosen, IsDescent}
use Rattle.least_laws.proofs.Ducts.{IsSizing}
use Rattle.least_laws.proofs.Side.{side-sizing, side_sum-optimal}
use Rattle.least_laws.proofs.Descent.{IsBestSizing, first-best}
use Rattle.least_laws.proofs.TreePlaces.{next_in-falls}
use Rattle.least_laws.proofs.DuctsOf.{ducts_of}
use Rattle.least_laws.proofs.SideLeast.{side_sum-least, least_in-sums, least_in-roots}
use Rattle.least_laws.proofs.DesignSizes.{sizes_in, chosen-pair_of, goes_by-side, cost-sides, worst-le}
use Rattle.least_laws.proofs.DescentSizes.{descent-left, descent-first_sizes}
use Rattle.least_laws.proofs.CostBound.{side_price, both_sides, covers-from}

module _ (net : Network) (tree : IsTree net.tree) (d : Design) (supply price : ℕ)
    (chosen : IsChosen net (side_least net Supply) (side_least net Return) d.fan d.back supply price)
    (left : ℕ → ℕ) (descent : IsDescent net (budget_of net d.fan d.back supply) left d) where
  pub best_sizing : IsBestSizing (ducts_of net) (budget_of net d.fan d.back supply) (sizes_in d)
  best_sizing =
      first-best (ducts_of net) (next_in-falls net.tree tree) (least_in net) (least_in-sums net tree)
      (budget_of net d.fan d.back supply) (sizes_in d) left
      (descent-left net tree (budget_of net d.fan d.back supply) left d descent)
      (descent-first_sizes net tree (budget_of net d.fan d.back supply) left d descent)

  pub sizing : (x : Side) → IsSizing (ducts_of net) (Fan x) (budget_of net d.fan d.back supply x) (sizes_in d)
  sizing x =
      side-sizing (ducts_of net) (next_in-falls net.tree tree) x (least_in net) (least_in-roots net tree)
      (budget_of net d.fan d.back supply x) (sizes_in d) (best_sizing x)

  pub side_least-is : (x : Side) → side_least net x (budget_of net d.fan d.back supply x) ≡ Some (side_price net d x)
  side_least-is x =
      sym (side_sum-least net x (budget_of net d.fan d.back supply x))
      ∙ side_sum-optimal (ducts_of net) (next_in-falls net.tree tree) x (least_in net) (least_in-roots net tree)
      (budget_of net d.fan d.back supply x) (sizes_in d) (best_sizing x)

  pub worst-budget : (x : Side) → worst net d x ≤ budget_of net d.fan d.back supply x
  worst-budget x = worst-le net tree d x (budget_of net d.fan d.back supply x) (sizing x)

  pub descent_meets : Meets net d
  descent_meets =
      record {
        fits = record {
          fan = chosen.offered.in_range;
          back = chosen.offered.back;
          sizes = descent.sizes;
          each = λ s less. (descent.attains s less).in_range;
        };
        pairs = λ s less.
            let x = side net.tree s in
            let pair = (sizing x).there s less (goes_by-side net.tree tree x s ∙ same-refl (Fan x)) in
            ap is_some (sym (chosen-pair_of net d s) ∙ pair.1);
        pressure = covers-from net d d.back supply chosen.offered.within worst-budget;
      }

  pub descent_cost : cost net d ≡ price
  descent_cost =
      let at = both_sides (fans_cost net d.fan d.back) _ _ _ _ (side_least-is Supply) (side_least-is Return) in
      let same = same_Some _ _ (sym chosen.reached ∙ at) in
      let whole = cost-sides net tree d in
      omega arith
