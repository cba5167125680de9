-- The design taken from the fan outwards, with the chosen fans and supply budget, is the best.
use Rattle.std.proofs.Common.{◌≡◌, ℕ, ◌+◌, ◌≤◌, ◌⊎◌, inl, inr, arith, ap, sym, ◌∙◌, subst, Some}
use Rattle.std.proofs.lemmas.Option.{same_Some}
use Rattle.std.proofs.lemmas.Bool.Decides.{leb_tells}
use Rattle.duct_units.specs.declared.side.Side.{Side}
use Rattle.duct_units.specs.declared.side.Side.TheVariants.{Supply, Return}
use Rattle.duct_definitions.specs.declared.design.Design.{Design}
use Rattle.duct_definitions.specs.Tree.{IsTree}
use Rattle.duct_definitions.specs.Network.{Network}
use Rattle.duct_definitions.specs.Designs.{Meets, worst, fans_cost, cost}
use Rattle.duct_definitions.specs.Order.{Earlier, turn_of, Before, IsBest}
use Rattle.duct_definitions.proofs.OrderLaws.{turn_of-inj}
use Rattle.design_laws.proofs.TotalOrder.{same_design}
use Rattle.tree_sums.specs.Route.{Fan}
use Rattle.least_laws.specs.LeastFromChildren.{least_in}
use Rattle.least_laws.specs.Choosing.{side_least, budget_of, IsOffered, IsChosen, IsDescent}
use Rattle.least_laws.proofs.Ducts.{IsSizing}
use Rattle.least_laws.proofs.Side.{side-tight}
use Rattle.least_laws.proofs.Descent.{IsBestSizing, descent-first}
use Rattle.least_laws.proofs.TreePlaces.{next_in-falls}
use Rattle.least_laws.proofs.DuctsOf.{ducts_of}
use Rattle.least_laws.proofs.SideLeast.{side_sum-least, least_in-sums, least_in-roots}
use Rattle.least_laws.proofs.DesignSizes.{sizes_in, cost-sides, sizing-from_meets}
use Rattle.least_laws.proofs.DescentSizes.{left_over, left_over-is, descent-left, descent-first_sizes}
use Rattle.least_laws.proofs.Comparing.{le_then, Earlier-from}
use Rattle.least_laws.proofs.CostBound.{side_price, least_cost, both_sides, side_least-bound, covers-budgets, cost_bound, offered}
use Rattle.least_laws.proofs.DescentMeets.{side_least-is, worst-budget, descent_meets, descent_cost}

module _ (net : Network) (tree : IsTree net.tree) (d : Design) (supply price : ℕ)
    (chosen : IsChosen net (side_least net Supply) (side_least net Return) d.fan d.back supply price)
    (left : ℕ → ℕ) (descent : IsDescent net (budget_of net d.fan d.back supply) left d) where
  least_is : (x : Side) → side_least net x (budget_of net d.fan d.back supply x) ≡ Some (side_price net d x)
  least_is = side_least-is net tree d supply price chosen left descent

  kept : worst net d Supply ≤ supply
  kept = worst-budget net tree d supply price chosen left descent Supply

  cost_is : cost net d ≡ price
  cost_is = descent_cost net tree d supply price chosen left descent

  module _ (e : Design) (meets : Meets net e) where
    -- the other design's fans and worst supply loss cost at most what the design costs
    other_at : (c : ℕ) × (least_cost net e.fan e.back (worst net e Supply) ≡ Some c) × (c ≤ cost net e)
    other_at =
        let bound = cost_bound net tree e meets in
        let one = bound.supply_le in
        let other = bound.return_le in
        let whole = cost-sides net tree e in (
          fans_cost net e.fan e.back + (bound.supply_least + bound.return_least),
          both_sides (fans_cost net e.fan e.back) _ _ _ _ bound.supply_is bound.return_is,
          omega arith,
        )

    cost_le : cost net d ≤ cost net e
    cost_le =
        let at = other_at in
        let most = at.2 in
        let least = chosen.least e.fan e.back (worst net e Supply) at.0 (offered net tree e meets) at.1 in
        let same = cost_is in
        omega arith

    -- at equal cost the other design's fans and worst supply loss have the least cost too
    other_price : cost net d ≡ cost net e → least_cost net e.fan e.back (worst net e Supply) ≡ Some price
    other_price equal =
        let at = other_at in
        let most = at.2 in
        let least = chosen.least e.fan e.back (worst net e Supply) at.0 (offered net tree e meets) at.1 in
        let same = cost_is in
        at.1 ∙ ap Some (let tight : at.0 ≡ price = omega arith in tight)

    fan_le : cost net d ≡ cost net e → d.fan ≤ e.fan
    fan_le equal =
        elim (leb_tells d.fan e.fan) [
          | inl less ↦ less.1
          | inr more ↦
              absurd (chosen.first_fan e.fan e.back (worst net e Supply) more.1 (offered net tree e meets)
              (other_price equal))
        ]

    turn_le : cost net d ≡ cost net e → d.fan ≡ e.fan → turn_of d.back ≤ turn_of e.back
    turn_le equal fan =
        elim (leb_tells (turn_of d.back) (turn_of e.back)) [
          | inl less ↦ less.1
          | inr more ↦
              let on_offer : IsOffered net d.fan e.back (worst net e Supply) =
              subst (λ i. IsOffered net i e.back (worst net e Supply)) (sym fan) (offered net tree e meets) in
              absurd (chosen.first_back e.back (worst net e Supply) more.1 on_offer
              (ap (λ i. least_cost net i e.back (worst net e Supply)) fan ∙ other_price equal))
        ]

    supply_le : cost net d ≡ cost net e → d.fan ≡ e.fan → d.back ≡ e.back → supply ≤ worst net e Supply
    supply_le equal fan back =
        elim (leb_tells supply (worst net e Supply)) [
          | inl less ↦ less.1
          | inr more ↦
              absurd (chosen.least_budget (worst net e Supply) more.1
              (ap (λ i. least_cost net i d.back (worst net e Supply)) fan
              ∙ ap (λ o. least_cost net e.fan o (worst net e Supply)) back
              ∙ other_price equal))
        ]

    module _ (equal : cost net d ≡ cost net e) (fan : d.fan ≡ e.fan) (back : d.back ≡ e.back)
        (same_worst : worst net d Supply ≡ worst net e Supply) where
      same_supply : worst net e Supply ≡ supply
      same_supply = let within = kept in let least = supply_le equal fan back in omega arith

      same_budget : (x : Side)
          → budget_of net e.fan e.back (worst net e Supply) x ≡ budget_of net d.fan d.back supply x
      same_budget x =
          ap (λ i. budget_of net i e.back (worst net e Supply) x) (sym fan)
          ∙ ap (λ o. budget_of net d.fan o (worst net e Supply) x) (sym back)
          ∙ ap (λ b. budget_of net d.fan d.back b x) same_supply

      other_worst : (x : Side) → worst net e x ≤ budget_of net d.fan d.back supply x
      other_worst x = subst (λ b. worst net e x ≤ b) (same_budget x) (covers-budgets net e e.back meets.pressure x)

      other_sizing : (x : Side) → IsSizing (ducts_of net) (Fan x) (budget_of net d.fan d.back supply x) (sizes_in e)
      other_sizing x = sizing-from_meets net tree e meets x (budget_of net d.fan d.back supply x) (other_worst x)

      other_ge : (x : Side) → side_price net d x ≤ side_price net e x
      other_ge x =
          let bound = side_least-bound net tree e x (budget_of net d.fan d.back supply x) (other_sizing x) in
          let most = bound.2 in
          let same = same_Some _ _ (sym bound.1 ∙ least_is x) in
          omega arith

      other_le : (x : Side) → side_price net e x ≤ side_price net d x
      other_le x =
          let one = other_ge Supply in
          let other = other_ge Return in
          let mine = cost-sides net tree d in
          let its = cost-sides net tree e in
          let fans : fans_cost net d.fan d.back ≡ fans_cost net e.fan e.back =
          ap (λ i. fans_cost net i d.back) fan ∙ ap (λ o. fans_cost net e.fan o) back in
          elim x as (λ y. side_price net e y ≤ side_price net d y) [ Supply ↦ omega arith | Return ↦ omega arith ]

      other_best : IsBestSizing (ducts_of net) (budget_of net d.fan d.back supply) (sizes_in e)
      other_best x =
          side-tight (ducts_of net) (next_in-falls net.tree tree) x (least_in net) (least_in-roots net tree)
          (budget_of net d.fan d.back supply x) (sizes_in e) (side_price net d x) (other_sizing x)
          (side_sum-least net x (budget_of net d.fan d.back supply x) ∙ least_is x) (other_le x)

      sizes_earlier : (e.sizes ≡ d.sizes) ⊎ Earlier d.sizes e.sizes
      sizes_earlier =
          Earlier-from d.sizes e.sizes (descent.sizes ∙ sym meets.fits.sizes) (λ s less agree.
          let count = descent.sizes in
          descent-first (ducts_of net) (next_in-falls net.tree tree) (least_in net) (least_in-sums net tree)
          (budget_of net d.fan d.back supply) (sizes_in d) (sizes_in e) left
          (left_over net tree (budget_of net d.fan d.back supply) e)
          (descent-left net tree (budget_of net d.fan d.back supply) left d descent)
          (left_over-is net tree (budget_of net d.fan d.back supply) e)
          (descent-first_sizes net tree (budget_of net d.fan d.back supply) left d descent) other_best
          s (omega arith) agree)

    descent_before : (e ≡ d) ⊎ Before net d e
    descent_before =
        le_then (cost net d) (cost net e) _ _ cost_le λ equal.
        le_then d.fan e.fan _ _ (fan_le equal) λ fan.
        le_then (turn_of d.back) (turn_of e.back) _ _ (turn_le equal fan) λ turn.
        let back = turn_of-inj d.back e.back turn in
        le_then (worst net d Supply) (worst net e Supply) _ _
        (let within = kept in let least = supply_le equal fan back in omega arith) λ same_worst.
        elim (sizes_earlier equal fan back same_worst) [
          | inl sizes ↦ inl (same_design d e fan turn sizes)
          | inr before ↦ inr before
        ]

  pub descent_is_best : IsBest net d
  descent_is_best = record { meets = descent_meets net tree d supply price chosen left descent; first = descent_before }
