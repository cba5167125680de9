-- A design that meets the rules costs no less than its fans with its worst supply loss as the budget.
use Rattle.std.proofs.Common.{◌≡◌, ℕ, ◌+◌, ◌≤◌, arith, ap, sym, ◌∙◌, Option, Some, None}
use Rattle.duct_units.specs.declared.side.Side.{Side}
use Rattle.duct_units.specs.declared.side.Side.TheVariants.{Supply, Return}
use Rattle.duct_definitions.specs.declared.design.Design.{Design}
use Rattle.duct_definitions.specs.Tree.{IsTree}
use Rattle.duct_definitions.specs.Network.{Network, fan_at}
use Rattle.duct_definitions.specs.Designs.{Covers, Meets, worst, fans_cost}
use Rattle.duct_definitions.specs.Order.{NoneMeets}
use Rattle.tree_sums.specs.Route.{Fan}
use Rattle.duct_units.specs.Prices.{both_of}
use Rattle.least_laws.specs.LeastFromChildren.{least_in}
use Rattle.least_laws.specs.Choosing.{side_least, return_budget, budget_of, cost_at, IsOffered}
use Rattle.least_laws.proofs.Ducts.{IsSizing, price_sum}
use Rattle.least_laws.proofs.Side.{side-bound}
use Rattle.least_laws.proofs.TreePlaces.{next_in-falls}
use Rattle.least_laws.proofs.DuctsOf.{ducts_of}
use Rattle.least_laws.proofs.SideLeast.{side_sum-least, least_in-roots}
use Rattle.least_laws.proofs.DesignSizes.{sizes_in, sizing-from_meets}

-- the cost with the fans and the supply budget, from the leasts of both sides
abbrev pub least_cost : Network → ℕ → Option ℕ → ℕ → Option ℕ
least_cost net fan own budget = cost_at net (side_least net Supply) (side_least net Return) fan own budget

-- the prices of a side of a design
abbrev pub side_price : Network → Design → Side → ℕ
side_price net d x = price_sum (ducts_of net) (sizes_in d) (Fan x)

-- the design's fans with a supply budget cost at most what the design costs
pub record IsCostBound (net : Network) (d : Design) (supply : ℕ) : Type 0 where
  pub supply_least : ℕ
  pub return_least : ℕ
  pub supply_is : side_least net Supply supply ≡ Some supply_least
  pub return_is : side_least net Return (return_budget net d.fan d.back supply) ≡ Some return_least
  pub supply_le : supply_least ≤ side_price net d Supply
  pub return_le : return_least ≤ side_price net d Return

pub both_sides : (cost : ℕ) (supply back : Option ℕ) (s r : ℕ) → supply ≡ Some s → back ≡ Some r
    → both_of (Some cost) (both_of supply back) ≡ Some (cost + (s + r))
both_sides cost supply back s r one other =
    ap (λ o. both_of (Some cost) (both_of o back)) one ∙ ap (λ o. both_of (Some cost) (both_of (Some s) o)) other

-- a design that is covered keeps its supply side's worst loss as the budget of each side
pub covers-budgets : (net : Network) (d : Design) (back : Option ℕ) → Covers net d back → (x : Side)
    → worst net d x ≤ budget_of net d.fan back (worst net d Supply) x
covers-budgets net d back covered Supply = omega arith
covers-budgets net d None covered Return = omega arith
covers-budgets net d (Some i) covered Return = covered.1

covers-supply : (net : Network) (d : Design) (back : Option ℕ) → Covers net d back
    → worst net d Supply ≤ (fan_at net d.fan).pressure
covers-supply net d None covered = omega arith
covers-supply net d (Some i) covered = covered.0

-- a design that keeps the budgets of both sides is covered
pub covers-from : (net : Network) (d : Design) (back : Option ℕ) (supply : ℕ) → supply ≤ (fan_at net d.fan).pressure
    → ((x : Side) → worst net d x ≤ budget_of net d.fan back supply x) → Covers net d back
covers-from net d None supply within kept = let one = kept Supply in let other = kept Return in omega arith
covers-from net d (Some i) supply within kept = let one = kept Supply in (omega arith, kept Return)

module _ (net : Network) (tree : IsTree net.tree) where
  -- the least of a side is at most what a design pays that keeps the budget
  pub side_least-bound : (d : Design) (x : Side) (b : ℕ) → IsSizing (ducts_of net) (Fan x) b (sizes_in d)
      → (v : ℕ) × (side_least net x b ≡ Some v) × (v ≤ side_price net d x)
  side_least-bound d x b sizing =
      let bound = side-bound (ducts_of net) (next_in-falls net.tree tree) x (least_in net) (least_in-roots net tree)
      b (sizes_in d) sizing in
      (bound.y, sym (side_sum-least net x b) ∙ bound.is, bound.le)

  pub cost_bound : (d : Design) → Meets net d → IsCostBound net d (worst net d Supply)
  cost_bound d meets =
      let kept = covers-budgets net d d.back meets.pressure in
      let supply = side_least-bound d Supply (worst net d Supply)
      (sizing-from_meets net tree d meets Supply (worst net d Supply) (kept Supply)) in
      let back = side_least-bound d Return (return_budget net d.fan d.back (worst net d Supply))
      (sizing-from_meets net tree d meets Return (return_budget net d.fan d.back (worst net d Supply)) (kept Return)) in
      record {
        supply_least = supply.0;
        return_least = back.0;
        supply_is = supply.1;
        return_is = back.1;
        supply_le = supply.2;
        return_le = back.2;
      }

  pub offered : (d : Design) → Meets net d → IsOffered net d.fan d.back (worst net d Supply)
  offered d meets = record {
    in_range = meets.fits.fan;
    back = meets.fits.back;
    within = covers-supply net d d.back meets.pressure;
  }

  -- without a least cost no design meets the rules
  pub none_meets : ((fan : ℕ) (own : Option ℕ) (budget : ℕ) → IsOffered net fan own budget
      → least_cost net fan own budget ≡ None) → NoneMeets net
  none_meets none d meets =
      let bound = cost_bound d meets in
      let at = both_sides (fans_cost net d.fan d.back) _ _ _ _ bound.supply_is bound.return_is in
      let both = sym (none d.fan d.back (worst net d Supply) (offered d meets)) ∙ at in
      cc both
