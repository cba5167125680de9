-- A design that meets the rules costs no less than one of the splits of a certificate whose sections are sound.
use Rattle.std.proofs.Common.{◌≡◌, ℕ, ◌+◌, ◌≤◌, refl, arith, subst, Option, Some, None, List}
use Rattle.std.specs.Prelude.{IfSome}
use Rattle.duct_units.specs.declared.side.Side.TheVariants.{Supply, Return}
use Rattle.duct_definitions.specs.declared.design.Design.{Design}
use Rattle.duct_definitions.specs.Tree.{IsTree, section_count}
use Rattle.duct_definitions.specs.Network.{Network, fan_at}
use Rattle.duct_definitions.specs.Designs.{Covers, Meets, worst, fans_cost, cost}
use Rattle.pareto_front.specs.declared.point.Point.{Point}
use Rattle.least_laws.specs.Choosing.{return_budget}
use Rattle.least_laws.proofs.ChosenAgrees.{pressure-le-cap, return_budget-le-cap}
use Rattle.least_laws.proofs.CostBound.{both_sides, side_least-bound}
use Rattle.least_laws.proofs.DesignSizes.{cost-sides, sizing-from_meets}
use Rattle.front_certificate.specs.Certificates.{Certificate}
use Rattle.front_certificate.specs.Sound.{AreSoundBefore, IsSplit, IsNoLess, IsSound, NoneCostsLess, split_sum, side_bound}
use Rattle.front_certificate.proofs.BelowLeast.{side-bounded}

-- the supply budget with which a design's fans are a split: its worst loss, or with a return fan the whole pressure
supply_budget : Network → Design → Option ℕ → ℕ
supply_budget net d None = worst net d Supply
supply_budget net d (Some i) = (fan_at net d.fan).pressure

-- the budgets keep the worst losses of both sides
record KeepsWorst (net : Network) (d : Design) (back : Option ℕ) (budget : ℕ) : Type 0 where
  supply : worst net d Supply ≤ budget
  returned : worst net d Return ≤ return_budget net d.fan back budget
  within : budget ≤ (fan_at net d.fan).pressure
  whole : IfSome back (λ _. budget ≡ (fan_at net d.fan).pressure)

keeps : (net : Network) (d : Design) (back : Option ℕ) → Covers net d back → KeepsWorst net d back (supply_budget net d back)
unfolding supply_budget
keeps net d None covered = record { supply = omega arith; returned = omega arith; within = omega arith; whole = tt }
keeps net d (Some i) covered = record { supply = covered.0; returned = covered.1; within = omega arith; whole = refl }

module _ (net : Network) (tree : IsTree net.tree) (fronts : List (List Point))
    (sound : AreSoundBefore net fronts (section_count net.tree)) (d : Design) (meets : Meets net d) where
  budget : ℕ
  budget = supply_budget net d d.back

  kept : KeepsWorst net d d.back budget
  unfolding budget
  kept = keeps net d d.back meets.pressure

  split : IsSplit net d.fan d.back budget
  split = record {
    offered = record { in_range = meets.fits.fan; back = meets.fits.back; within = kept.within };
    whole = kept.whole;
  }

  sum-below : (sum : ℕ) × (split_sum net fronts d.fan d.back budget ≡ Some sum) × (sum ≤ cost net d)
  sum-below =
      let rest : ℕ = return_budget net d.fan d.back budget in
      let most = pressure-le-cap net d.fan meets.fits.fan in
      let within = kept.within in
      let supply = side_least-bound net tree d Supply budget (sizing-from_meets net tree d meets Supply budget kept.supply) in
      let back = side_least-bound net tree d Return rest (sizing-from_meets net tree d meets Return rest kept.returned) in
      let one = side-bounded net fronts sound Supply budget (omega arith) supply.0 supply.1 in
      let two = side-bounded net fronts sound Return rest
      (return_budget-le-cap net d.fan d.back budget meets.fits.fan meets.fits.back) back.0 back.1 in
      let whole = cost-sides net tree d in
      let a = supply.2 in
      let b = back.2 in
      let e = one.2 in
      let f = two.2 in (
        fans_cost net d.fan d.back + (one.0 + two.0),
        both_sides (fans_cost net d.fan d.back) (side_bound net fronts Supply budget) (side_bound net fronts Return rest)
            one.0 two.0 one.1 two.1,
        omega arith,
      )

  pub no-less : (total : Option ℕ) → ((fan : ℕ) (own : Option ℕ) (b : ℕ) → IsSplit net fan own b
      → IsNoLess total (split_sum net fronts fan own b)) → IsNoLess total (Some (cost net d))
  no-less None each =
      absurd (subst (IsNoLess None) sum-below.1 (each d.fan d.back budget split))
  no-less (Some total) each =
      let low = subst (IsNoLess (Some total)) sum-below.1 (each d.fan d.back budget split) in
      let less = sum-below.2 in
      omega arith

pub bounds_every_design : (net : Network) → IsTree net.tree → (c : Certificate) → IsSound net c → NoneCostsLess net c.total
bounds_every_design net tree c sound = go c.total sound.total where
  go : (total : Option ℕ) → ((fan : ℕ) (own : Option ℕ) (b : ℕ) → IsSplit net fan own b
      → IsNoLess total (split_sum net c.fronts fan own b)) → NoneCostsLess net total
  go None each = λ d meets. no-less net tree c.fronts sound.sections d meets None each
  go (Some total) each = λ d meets. no-less net tree c.fronts sound.sections d meets (Some total) each
