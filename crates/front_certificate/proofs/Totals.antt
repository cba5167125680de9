-- The splits with one fan and those with two are all splits.
use Rattle.std.proofs.Common.{ℕ, ◌<◌, arith, sym, subst, refl, Option, Some, None, List, length}
use Rattle.duct_definitions.specs.Network.{Network, fan_at}
use Rattle.pareto_front.specs.declared.point.Point.{Point}
use Rattle.front_certificate.specs.Sound.{IsNoLess, IsSoundTotal, split_sum}
use Rattle.front_certificate.specs.Tests.{SharedHold, OwnHold}

-- the splits with a return fan hold
abbrev pub AllOwnHold : Network → List (List Point) → Option ℕ → Type 0
AllOwnHold net fronts total =
    (fan own : ℕ) → fan < length net.fans → own < length net.return_fans → OwnHold net fronts total fan own

-- the splits without one hold
abbrev pub AllSharedHold : Network → List (List Point) → Option ℕ → Type 0
AllSharedHold net fronts total = (budget : ℕ) → SharedHold net fronts total budget

module _ (net : Network) (fronts : List (List Point)) (total : Option ℕ) where
  pub sound-from_both : AllSharedHold net fronts total → AllOwnHold net fronts total → IsSoundTotal net fronts total
  sound-from_both shared owned fan None budget split =
      shared budget fan split.offered.in_range split.offered.within
  sound-from_both shared owned fan (Some own) budget split =
      subst (λ b. IsNoLess total (split_sum net fronts fan (Some own) b)) (sym split.whole)
      (owned fan own split.offered.in_range split.offered.back)

  pub shared-from_sound : IsSoundTotal net fronts total → AllSharedHold net fronts total
  shared-from_sound sound budget fan in_range within =
      sound fan None budget (record {
        offered = record { in_range = in_range; back = tt; within = within };
        whole = tt;
      })

  pub own-from_sound : IsSoundTotal net fronts total → AllOwnHold net fronts total
  own-from_sound sound fan own in_range own_in_range =
      sound fan (Some own) (fan_at net fan).pressure (record {
        offered = record { in_range = in_range; back = own_in_range; within = omega arith };
        whole = refl;
      })
