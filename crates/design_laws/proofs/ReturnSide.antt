-- Without a return side a return fan only costs, so the best design has none.
use Rattle.std.proofs.Common.{◌≡◌, ℕ, ◌+◌, ◌≤◌, inl, inr, [], map, max, Option, Some, None, ap, sym, arith}
use Rattle.std.specs.Prelude.{fold}
use Rattle.duct_units.specs.declared.side.Side.TheVariants.{Supply, Return}
use Rattle.duct_definitions.specs.declared.design.Design.{Design}
use Rattle.duct_definitions.specs.Tree.{leaves}
use Rattle.duct_definitions.specs.Network.{Network, fan_at}
use Rattle.duct_definitions.specs.Designs.{Meets, Covers, path_loss, worst}
use Rattle.duct_definitions.specs.Order.{Before, IsBest}
use Rattle.duct_definitions.proofs.OrderLaws.{turn_of-inj}

module _ (net : Network) (d : Design) (none : leaves net.tree Return ≡ []) where
  pub no_return_loss : worst net d Return ≡ 0
  no_return_loss = ap (λ all. fold max 0 (map (path_loss net d) all)) none

  -- the design without its return fan
  abbrev alone : Design
  alone = record { fan = d.fan; back = None; sizes = d.sizes }

  covers_alone : (back : Option ℕ) → Covers net d back
      → worst net d Supply + worst net d Return ≤ (fan_at net d.fan).pressure
  covers_alone None covered = covered
  covers_alone (Some i) covered = let nothing = no_return_loss in let supply = covered.0 in omega arith

  alone_meets : Meets net d → Meets net alone
  alone_meets meets = record {
    fits = record { fan = meets.fits.fan; back = tt; sizes = meets.fits.sizes; each = meets.fits.each };
    pairs = meets.pairs;
    pressure = covers_alone d.back meets.pressure;
  }

  -- at no more cost and with the same fan the design's turn is the first
  none_before : Before net d alone → d.back ≡ None
  none_before (inl less) = absurd (omega arith)
  none_before (inr (same, inl less)) = absurd (omega arith)
  none_before (inr (same, inr (fan, inl less))) = absurd (omega arith)
  none_before (inr (same, inr (fan, inr (turn, rest)))) = turn_of-inj d.back None turn

  pub no_return_fan : IsBest net d → d.back ≡ None
  no_return_fan best =
      elim (best.first alone (alone_meets best.meets)) [
        | inl same ↦ ap (λ design. design.back) (sym same)
        | inr before ↦ none_before before
      ]
