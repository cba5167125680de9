use Rattle.std.proofs.Common.{◌≡◌, ℕ, arith, ap, sym, ◌∙◌, Option}
use Rattle.pareto_front.specs.LaidPoints.{Laying, least_among}
use Rattle.duct_definitions.specs.Network.{size_count}
use Rattle.duct_units.specs.Prices.{lesser}
use Rattle.least_laws.specs.Prices.{least_below}
use Rattle.least_laws.specs.LeastFromChildren.{least_in, least_with}
use Rattle.least_laws.proofs.SumOf.{least_below-next}
use Rattle.contract_join.proofs.Closing.{least-all}
use Rattle.contract_join.proofs.close.lay_sizes.Goals as goal

pub loop-k-init : goal.loop-k-init
loop-k-init c = (
  ap (λ (x : Laying). x.cap) c.requires.clear,
  λ budget in_cap. ap (λ (x : Laying). least_among x.points budget) c.requires.clear,
)

pub loop-k-preserved : goal.loop-k-preserved
loop-k-preserved c =
    let net = c.args.net.now in (
      c.lay_size.ensures.cap ∙ c.loop-k.invariant.0,
      λ budget in_cap.
          let price : ℕ → Option ℕ = least_with net (least_in net) c.args.s c.args.g budget in
          c.in_ok-lay_size.ensures.least budget in_cap
          ∙ ap (λ o. lesser o (price c.loop-k.k)) (c.loop-k.invariant.1 budget in_cap)
          ∙ sym (least_below-next price c.loop-k.k),
    )

pub returns-clause-least : goal.returns-clause-least
returns-clause-least c budget in_cap =
    let sums = c.requires.sums in
    let net = c.args.net.now in
    let all = c.size_count-k-end.ensures in
    let end : c.loop-k.k ≡ size_count c.args.net.now c.args.s = omega arith in
    c.loop-k.invariant.1 budget in_cap
    ∙ ap (least_below (least_with net (least_in net) c.args.s c.args.g budget)) end
    ∙ least-all net sums.network c.args.s c.args.sums.now sums c.args.g budget c.requires.beside
