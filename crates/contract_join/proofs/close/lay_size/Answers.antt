use Rattle.std.proofs.Common.{◌≡◌, ℕ, ◌+◌, ◌<◌, ◌≤◌, ◌^◌, arith, ap, sym, ◌∙◌, subst, List}
use Rattle.std.specs.Prelude.{All}
use Rattle.std.proofs.lemmas.Result.{IfOk-weaker}
use Rattle.pareto_front.specs.declared.point.Point.{Point}
use Rattle.pareto_front.specs.Front.{shifted}
use Rattle.pareto_front.specs.LaidPoints.{Laying, least_among}
use Rattle.duct_definitions.specs.Network.{cap}
use Rattle.duct_units.specs.Prices.{lesser}
use Rattle.least_laws.specs.LeastFromChildren.{least_in, least_with}
use Rattle.contract_join.specs.SectionFronts.{front_of}
use Rattle.contract_join.proofs.Closing.{sum_costs, least-joined}
use Rattle.contract_join.proofs.Fronts.{front_of-read}
use Rattle.contract_join.proofs.close.lay_size.Goals as goal

pub lay-requires : goal.lay-requires
lay-requires c =
    let sums = c.requires.sums in
    let count = sums.count in
    let size = c.requires.size in
    let front : List Point = c.index-sums-k.result in
    let is : front_of c.args.sums.now c.args.k ≡ front = front_of-read c.args.sums.now c.args.k front (omega arith) c.index-sums-k.is in
    record {
      fits = subst (λ (f : List Point). All (λ point. point.cost + c.in-Some.pair.price + 1 < 2 ^ 64) f) is
          (sum_costs c.args.net.now sums.network c.args.s c.args.sums.now sums c.args.k size c.in-Some.pair c.in-Some.ensures.bounds);
    }

pub returns-in-Some-clause-least : goal.returns-in-Some-clause-least
returns-in-Some-clause-least c =
    let net = c.args.net.now in
    let sums = c.requires.sums in
    let count = sums.count in
    let size = c.requires.size in
    let pair = c.in-Some.pair in
    let front : List Point = c.index-sums-k.result in
    let is : front_of c.args.sums.now c.args.k ≡ front = front_of-read c.args.sums.now c.args.k front (omega arith) c.index-sums-k.is in
    let old : Laying = c.args.laid.now in
    let new : Laying = c.lay.new.self in
    IfOk-weaker c.lay.result
    (λ done. (budget : ℕ) → budget ≤ old.cap
    → least_among new.points budget ≡ lesser (least_among old.points budget) (shifted front pair.loss pair.price budget))
    (λ done. (budget : ℕ) → budget ≤ cap net
    → least_among new.points budget ≡ lesser (least_among old.points budget) (least_with net (least_in net) c.args.s c.args.g budget c.args.k))
    (λ done least budget in_cap.
    least budget (let same = c.requires.cap in omega arith)
    ∙ ap (λ (f : List Point). lesser (least_among old.points budget) (shifted f pair.loss pair.price budget)) (sym is)
    ∙ ap (lesser (least_among old.points budget))
    (least-joined net sums.network c.args.s c.args.sums.now sums c.args.k size c.args.g budget pair (sym c.in-Some.ensures.value) in_cap))
    c.lay.ensures.least
