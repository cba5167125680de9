use Rattle.std.proofs.Common.{◌≡◌, ◌<◌, ◌+◌, ◌∙◌, arith, ap, sym, subst, length, take, drop, min}
use Rattle.std.specs.Prelude.{All}
use Rattle.pareto_front.specs.LeastPrices.{AreBetween}
use Rattle.pareto_front.proofs.PricesByNeed.{written}
use Rattle.pareto_front.proofs.PricesLaid.{AreBetween-laid}
use Rattle.pareto_front.proofs.least_prices.LeastPrices.lay.Goals as goal

pub invariant_of-self : goal.invariant_of-self
invariant_of-self c =
    let own = c.self.inside in
    let all = (let same = own.prices.ok.0 in let e : own.prices.len ≡ length own.prices.items = omega arith in e) in
    subst (AreBetween c.min-self-inside.result c.max-self-inside.result)
    (sym (written c.lay_points.new.prices own.prices.items own.prices.len all (c.lay_points.ensures.wide ∙ ap length c.deref_mut.ensures.value)))
    (subst (λ m. AreBetween m c.max-self-inside.result c.lay_points.new.prices) (sym c.min-self-inside.ensures)
    (subst (λ m. AreBetween (min own.from (c.in-Some-Some.first.now.need + c.args.loss)) m c.lay_points.new.prices) (sym c.max-self-inside.ensures)
    (AreBetween-laid c.args.points.now c.requires.front c.args.loss c.in-Some-Some.first.now c.in-Some-Some.last.now
    (sym c.in-Some-Some.ensures.value) (sym c.in-Some-Some.ensures'.value)
    own.prices.items c.lay_points.new.prices own.from own.until c.self.invariant (c.lay_points.ensures.wide ∙ ap length c.deref_mut.ensures.value)
    (subst (λ l. All (λ p. p.need + c.args.loss < length l) c.args.points.now) (sym c.self.view_is) c.requires.needs)
    (λ i few. c.lay_points.ensures.before i few ∙ ap (take i) c.deref_mut.ensures.value)
    (λ i many. c.lay_points.ensures.after i many ∙ ap (drop i) c.deref_mut.ensures.value))))
