use Rattle.std.proofs.Common.{◌≡◌, ◌∙◌, List, length, ap, sym, arith}
use Rattle.pareto_front.specs.declared.point.Point.{Point}
use Rattle.fan_choice.specs.FirstCheapest.{first_cheapest}
use Rattle.fan_choice.proofs.Answered.{answer-some, answer-unpriced, answer-none}
use Rattle.fan_choice.proofs.Chosen.{bests}
use Rattle.fan_choice.proofs.Shares.{price}
use Rattle.fan_choice.proofs.choosing.choose.Goals as goal

-- the loop has gone over all fans
chosen : (c : goal.After-loop-number)
    → first_cheapest price (bests c.args.net.now c.args.supply.now c.args.back.now) (length c.args.net.now.fans) ≡
    c.loop-number.best
chosen c =
    let over = c.loop-number-test.false in
    let all : length c.args.net.now.fans ≡ c.loop-number.number = omega (arith, c.fan_count-number-end.ensures) in
    let best : List Point → List Point
    → _ = λ supply back. first_cheapest price (bests c.args.net.now supply back) c.loop-number.number in
    ap (first_cheapest price (bests c.args.net.now c.args.supply.now c.args.back.now)) all
    ∙ ap (λ supply. best supply c.args.back.now) (sym c.points-supply_points.ensures.value)
    ∙ ap (best c.points-supply_points.result.now) (sym c.points-back_points.ensures.value)
    ∙ sym c.loop-number.invariant

pub returns-clause-some : goal.returns-clause-some
returns-clause-some c =
    answer-some c.args.net.now c.args.supply.now c.args.back.now c.points-supply_points.ensures.front
    c.points-back_points.ensures.front
    c.loop-number.best (chosen c)

pub returns-clause-none : goal.returns-clause-none
returns-clause-none c =
    answer-none c.args.net.now c.args.supply.now c.args.back.now c.points-supply_points.ensures.front
    c.points-back_points.ensures.front
    c.loop-number.best (chosen c)

pub returns-clause-unpriced : goal.returns-clause-unpriced
returns-clause-unpriced c =
    answer-unpriced c.args.net.now c.args.supply.now c.args.back.now c.points-supply_points.ensures.front
    c.points-back_points.ensures.front
    c.loop-number.best (chosen c)
