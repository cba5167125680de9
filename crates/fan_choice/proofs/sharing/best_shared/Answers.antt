use Rattle.std.proofs.Common.{◌≡◌, ◌∙◌, ◌<◌, length, ap, sym, arith}
use Rattle.pareto_front.specs.declared.point.TheConstants.{COST_LIMIT}
use Rattle.fan_choice.specs.FirstCheapest.{cheaper, first_cheapest}
use Rattle.fan_choice.specs.Sharing.{shares}
use Rattle.fan_choice.proofs.FirstCheapest.{first_cheapest-more}
use Rattle.fan_choice.proofs.Rest.{part_front, part_all, serves_now, serves_later}
use Rattle.fan_choice.proofs.Shares.{price, share-left, best_shared-is}
use Rattle.fan_choice.proofs.sharing.best_shared.Goals as goal

pub loop-point-preserved : goal.loop-point-preserved
loop-point-preserved c =
    let supply = c.args.supply.now in
    let back = c.args.back.now in
    let rest = c.loop-point.rest.now in
    let part = c.within-rest.result.now in
    let i = c.loop-point.point-index in
    let fan = c.args.fan.now in
    let kept = c.loop-point.invariant in
    let cut = c.within-rest.ensures in
    let offer = shares c.args.number fan supply back in
    let serves = serves_now supply back rest part fan.pressure i _ c.loop-point-test.true kept.prices cut.part
    cut.beyond in
    let next = share-left c.args.number fan back supply part i _ c.loop-point-test.true
    (c.requires.affordable i _ c.loop-point-test.true) serves cut.within in
    record {
      best = c.cheaper-best.ensures
          ∙ ap (λ best. cheaper price best c.share.result) kept.best
          ∙ ap (cheaper price (first_cheapest price offer i)) (c.share.ensures ∙ sym next)
          ∙ sym (first_cheapest-more price offer i);
      front = part_front rest part cut.part kept.front;
      costs = part_all rest part cut.part (λ p. p.cost < COST_LIMIT) kept.costs;
      prices = serves_later supply back rest part fan.pressure i _ c.loop-point-test.true kept.prices cut.part
          cut.beyond
          c.requires.supply_front;
    }

pub returns : goal.returns
returns c =
    let supply = c.args.supply.now in
    let over = c.loop-point-test.false in
    let all : c.loop-point.point-index ≡ length supply = omega arith in
    c.loop-point.invariant.best
    ∙ ap (first_cheapest price (shares c.args.number c.args.fan.now supply c.args.back.now)) all
    ∙ best_shared-is c.args.number c.args.fan.now c.args.back.now supply
