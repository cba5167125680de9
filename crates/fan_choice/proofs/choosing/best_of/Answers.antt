use Rattle.std.proofs.Common.{◌∙◌, ap, Option}
use Rattle.std.specs.Option.{option_and_then, option_map}
use Rattle.pareto_front.specs.declared.point.Point.{Point}
use Rattle.fan_choice.specs.FirstCheapest.{cheaper}
use Rattle.fan_choice.specs.OwnFans.{beside}
use Rattle.fan_choice.specs.Sharing.{best_shared}
use Rattle.fan_choice.proofs.LastWithin.{last_within-part}
use Rattle.fan_choice.proofs.Rest.{part_front}
use Rattle.fan_choice.proofs.Shares.{price, best_shared-part}
use Rattle.fan_choice.proofs.choosing.best_of.Goals as goal

pub best_shared-shared-requires-clause-supply_front : goal.best_shared-shared-requires-clause-supply_front
best_shared-shared-requires-clause-supply_front c =
    part_front c.args.supply.now c.within-affordable.result.now c.within-affordable.ensures.part
    c.requires.supply_front

pub best_beside-beside-requires-clause-front : goal.best_beside-beside-requires-clause-front
best_beside-beside-requires-clause-front c =
    part_front c.args.supply.now c.within-affordable.result.now c.within-affordable.ensures.part
    c.requires.supply_front

pub returns : goal.returns
returns c =
    let fan = c.args.fan.now in
    let supply = c.args.supply.now in
    let part = c.within-affordable.result.now in
    let cut = c.within-affordable.ensures in
    let shared = c.best_shared-shared.ensures ∙ best_shared-part c.args.number fan c.args.back.now supply part
    cut.part cut.beyond in
    let with_last : Option Point → _ = λ last. option_and_then
    (λ own. option_map (beside c.args.number fan own) last) c.args.own in
    let of_own = c.best_beside-beside.ensures ∙ ap with_last
    (last_within-part supply part fan.pressure cut.part cut.beyond) in
    c.cheaper.ensures
    ∙ ap (λ best. cheaper price best c.best_beside-beside.result) shared
    ∙ ap (cheaper price (best_shared c.args.number fan supply c.args.back.now)) of_own
