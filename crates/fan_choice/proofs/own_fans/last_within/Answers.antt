use Rattle.std.proofs.Common.{◌∙◌, sym}
use Rattle.fan_choice.proofs.LastWithin.{last_within-part, last_within-all}
use Rattle.fan_choice.proofs.own_fans.last_within.Goals as goal

pub returns-clause-value : goal.returns-clause-value
returns-clause-value c =
    let points = c.args.points.now in
    let part = c.within.result.now in
    c.copied.ensures
    ∙ c.last.ensures.value
    ∙ sym (last_within-all part c.args.budget c.within.ensures.within)
    ∙ last_within-part points part c.args.budget c.within.ensures.part c.within.ensures.beyond
