use Rattle.std.proofs.Common.{length, sum_by, refl, arith}
use Rattle.std.proofs.lemmas.Option.{slice_get_read}
use Rattle.net_build.specs.Refusals.{count_of}
use Rattle.net_build.proofs.TogetherLaws.{counted-more}
use Rattle.net_build.proofs.by_section.count_together.Goals as goal

pub loop-i-preserved : goal.loop-i-preserved
loop-i-preserved g c =
    let n = c.len-i-end.ensures in
    let at = slice_get_read c.args.rules.now.items (length c.args.rules.now.items) c.loop-i.i c.index.result.now refl (omega arith) c.index.ensures in
    counted-more g.R.SizeRule.label (λ i. sum_by (count_of i) c.args.sections.now) c.args.rules.now.items c.loop-i.i c.index.result.now c.name_of.result c.count_of_rule.result c.loop-i.refusals.items c.push.new.self.items at
    c.loop-i.invariant c.name_of.ensures c.count_of_rule.ensures c.in_ok-push.ensures.items
