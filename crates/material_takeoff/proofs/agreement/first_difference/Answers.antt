use Rattle.std.proofs.Common.{◌<◌, length, map, arith}
use Rattle.std.proofs.lemmas.List.{length-map}
use Rattle.material_takeoff.proofs.Differences.{agree_more, differs_at_end}
use Rattle.material_takeoff.proofs.agreement.first_difference.Goals as goal

pub loop-place-preserved : goal.loop-place-preserved
loop-place-preserved c =
    agree_more c.args.names.now (map (λ s. s.name) c.args.sections.now) c.loop-place.place c.index-names-place.result c.loop-place.invariant
    c.loop-place-test.true c.index-names-place.is (c.is_listed_at.ensures.0 c.if-not-is_listed_at.false)

pub returns-then-names-sections-clause-first : goal.returns-then-names-sections-clause-first
returns-then-names-sections-clause-first c =
    let listed = map (λ s. s.name) c.args.sections.now in
    let less : length c.args.names.now < length listed = simp length-map (omega arith) in
    differs_at_end c.args.names.now listed c.loop-place.place c.loop-place.invariant (omega arith) less
