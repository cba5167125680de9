use Rattle.std.proofs.Common.{map, ap, ◌∙◌}
use Rattle.net_build.specs.Catalogues.{Catalogues}
use Rattle.net_build.specs.Refusals.{counted_together}
use Rattle.net_build.proofs.NetworkLaws.{built-together}
use Rattle.net_build.proofs.building.build_with.Goals as goal

pub returns-clause-value : goal.returns-clause-value
returns-clause-value g c =
    let all : Catalogues = record { sizes = c.args.sizes.now; friction = c.args.friction.now; fittings = c.args.fittings.now } in
    let e = c.in_ok-net.ensures in
    built-together c.args.project.now all c.args.fans.now (map g.R.SizeRule.allows c.args.rules.now.items) (map g.R.SizeRule.label c.args.rules.now.items) c.in_ok-net.net c.in_ok-net.refusals c.in_ok-count_together.field-0 e.value
    (c.in_ok-count_together.ensures ∙ ap (λ counts. counted_together counts (map g.R.SizeRule.label c.build_by_section.new.rules.items)) c.as_slice.ensures ∙ ap (counted_together c.in_ok-net.refusals) e.asked.same.names)
