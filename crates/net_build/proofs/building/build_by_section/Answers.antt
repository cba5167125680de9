use Rattle.std.proofs.Common.{map, ap, ◌∙◌, sym, subst}
use Rattle.duct_units.specs.Rules.{first_broken}
use Rattle.duct_definitions.specs.Tree.{sections}
use Rattle.size_catalogue.specs.Catalogue.{IsCatalogue}
use Rattle.net_build.specs.Fans.{offered}
use Rattle.net_build.specs.Joining.{joining_rules}
use Rattle.net_build.specs.Sections.{section_sizes}
use Rattle.net_build.proofs.JoinLaws.{accepted}
use Rattle.net_build.proofs.NetworkLaws.{built-network, built-is, found-few, built-counts, built-whole}
use Rattle.net_build.proofs.building.build_by_section.Goals as goal

pub all_built-requires-clause-sections : goal.all_built-requires-clause-sections
all_built-requires-clause-sections g c =
    let found = accepted (first_broken (joining_rules c.args.project.now c.new-catalogues.result)) (map (section_sizes c.args.project.now c.new-catalogues.result) (sections c.args.project.now.tree)) c.in_ok-sections.sections c.in_ok-sections.ensures.value in
    found-few c.args.project.now c.new-catalogues.result c.as_slice.result.now c.requires.project (c.as_slice.ensures ∙ sym found.1)

pub network-requires-clause-network : goal.network-requires-clause-network
network-requires-clause-network g c =
    let found = accepted (first_broken (joining_rules c.args.project.now c.new-catalogues.result)) (map (section_sizes c.args.project.now c.new-catalogues.result) (sections c.args.project.now.tree)) c.in_ok-sections.sections c.in_ok-sections.ensures.value in
    built-is c.args.project.now c.new-catalogues.result c.args.fans.now (map g.R.SizeRule.allows c.args.rules.now.items) c.in_ok-pairs.pairs c.in_ok-fans.fans c.as_slice.result.now c.requires.project
    (subst (λ x. IsCatalogue x.sizes) (sym c.new-catalogues.ensures) c.sizes_are_a_catalogue.ensures) found.0 (c.as_slice.ensures ∙ sym found.1) c.in_ok-pairs.ensures.pairs
    (c.in_ok-fans.ensures.value ∙ ap (offered c.args.fans.now c.args.project.now.energy) c.fan_flow.ensures) c.in_ok-fans.ensures.fans c.in_ok-pairs.ensures.bounds

pub returns-clause-value : goal.returns-clause-value
returns-clause-value g c =
    let found = accepted (first_broken (joining_rules c.args.project.now c.new-catalogues.result)) (map (section_sizes c.args.project.now c.new-catalogues.result) (sections c.args.project.now.tree)) c.in_ok-sections.sections c.in_ok-sections.ensures.value in
    built-whole c.args.project.now c.new-catalogues.result _ c.args.fans.now (map g.R.SizeRule.allows c.args.rules.now.items) (map g.R.SizeRule.label c.args.rules.now.items) c.in_ok-net.net c.in_ok-pairs.refusals (sym c.new-catalogues.ensures) found.0
    (c.in_ok-net.ensures
    ∙ built-network c.args.project.now c.new-catalogues.result c.args.fans.now (map g.R.SizeRule.allows c.args.rules.now.items) c.in_ok-pairs.pairs c.in_ok-fans.fans c.as_slice.result.now (c.as_slice.ensures ∙ sym found.1) c.in_ok-pairs.ensures.pairs
    (c.in_ok-fans.ensures.value ∙ ap (offered c.args.fans.now c.args.project.now.energy) c.fan_flow.ensures))
    (built-counts c.args.project.now c.new-catalogues.result (map g.R.SizeRule.allows c.args.rules.now.items) (map g.R.SizeRule.label c.args.rules.now.items) c.in_ok-pairs.refusals c.as_slice.result.now (c.as_slice.ensures ∙ sym found.1) c.in_ok-pairs.ensures.refusals)
