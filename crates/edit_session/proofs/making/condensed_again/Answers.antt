use Rattle.std.proofs.Common.{◌<◌, map, sym, subst, ◌∙◌}
use Rattle.duct_definitions.specs.Network.{Network}
use Rattle.duct_definitions.specs.Tree.{section_count}
use Rattle.edit_session.specs.Current.{catalogues_of}
use Rattle.edit_session.proofs.Sessions.{built-after, joined-after, kept-after, named-after}
use Rattle.edit_session.proofs.making.condensed_again.Goals as goal

pub rebuilt-requires-clause-joined : goal.rebuilt-requires-clause-joined
rebuilt-requires-clause-joined g c = joined-after c.args.before.now c.args.project.now (catalogues_of c.args.catalogues.now) c.args.edit.now c.requires.edited

pub rebuilt-requires-clause-section : goal.rebuilt-requires-clause-section
rebuilt-requires-clause-section g c = named-after c.args.before.now c.args.project.now (catalogues_of c.args.catalogues.now) c.args.edit.now c.requires.edited

pub rebuilt-requires-clause-built : goal.rebuilt-requires-clause-built
rebuilt-requires-clause-built g c =
    built-after c.args.before.now c.args.project.now (catalogues_of c.args.catalogues.now) c.args.catalogues.now.fans c.args.edit.now (map g.R.SizeRule.allows c.args.rules.now.items) (map g.R.SizeRule.label c.args.rules.now.items)
    c.args.is_cap_kept c.into_parts-net.result.0 c.args.made.counts c.requires.edited (c.into_parts-net.ensures.network ∙ c.requires.made.network) c.requires.made.counts c.requires.made.most

pub again-requires-clause-section : goal.again-requires-clause-section
again-requires-clause-section g c =
    subst (λ (net : Network). c.args.edit.now.section < section_count net.tree) (sym c.in_ok-net.ensures.network)
    (named-after c.args.before.now c.args.project.now (catalogues_of c.args.catalogues.now) c.args.edit.now c.requires.edited)

pub again-requires-clause-kept : goal.again-requires-clause-kept
again-requires-clause-kept g c =
    kept-after c.fronts_stay_exact.ensures c.args.before.now c.args.project.now (catalogues_of c.args.catalogues.now) c.args.catalogues.now.fans c.args.edit.now (map g.R.SizeRule.allows c.args.rules.now.items)
    c.args.made.condensed.net c.in_ok-net.net c.into_parts-net.result.1 c.args.is_cap_kept c.requires.edited c.requires.made.network c.in_ok-net.ensures.network c.requires.cap c.into_parts-net.ensures.kept
