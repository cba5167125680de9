use Rattle.std.proofs.Common.{◌≤◌, List, length, map, ap, sym, subst, ◌∙◌}
use Rattle.duct_definitions.specs.declared.design.NetFan.{NetFan}
use Rattle.duct_definitions.specs.declared.limits.TheConstants.{MAX_SECTIONS}
use Rattle.duct_definitions.specs.declared.listed.RuleCount.{RuleCount}
use Rattle.duct_definitions.specs.Network.{Network, cap, greatest_pressure}
use Rattle.net_build.specs.Fans.{offered}
use Rattle.project_edit.specs.Touched.{touched_in}
use Rattle.edit_session.specs.Current.{catalogues_of}
use Rattle.edit_session.proofs.Sessions.{cap-after, counted-all, counts-few}
use Rattle.edit_session.proofs.making.make_again.Goals as goal

pub condensed_again-requires-clause-offer : goal.condensed_again-requires-clause-offer
condensed_again-requires-clause-offer g c = c.in_ok-fans.ensures.value ∙ ap (offered c.args.catalogues.now.fans c.args.project.now.energy) c.fan_flow.ensures

pub condensed_again-requires-clause-cap : goal.condensed_again-requires-clause-cap
condensed_again-requires-clause-cap g c =
    cap-after c.args.before.now c.args.project.now (catalogues_of c.args.catalogues.now) c.args.catalogues.now.fans c.args.edit.now (map g.R.SizeRule.allows c.args.rules.now.items) c.args.made.condensed.net c.in_ok-fans.fans
    c.greatest_pressure.result c.cap.result c.requires.edited c.requires.made.network (c.in_ok-fans.ensures.value ∙ ap (offered c.args.catalogues.now.fans c.args.project.now.energy) c.fan_flow.ensures)
    (c.greatest_pressure.ensures ∙ ap (λ (fans : List NetFan). greatest_pressure fans) c.as_slice.ensures) (c.cap.ensures ∙ ap (λ (net : Network). cap net) c.network.ensures)

pub count_together-requires-clause-sections : goal.count_together-requires-clause-sections
count_together-requires-clause-sections g c =
    subst (λ (counts : List (List RuleCount)). length counts ≤ MAX_SECTIONS) (sym c.as_slice-2.ensures)
    (counts-few c.args.project.now (catalogues_of c.args.catalogues.now) (map g.R.SizeRule.allows c.args.rules.now.items) (map g.R.SizeRule.label c.args.rules.now.items) c.in_ok-condensed.counts c.requires.project c.in_ok-condensed.ensures.counts)

pub returns-clause-made : goal.returns-clause-made
returns-clause-made g c =
    let all = c.in_ok-condensed.ensures in
    record {
      network = all.network;
      counts = all.counts;
      most = all.most;
      refusals = counted-all c.args.project.now (catalogues_of c.args.catalogues.now) (map g.R.SizeRule.allows c.args.rules.now.items) (map g.R.SizeRule.label c.args.rules.now.items) (map g.R.SizeRule.label c.condensed_again.new.rules.items)
          c.in_ok-condensed.counts c.as_slice-2.result.now c.in_ok-refusals.refusals all.asked.same.names c.as_slice-2.ensures all.counts c.in_ok-refusals.ensures;
    }

pub returns-clause-touched : goal.returns-clause-touched
returns-clause-touched g c =
    c.in_ok-touched.ensures ∙ ap (touched_in c.args.before.now.tree c.args.edit.now)
    (cap-after c.args.before.now c.args.project.now (catalogues_of c.args.catalogues.now) c.args.catalogues.now.fans c.args.edit.now (map g.R.SizeRule.allows c.args.rules.now.items) c.args.made.condensed.net c.in_ok-fans.fans
    c.greatest_pressure.result c.cap.result c.requires.edited c.requires.made.network (c.in_ok-fans.ensures.value ∙ ap (offered c.args.catalogues.now.fans c.args.project.now.energy) c.fan_flow.ensures)
    (c.greatest_pressure.ensures ∙ ap (λ (fans : List NetFan). greatest_pressure fans) c.as_slice.ensures) (c.cap.ensures ∙ ap (λ (net : Network). cap net) c.network.ensures))
