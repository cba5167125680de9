use Rattle.std.proofs.Common.{map, ◌∙◌}
use Rattle.edit_session.specs.Current.{catalogues_of}
use Rattle.edit_session.proofs.Sessions.{counted-all, is-built}
use Rattle.edit_session.proofs.making.make.Goals as goal

pub returns-clause-made : goal.returns-clause-made
returns-clause-made g c =
    let asked = c.in_ok-net.ensures in
    let built = is-built c.args.project.now (catalogues_of c.args.catalogues.now) c.args.catalogues.now.fans (map g.R.SizeRule.allows c.args.rules.now.items) (map g.R.SizeRule.label c.args.rules.now.items) c.in_ok-net.net c.in_ok-net.counts asked.value in
    record {
      network = c.in_ok-condensed.ensures ∙ built.network;
      counts = built.counted;
      most = asked.most;
      refusals = counted-all c.args.project.now (catalogues_of c.args.catalogues.now) (map g.R.SizeRule.allows c.args.rules.now.items) (map g.R.SizeRule.label c.args.rules.now.items) (map g.R.SizeRule.label c.build_by_section.new.rules.items)
          c.in_ok-net.counts c.as_slice.result.now c.in_ok-refusals.refusals asked.asked.same.names c.as_slice.ensures built.counted c.in_ok-refusals.ensures;
    }
