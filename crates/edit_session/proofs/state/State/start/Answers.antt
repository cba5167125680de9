use Rattle.std.proofs.Common.{arith}
use Rattle.net_build.specs.declared.limits.TheConstants.{MAX_ASKED}
use Rattle.net_build.proofs.AskedLaws.{asked-count}
use Rattle.edit_session.specs.Current.{catalogues_of}
use Rattle.edit_session.proofs.Sessions.{made-same}
use Rattle.edit_session.proofs.state.State.start.Goals as goal

pub returns-clause-current : goal.returns-clause-current
returns-clause-current g c =
    let asked = c.in_ok-made.ensures.asked in
    record {
      project = c.requires.project;
      friction = c.requires.friction;
      joined = c.in_ok-made.ensures.refused;
      few =
          let long = asked-count g.R.SizeRule.allows g.R.SizeRule.label g.R.SizeRule.count MAX_ASKED c.args.rules.now.items c.make.new.rules.items asked in
          let few = c.requires.few in
          omega (arith, long, few);
      room = λ i.
          let risen = asked.risen i in
          let none = c.requires.fresh i in
          omega (arith, risen, none);
      made = made-same g.R.SizeRule.allows g.R.SizeRule.label c.args.rules.now.items c.make.new.rules.items c.args.project (catalogues_of c.args.catalogues) c.args.catalogues.fans c.in_ok-made.made asked.same c.in_ok-made.ensures.made;
      edits = omega arith;
    }
