use Rattle.std.proofs.Common.{arith}
use Rattle.net_build.specs.declared.limits.TheConstants.{MAX_ASKED}
use Rattle.net_build.proofs.AskedLaws.{asked-count}
use Rattle.edit_session.specs.Current.{IsEdited, catalogues_of}
use Rattle.edit_session.proofs.Sessions.{joined-after, made-same}
use Rattle.edit_session.proofs.state.State.after.Goals as goal

pub returns-clause-current : goal.returns-clause-current
returns-clause-current g c =
    let was = c.requires.current in
    let asked = c.in_ok-made.ensures.asked in
    let at : IsEdited c.args.self.project c.args.project (catalogues_of c.args.self.catalogues) c.args.edit.now =
    record { before = was.project; named = c.requires.section; is = c.requires.edited; unrefused = c.requires.accepted; joined = was.joined } in
    record {
      project = c.requires.project;
      friction = was.friction;
      joined = joined-after c.args.self.project c.args.project (catalogues_of c.args.self.catalogues) c.args.edit.now at;
      few =
          let long = asked-count g.R.SizeRule.allows g.R.SizeRule.label g.R.SizeRule.count MAX_ASKED c.args.rules.now.items c.make_again.new.rules.items asked in
          let few = was.few in
          omega (arith, long, few);
      room = λ i.
          let risen = asked.risen i in
          let room = was.room i in
          omega (arith, risen, room);
      made = made-same g.R.SizeRule.allows g.R.SizeRule.label c.args.rules.now.items c.make_again.new.rules.items c.args.project (catalogues_of c.args.self.catalogues) c.args.self.catalogues.fans c.in_ok-made.made asked.same c.in_ok-made.ensures.made;
      edits = let few = c.requires.edits in omega (arith, few);
    }
