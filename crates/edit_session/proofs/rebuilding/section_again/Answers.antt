use Rattle.std.proofs.Common.{map}
use Rattle.duct_units.specs.Rules.{first_broken}
use Rattle.net_build.specs.Built.{section_built}
use Rattle.net_build.specs.Joining.{rules_of_section}
use Rattle.edit_session.specs.Current.{catalogues_of}
use Rattle.edit_session.proofs.Remade.{never-refused, section-joins}
use Rattle.edit_session.proofs.rebuilding.section_again.Goals as goal

pub unreachable-requires : goal.unreachable-requires
unreachable-requires g c =
    let all = catalogues_of c.args.catalogues.now in
    never-refused (first_broken (rules_of_section c.args.project.now all c.args.s)) (section_built c.args.project.now all (map g.R.SizeRule.allows c.args.rules.now.items) (map g.R.SizeRule.label c.args.rules.now.items) c.args.s)
    c.in-Err-Refused.field-0 c.in-Err-Refused.field-0-0 (section-joins c.args.project.now all c.args.s c.requires.joined c.requires.section) c.in-Err-Refused.field-0-is c.in-Err-Refused.ensures.value
