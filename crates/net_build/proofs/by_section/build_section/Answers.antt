use Rattle.std.proofs.Common.{map, subst, rules}
use Rattle.duct_units.specs.Rules.{Fails, first_broken, unless_refused}
use Rattle.net_build.specs.Built.{section_built}
use Rattle.net_build.specs.Catalogues.{Catalogues}
use Rattle.net_build.specs.Joining.{rules_of_section}
use Rattle.net_build.specs.Sections.{section_sizes}
use Rattle.net_build.proofs.JoinLaws.{refused-alike}
use Rattle.net_build.proofs.by_section.build_section.Goals as goal

pub returns-in_err-section-clause-value : goal.returns-in_err-section-clause-value
returns-in_err-section-clause-value g c =
    let all : Catalogues = record { sizes = c.args.sizes.now; friction = c.args.friction.now; fittings = c.args.fittings.now } in
    let value = section_built c.args.project.now all (map g.R.SizeRule.allows c.args.rules.now.items) (map g.R.SizeRule.label c.args.rules.now.items) c.args.s in
    let fails : Fails c.in_err-section.field-0.0 (unless_refused (first_broken (rules_of_section c.args.project.now all c.args.s)) value) =
    subst (λ (x : Catalogues). Fails c.in_err-section.field-0.0 (unless_refused (first_broken (rules_of_section c.args.project.now x c.args.s)) value)) c.new-catalogues.ensures
    (refused-alike (first_broken (rules_of_section c.args.project.now c.new-catalogues.result c.args.s)) c.in_err-section.field-0.0 (section_sizes c.args.project.now c.new-catalogues.result c.args.s) value c.in_err-section.ensures.value) in
    search rules
