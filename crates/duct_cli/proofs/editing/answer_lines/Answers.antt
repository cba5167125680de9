use Rattle.std.proofs.Common.{Err, subst}
use Rattle.std.specs.Prelude.{IfSome}
use Rattle.duct_units.specs.declared.fault.ReadError.{ReadError}
use Rattle.edit_session.specs.Current.{basis}
use Rattle.duct_cli.specs.Designing.{rules_of}
use Rattle.duct_cli.specs.Editing.{AddsSteps}
use Rattle.duct_cli.proofs.EditingLaws.{lines-refused, lines-told}
use Rattle.duct_cli.proofs.editing.answer_lines.Goals as goal

pub returns-in-Ok-clause-answer : goal.returns-in-Ok-clause-answer
returns-in-Ok-clause-answer g c =
    lines-told (rules_of g.R.SizeRule.allows g.R.SizeRule.label c.args.session.now.rules.items) (basis c.args.session.now.state) c.args.count c.args.lines.now c.new-text.result.items c.add_steps.new.text.items c.from_vec.result
    c.in-Ok.field-0 c.requires.count c.new-text.ensures.items c.from_vec.ensures c.in-Ok.ensures

pub returns-in-Err-Refused-clause-answer : goal.returns-in-Err-Refused-clause-answer
returns-in-Err-Refused-clause-answer g c =
    lines-refused (rules_of g.R.SizeRule.allows g.R.SizeRule.label c.args.session.now.rules.items) (basis c.args.session.now.state) c.args.count c.args.lines.now c.new-text.result.items c.add_steps.new.text.items
    c.in-Err-Refused.fault c.refused.result
    (subst (λ (error : ReadError). IfSome (basis c.args.session.now.state) (λ now. AddsSteps {Y = Unit {0}} (rules_of g.R.SizeRule.allows g.R.SizeRule.label c.args.session.now.rules.items) now c.args.count c.args.lines.now
    c.new-text.result.items c.add_steps.new.text.items (Err error))) c.in-Err-Refused.field-0-is c.in-Err-Refused.ensures)
    c.refused.ensures
