use Rattle.edit_session.specs.Current.{basis}
use Rattle.duct_cli.proofs.EditingLaws.{IsAtLine}
use Rattle.duct_cli.proofs.editing.add_steps.Given as goal

-- the lines so far are applied, and their texts are added but for the last
abbrev pub invariant-loop-line : goal.invariant-loop-line
invariant-loop-line g l =
    IsAtLine g.R.SizeRule.allows g.R.SizeRule.label g.R.SizeRule.count l.fn.session.rules.items (basis l.fn.session.state) l.names l.fn.again l.lines l.fn.text.items
    l.session.rules.items l.session.state l.line-index l.again l.text.items
