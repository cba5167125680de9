use Rattle.std.proofs.Common.{◌++◌, ap, ◌∙◌}
use Rattle.duct_cli.specs.Designing.{rules_of}
use Rattle.edit_session.specs.Current.{basis}
use Rattle.duct_cli.proofs.EditingLaws.{on-ok, step-added}
use Rattle.duct_cli.proofs.editing.add_step.Goals as goal

pub returns : goal.returns
returns g c =
    on-ok c.add_number-2.result _ _ c.add_number-2.ensures (λ last.
    step-added (rules_of g.R.SizeRule.allows g.R.SizeRule.label c.args.session.now.rules.items) (basis c.args.session.now.state) c.args.again c.edits.result c.from.result c.network-net.result.now c.refusals.result.now c.as_slice-refusals.result.now
    c.in_ok-answer.answer.status c.in_ok-answer.answer.text c.args.text.now.items c.add_number.new.text.items c.extend_from_slice.new.self.items c.add_number-2.new.text.items
    c.network-net.ensures c.refusals.ensures c.as_slice-refusals.ensures c.edits.ensures c.from.ensures c.in_ok-answer.ensures.answer c.in_ok-add_number.ensures (c.in_ok-extend_from_slice.ensures.items ∙ ap (λ t. c.add_number.new.text.items ++ t) c.as_slice.ensures) last)
