use Rattle.std.proofs.Common.{◌≡◌, Some, ap, sym, ◌∙◌, arith}
use Rattle.std.specs.Prelude.{slice_get}
use Rattle.std.proofs.lemmas.Option.{slice_get-get_or}
use Rattle.edit_session.specs.Current.{basis}
use Rattle.duct_cli.proofs.EditingLaws.{at-end, at-next, at-refused, at-start}
use Rattle.duct_cli.proofs.editing.add_steps.Goals as goal

pub loop-line-init : goal.loop-line-init
loop-line-init g c =
    at-start g.R.SizeRule.allows g.R.SizeRule.label g.R.SizeRule.count c.args.session.now.rules.items c.args.session.now.state c.args.names.now c.args.again c.args.lines.now c.args.text.now.items
    c.requires.current c.requires.names c.requires.few

pub loop-line-preserved : goal.loop-line-preserved
loop-line-preserved g c =
    let there : slice_get c.args.lines.now c.loop-line.line-index ≡ Some c.line-item.result =
    slice_get-get_or c.args.lines.now c.loop-line.line-index c.line-item.result c.loop-line-test.true ∙ ap (λ x. Some x) (sym c.line-item.is) in
    at-next g.R.SizeRule.allows g.R.SizeRule.label g.R.SizeRule.count c.args.session.now.rules.items (basis c.args.session.now.state) c.args.names.now c.args.again c.args.lines.now c.args.text.now.items
    c.loop-line.session.rules.items c.apply_line.new.session.rules.items c.loop-line.session.state c.apply_line.new.session.state c.loop-line.line-index c.loop-line.again c.in_ok-again.again c.loop-line.text.items c.add_step.new.text.items c.line-item.result
    there c.loop-line.invariant c.in_ok-add_step.ensures c.in_ok-again.ensures.value c.in_ok-again.ensures.current c.in_ok-again.ensures.same

pub returns-in_err-again : goal.returns-in_err-again
returns-in_err-again g c =
    let there : slice_get c.args.lines.now c.loop-line.line-index ≡ Some c.line-item.result =
    slice_get-get_or c.args.lines.now c.loop-line.line-index c.line-item.result c.loop-line-test.true ∙ ap (λ x. Some x) (sym c.line-item.is) in
    at-refused g.R.SizeRule.allows g.R.SizeRule.label g.R.SizeRule.count c.args.session.now.rules.items (basis c.args.session.now.state) c.args.names.now c.args.again c.args.lines.now c.args.text.now.items
    c.loop-line.session.rules.items c.loop-line.session.state c.apply_line.new.session.state c.loop-line.line-index c.loop-line.again c.loop-line.text.items _ c.line-item.result c.in_err-again.field-0.0 c.from_residual-in_err-again.result
    there c.loop-line.invariant c.in_err-again.ensures.value c.from_residual-in_err-again.ensures.1

pub returns : goal.returns
returns g c =
    at-end g.R.SizeRule.allows g.R.SizeRule.label g.R.SizeRule.count c.args.session.now.rules.items (basis c.args.session.now.state) c.args.names.now c.args.again c.args.lines.now c.args.text.now.items
    c.loop-line.session.rules.items c.loop-line.session.state c.loop-line.line-index c.loop-line.again c.loop-line.text.items c.add_step-2.new.text.items tt (omega (arith, c.loop-line-test.false)) c.loop-line.invariant c.in_ok-add_step-2.ensures
