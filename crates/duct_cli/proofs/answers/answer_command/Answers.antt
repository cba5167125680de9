use Rattle.std.proofs.Common.{ℕ, ◌-◌, List, length, subst, take}
use Rattle.std.specs.Prelude.{IfOk}
use Rattle.duct_cli.specs.Answer.{AnswersCheck}
use Rattle.duct_cli.specs.DesignBytes.{bytes_at}
use Rattle.duct_cli.specs.Designing.{rules_of}
use Rattle.command_words.specs.WordsSeen.{design_seen}
use Rattle.duct_cli.specs.Editing.{AnswersEdit}
use Rattle.duct_cli.proofs.DesignLaws.{check_answers, edit_answers}
use Rattle.duct_cli.proofs.answers.answer_command.Goals as goal

pub returns-in-Check-clause-answer : goal.returns-in-Check-clause-answer
returns-in-Check-clause-answer g c =
    rw c.in-Check.is
    (check_answers (rules_of g.R.SizeRule.allows g.R.SizeRule.label c.args.rules.items) (design_seen c.in-Check.field-0) c.in-Check.field-1.now
    c.args.bytes.now c.index-bytes-last.result c.answer_check.result c.index-bytes-last.is
    (subst (λ (text : List ℕ). IfOk c.answer_check.result (λ a. AnswersCheck (rules_of g.R.SizeRule.allows g.R.SizeRule.label c.args.rules.items)
    (bytes_at (take (length c.args.bytes.now - 1) c.args.bytes.now)) text a.status a.text)) c.as_slice-in-Check.ensures c.answer_check.ensures.answer))

pub returns-in-Edit-clause-answer : goal.returns-in-Edit-clause-answer
returns-in-Edit-clause-answer g c =
    rw c.in-Edit.is
    (edit_answers (rules_of g.R.SizeRule.allows g.R.SizeRule.label c.args.rules.items) (design_seen c.in-Edit.field-0) c.in-Edit.field-1.now
    c.args.bytes.now c.index-bytes-last-in-Edit.result c.answer_edit.result c.index-bytes-last-in-Edit.is
    (subst (λ (script : List ℕ). IfOk c.answer_edit.result (λ a. AnswersEdit (rules_of g.R.SizeRule.allows g.R.SizeRule.label c.args.rules.items)
    (bytes_at (take (length c.args.bytes.now - 1) c.args.bytes.now)) script a.status a.text)) c.as_slice-in-Edit.ensures c.answer_edit.ensures.answer))
