use Rattle.std.proofs.Common.{◌≡◌, ◌+◌, ◌≤◌, List, map, length, Option, ap, sym, ◌∙◌, subst, arith}
use Rattle.std.specs.Prelude.{IfSome}
use Rattle.duct_units.specs.Rules.{Fails, first_broken, unless_refused}
use Rattle.duct_units.specs.declared.fault.ReadError.{ReadError}
use Rattle.duct_definitions.specs.Tree.{section_count}
use Rattle.project_file.specs.declared.section_row.SectionRow.{SectionRow}
use Rattle.net_build.specs.Joining.{joining_rules}
use Rattle.edit_session.specs.declared.limits.TheConstants.{MAX_EDITS}
use Rattle.edit_session.specs.Current.{Basis, basis}
use Rattle.duct_cli.specs.Designing.{rules_of}
use Rattle.duct_cli.specs.Editing.{before_edits, catalogues_of}
use Rattle.duct_cli.specs.TakingOff.{names_of}
use Rattle.duct_cli.proofs.EditingLaws.{rules-same, script-refused, script-told}
use Rattle.duct_cli.proofs.editing.answer_script.Goals as goal

pub returns-in-Ok-clause-answer : goal.returns-in-Ok-clause-answer
returns-in-Ok-clause-answer g c =
    script-told (rules_of g.R.SizeRule.allows g.R.SizeRule.label c.args.rules.items) (rules_of g.R.SizeRule.allows g.R.SizeRule.label c.in-Ok.session.rules.items) (basis c.in-Ok.session.state) (before_edits c.args.read) c.args.lines.now
    c.answer_begun.result (rules-same g.R.SizeRule.allows g.R.SizeRule.label c.args.rules.items c.in-Ok.session.rules.items c.in-Ok.ensures.same) c.in-Ok.ensures.basis c.in-Ok.ensures.refused c.answer_begun.ensures.answer

pub returns-in-Err-Refused-clause-answer : goal.returns-in-Err-Refused-clause-answer
returns-in-Err-Refused-clause-answer g c =
    script-refused (rules_of g.R.SizeRule.allows g.R.SizeRule.label c.args.rules.items) (before_edits c.args.read) c.args.lines.now c.in-Err-Refused.fault c.refused.result
    (subst (λ (error : ReadError). Fails error (unless_refused (first_broken (joining_rules c.args.read.project (catalogues_of c.args.read))) c.args.read.project)) c.in-Err-Refused.field-0-is c.in-Err-Refused.ensures.refused)
    c.refused.ensures

pub answer_begun-requires-clause-names : goal.answer_begun-requires-clause-names
answer_begun-requires-clause-names g c =
    subst (λ (o : Option Basis). IfSome o (λ now. c.as_slice-in-Ok.result.now ≡ names_of now.project)) (sym c.in-Ok.ensures.basis)
    (c.as_slice-in-Ok.ensures ∙ c.in_ok-names.ensures ∙ ap (λ (rows : List SectionRow). map (λ row. row.name) rows) c.as_slice.ensures)

pub answer_begun-requires-clause-count : goal.answer_begun-requires-clause-count
answer_begun-requires-clause-count g c =
    subst (λ (o : Option Basis). IfSome o (λ now. c.len-count.result ≡ section_count now.project.tree)) (sym c.in-Ok.ensures.basis) c.len-count.ensures.value

pub answer_begun-requires-clause-few : goal.answer_begun-requires-clause-few
answer_begun-requires-clause-few g c =
    subst (λ (o : Option Basis). IfSome o (λ now. now.edits + length c.args.lines.now ≤ MAX_EDITS)) (sym c.in-Ok.ensures.basis) (let few = c.requires.few_lines in omega (arith, few))
