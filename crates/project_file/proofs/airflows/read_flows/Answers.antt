use Rattle.std.proofs.Common.{◌≤◌, sym, subst}
use Rattle.std.specs.Prelude.{All, IfSome}
use Rattle.std.proofs.lemmas.List.Elements.{All-map}
use Rattle.duct_definitions.specs.declared.airflow.TheConstants.{MAX_FLOW, MAX_LEAK}
use Rattle.project_file.specs.declared.section_row.SectionRow.{SectionRow}
use Rattle.project_file.proofs.ValidLaws.{few_at_leaf}
use Rattle.project_file.proofs.airflows.read_flows.Goals as goal

pub new-requires-clause-flows : goal.new-requires-clause-flows
new-requires-clause-flows c =
    subst (λ flows. All (λ given. IfSome given (λ q. q ≤ MAX_FLOW)) flows) (sym c.in_ok-at_leaves.ensures)
    (All-map (λ given. IfSome given (λ q. q ≤ MAX_FLOW)) (λ (row : SectionRow). row.airflow) c.args.rows.now (λ k d within. few_at_leaf _ (c.requires.bounds k d within).airflow))

pub new-requires-clause-leaks : goal.new-requires-clause-leaks
new-requires-clause-leaks c =
    subst (λ leaks. All (λ leak. leak ≤ MAX_LEAK) leaks) (sym c.in_ok-leaks.ensures)
    (All-map (λ leak. leak ≤ MAX_LEAK) (λ (row : SectionRow). row.leak) c.args.rows.now (λ k d within. (c.requires.bounds k d within).leak))
