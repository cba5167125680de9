use Rattle.std.proofs.Common.{◌∙◌, sym, ap, rules, subst, Ok}
use Rattle.std.specs.Prelude.{All}
use Rattle.duct_units.specs.Rules.{unless_refused}
use Rattle.duct_definitions.specs.Airflow.{flow_rules}
use Rattle.section_tables.specs.Neighbours.{neighbour_and_tree_rules, tree_of}
use Rattle.section_tables.proofs.SequenceLaws.{stops_as, stops_first, stops_gives, read_as}
use Rattle.project_file.specs.declared.project.Project.{Project}
use Rattle.project_file.specs.ProjectFile.{project_with, tree_and_flow_rules}
use Rattle.project_file.specs.Sections.{rows_of, tree_sections}
use Rattle.project_file.specs.Projects.{IsProject, IsRow, airflows_of}
use Rattle.project_file.specs.TableEntries.{top_entry}
use Rattle.project_file.proofs.OrderLaws.{at_flows, all_joined}
use Rattle.project_file.proofs.ValidLaws.{is_project, rows_are}
use Rattle.project_file.proofs.reading.project_with.Goals as goal

pub returns-in_err-tree-clause-value : goal.returns-in_err-tree-clause-value
returns-in_err-tree-clause-value c =
    let entries = c.args.sections.now.entries.items in
    let error = c.in_err-tree.field-0.0 in
    let same = c.as_slice-2.ensures.value ∙ c.in_ok-in_tree.ensures ∙ ap tree_sections c.as_slice.ensures.value in
    let stops = stops_as error neighbour_and_tree_rules tree_of c.as_slice-2.result.now (tree_sections entries) same c.in_err-tree.ensures in
    let fails = stops_gives error (tree_and_flow_rules c.args.top.now.limits entries) (project_with (top_entry c.args.top.now) entries)
    (stops_first error (neighbour_and_tree_rules (tree_sections entries)) (flow_rules (tree_of (tree_sections entries)) (airflows_of (rows_of c.args.top.now.limits entries))) stops) in
    search (rules, fails)

pub read_flows-requires-clause-bounds : goal.read_flows-requires-clause-bounds
read_flows-requires-clause-bounds c =
    subst (λ rows. All IsRow rows) (sym (c.as_slice-4.ensures ∙ c.in_ok-rows.ensures ∙ ap (rows_of c.args.top.now.limits) c.as_slice-3.ensures.value)) (rows_are c.args.top.now.limits c.args.sections.now.entries.items c.requires.top.limits c.requires.bounds)

pub returns-in_err-flows-clause-value : goal.returns-in_err-flows-clause-value
returns-in_err-flows-clause-value c =
    let entries = c.args.sections.now.entries.items in
    let error = c.in_err-flows.field-0.0 in
    let same = c.as_slice-2.ensures.value ∙ c.in_ok-in_tree.ensures ∙ ap tree_sections c.as_slice.ensures.value in
    let read = read_as neighbour_and_tree_rules tree_of c.as_slice-2.result.now (tree_sections entries) c.in_ok-tree.tree same c.in_ok-tree.ensures in
    let seen = c.as_slice-4.ensures ∙ c.in_ok-rows.ensures ∙ ap (rows_of c.args.top.now.limits) c.as_slice-3.ensures.value in
    let fails = stops_gives error (tree_and_flow_rules c.args.top.now.limits entries) (project_with (top_entry c.args.top.now) entries)
    (at_flows error c.args.top.now.limits entries c.in_ok-tree.tree c.as_slice-4.result.now read.0 read.1 seen c.in_err-flows.ensures) in
    search (rules, fails)

pub returns-clause-value : goal.returns-clause-value
returns-clause-value c =
    let entries = c.args.sections.now.entries.items in
    let same = c.as_slice-2.ensures.value ∙ c.in_ok-in_tree.ensures ∙ ap tree_sections c.as_slice.ensures.value in
    let read = read_as neighbour_and_tree_rules tree_of c.as_slice-2.result.now (tree_sections entries) c.in_ok-tree.tree same c.in_ok-tree.ensures in
    let rows = c.in_ok-rows.ensures ∙ ap (rows_of c.args.top.now.limits) c.as_slice-3.ensures.value in
    let all = all_joined (top_entry c.args.top.now) entries c.in_ok-tree.tree c.in_ok-flows.flows c.as_slice-4.result.now c.in_ok-rows.rows read.0 read.1 (c.as_slice-4.ensures ∙ rows) rows c.in_ok-flows.ensures in
    ap (λ o. unless_refused o (project_with (top_entry c.args.top.now) entries)) all.0 ∙ ap (λ (p : Project). Ok p) all.1

pub returns-clause-valid : goal.returns-clause-valid
returns-clause-valid c =
    let entries = c.args.sections.now.entries.items in
    let same = c.as_slice-2.ensures.value ∙ c.in_ok-in_tree.ensures ∙ ap tree_sections c.as_slice.ensures.value in
    let read = read_as neighbour_and_tree_rules tree_of c.as_slice-2.result.now (tree_sections entries) c.in_ok-tree.tree same c.in_ok-tree.ensures in
    let rows = c.in_ok-rows.ensures ∙ ap (rows_of c.args.top.now.limits) c.as_slice-3.ensures.value in
    let all = all_joined (top_entry c.args.top.now) entries c.in_ok-tree.tree c.in_ok-flows.flows c.as_slice-4.result.now c.in_ok-rows.rows read.0 read.1 (c.as_slice-4.ensures ∙ rows) rows c.in_ok-flows.ensures in
    subst (λ (p : Project). IsProject p) all.1 (is_project (top_entry c.args.top.now) entries c.requires.top c.requires.bounds c.requires.apart all.0)
