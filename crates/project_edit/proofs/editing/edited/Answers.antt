use Rattle.std.proofs.Common.{◌≡◌, All, true, ap, ◌∙◌, sym, subst}
use Rattle.duct_definitions.specs.Tree.{is_leaf}
use Rattle.net_build.specs.Rows.{row_at}
use Rattle.project_file.specs.declared.section_row.SectionRow.{SectionRow}
use Rattle.project_file.specs.Projects.{IsProject, IsRow}
use Rattle.project_edit.specs.Refusals.{Refuses, edit_refusal, suits_leaf, suits_list}
use Rattle.project_edit.proofs.EditedProjects.{IsMade, edited-is, is-made, is-refused, made-project, row-read, rows-are}
use Rattle.project_edit.proofs.editing.edited.Goals as goal
use Rattle.project_edit.proofs.editing.edited.Goals.{In_ok-copy}

pub read_flows-requires-clause-bounds : goal.read_flows-requires-clause-bounds
read_flows-requires-clause-bounds c =
    subst (All IsRow) (sym (c.as_slice-2.ensures ∙ c.in_ok-sections.ensures)) (rows-are c.args.project.now c.args.edit.now c.requires.project c.requires.section c.requires.change)

pub returns-in-Err-clause-value : goal.returns-in-Err-clause-value
returns-in-Err-clause-value c =
    let p = c.args.project.now in
    let e = c.args.edit.now in
    let leaf : suits_leaf (is_leaf p.tree e.section) e.change ≡ true = sym c.suits_leaf.ensures ∙ c.if-not-suits_leaf.false in
    let row : row_at p e.section ≡ c.index-as_slice-edit.result =
    row-read p e.section c.index-as_slice-edit.result c.as_slice.result.now c.requires.project c.requires.section c.as_slice.ensures c.index-as_slice-edit.is in
    let listed : suits_list c.args.sizes.now (row_at p e.section).list e.change ≡ true =
    ap (λ (r : SectionRow). suits_list c.args.sizes.now r.list e.change) row ∙ sym c.in_ok-suits_list.ensures ∙ c.if-not-branch.false in
    subst (λ error. Refuses error (edit_refusal p c.args.sizes.now e)) (sym c.from.ensures)
    (is-refused p c.args.sizes.now e c.as_slice-2.result.now c.in-Err.error c.requires.project c.requires.section (c.as_slice-2.ensures ∙ c.in_ok-sections.ensures) leaf listed c.in-Err.ensures)

made : (c : In_ok-copy) → IsMade c.args.project.now c.args.sizes.now c.args.edit.now c.as_slice-2.result.now c.in-Ok.flows
made c =
    let p = c.args.project.now in
    let e = c.args.edit.now in
    let leaf : suits_leaf (is_leaf p.tree e.section) e.change ≡ true = sym c.suits_leaf.ensures ∙ c.if-not-suits_leaf.false in
    let row : row_at p e.section ≡ c.index-as_slice-edit.result =
    row-read p e.section c.index-as_slice-edit.result c.as_slice.result.now c.requires.project c.requires.section c.as_slice.ensures c.index-as_slice-edit.is in
    let listed : suits_list c.args.sizes.now (row_at p e.section).list e.change ≡ true =
    ap (λ (r : SectionRow). suits_list c.args.sizes.now r.list e.change) row ∙ sym c.in_ok-suits_list.ensures ∙ c.if-not-branch.false in
    is-made p c.args.sizes.now e c.as_slice-2.result.now c.in-Ok.flows c.requires.project c.requires.section (c.as_slice-2.ensures ∙ c.in_ok-sections.ensures) leaf listed c.in-Ok.ensures

pub returns-clause-value : goal.returns-clause-value
returns-clause-value c = (
  (made c).unrefused,
  made-project c.args.project.now c.args.edit.now c.in_ok-copy.field-0 c.in-Ok.flows c.in_ok-sections.sections c.in_ok-copy.ensures (made c).carried c.in_ok-sections.ensures,
)

pub returns-clause-project : goal.returns-clause-project
returns-clause-project c =
    subst IsProject
    (sym (made-project c.args.project.now c.args.edit.now c.in_ok-copy.field-0 c.in-Ok.flows c.in_ok-sections.sections c.in_ok-copy.ensures (made c).carried c.in_ok-sections.ensures))
    (edited-is c.args.project.now c.args.edit.now c.requires.project c.requires.section c.requires.change (made c).rules)
