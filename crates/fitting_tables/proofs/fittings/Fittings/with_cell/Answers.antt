use Rattle.std.proofs.Common.{◌≡◌, ◌∙◌, ◌++◌, ◌∷◌, [], List, Some, None, option_map, sym, ap, subst, arith}
use Rattle.std.specs.Prelude.{slice_set}
use Rattle.duct_units.specs.Rules.{row_fault}
use Rattle.fitting_tables.specs.declared.row.Cell.{Cell}
use Rattle.fitting_tables.specs.Cells.{refusal_of}
use Rattle.fitting_tables.specs.Fittings.{Tables, IsFittings, cells_of, with_cell, with_fitting}
use Rattle.fitting_tables.specs.FittingsIndex.{tables_of}
use Rattle.fitting_tables.specs.Reading.{AddsCell}
use Rattle.fitting_tables.proofs.FittingsLaws.{held_inside, held_at, rules_are, with_cell_is, AddsCell-with_cell, table_inside}
use Rattle.fitting_tables.proofs.fittings.Fittings.with_cell.Goals as goal

pub index-requires : goal.index-requires
index-requires c = omega (arith, held_inside (tables_of c.self.inside) c.args.self c.args.row c.args.table c.self.view_is c.self.invariant c.requires.table, c.self.inside.grids.ok.0)

pub index_mut-requires : goal.index_mut-requires
index_mut-requires c = omega (arith, held_inside (tables_of c.self.inside) c.args.self c.args.row c.args.table c.self.view_is c.self.invariant c.requires.table, c.self.inside.grids.ok.0)

pub index_mut-requires-2 : goal.index_mut-requires-2
index_mut-requires-2 c = omega (arith, held_inside (tables_of c.self.inside) c.args.self c.args.row c.args.table c.self.view_is c.self.invariant c.requires.table, c.self.inside.grids.ok.0)

pub returns-in-Some-clause-takes : goal.returns-in-Some-clause-takes
returns-in-Some-clause-takes c =
    let same = held_at (tables_of c.self.inside) c.args.self c.args.row c.args.table c.index.result.now c.self.view_is c.self.invariant c.requires.table c.index.ensures in
    rules_are c.args.rows.now.number c.args.self c.args.row c.args.table c.index.result.now c.requires.table same
    ∙ ap (option_map (row_fault c.args.rows.now.number)) (sym c.refusal.ensures ∙ c.in-Some.is)
    ∙ sym (ap (λ fault. Some fault) c.fault.ensures)

pub with_cell-requires-clause-allowed : goal.with_cell-requires-clause-allowed
with_cell-requires-clause-allowed c =
    let same = held_at (tables_of c.self.inside) c.args.self c.args.row c.args.table c.index.result.now c.self.view_is c.self.invariant c.requires.table c.index.ensures in
    let grid = c.replace-grid.ensures.value ∙ held_at (tables_of c.self.inside) c.args.self c.args.row c.args.table c.index_mut.result.now c.self.view_is c.self.invariant c.requires.table c.index_mut.ensures.value in
    let none : refusal_of c.args.row.cell (cells_of c.args.self c.args.table) ≡ None =
    ap (refusal_of c.args.row.cell) (sym same) ∙ sym c.refusal.ensures ∙ c.in_default.is in
    ap (refusal_of c.args.row.cell) grid ∙ none

-- the tables are those with the cell
made : (c : goal.After-drop-index_mut-4)
    → ◌≡◌ {A = Tables} (record { names = c.self.inside.names; grids = slice_set (slice_set c.self.inside.grids.items c.args.table c.replace-grid.new.dest) c.args.table c.in_ok-grids.field-0 })
    (with_cell c.args.self c.args.table c.args.row.cell)
made c =
    let grid = c.replace-grid.ensures.value ∙ held_at (tables_of c.self.inside) c.args.self c.args.row c.args.table c.index_mut.result.now c.self.view_is c.self.invariant c.requires.table c.index_mut.ensures.value in
    with_cell_is (tables_of c.self.inside) c.args.self c.args.table c.args.row.cell c.replace-grid.new.dest c.in_ok-grids.field-0 c.self.view_is
    (c.in_ok-grids.ensures ∙ ap (λ (cs : List Cell). cs ++ c.args.row.cell ∷ []) grid)

adds : (c : goal.After-drop-index_mut-4) → AddsCell c.args.self (with_cell c.args.self c.args.table c.args.row.cell)
adds c =
    let same = held_at (tables_of c.self.inside) c.args.self c.args.row c.args.table c.index.result.now c.self.view_is c.self.invariant c.requires.table c.index.ensures in
    let none : refusal_of c.args.row.cell (cells_of c.args.self c.args.table) ≡ None =
    ap (refusal_of c.args.row.cell) (sym same) ∙ sym c.refusal.ensures ∙ c.in_default.is in
    let is = subst IsFittings c.self.view_is c.self.invariant in
    AddsCell-with_cell c.args.self c.args.table c.args.row.cell is (table_inside c.args.self c.args.row c.args.table is c.requires.table) c.requires.bounds none

pub invariant_of-result : goal.invariant_of-result
invariant_of-result c = subst IsFittings (sym (made c)) (adds c).is

pub returns-clause-takes : goal.returns-clause-takes
returns-clause-takes c =
    let same = held_at (tables_of c.self.inside) c.args.self c.args.row c.args.table c.index.result.now c.self.view_is c.self.invariant c.requires.table c.index.ensures in (
      rules_are c.args.rows.now.number c.args.self c.args.row c.args.table c.index.result.now c.requires.table same
          ∙ ap (option_map (row_fault c.args.rows.now.number)) (sym c.refusal.ensures ∙ c.in_default.is),
      made c ∙ sym (ap (with_fitting c.args.self c.args.row) c.requires.table),
    )

pub returns-clause-adds : goal.returns-clause-adds
returns-clause-adds c = subst (AddsCell c.args.self) (sym (made c)) (adds c)
