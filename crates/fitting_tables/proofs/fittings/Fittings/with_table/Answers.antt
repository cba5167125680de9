use Rattle.std.proofs.Common.{◌≡◌, ◌∙◌, ◌++◌, ◌∷◌, [], ◌<◌, List, length, sym, ap, subst, arith}
use Rattle.fitting_tables.specs.declared.limits.TheConstants.{MAX_TABLES}
use Rattle.fitting_tables.specs.declared.row.Cell.{Cell}
use Rattle.fitting_tables.specs.Fittings.{Tables, IsFittings, with_table}
use Rattle.fitting_tables.specs.FittingsIndex.{tables_of}
use Rattle.fitting_tables.specs.Reading.{AddsCell}
use Rattle.fitting_tables.proofs.FittingsLaws.{AddsCell-with_table, with_table_is}
use Rattle.fitting_tables.proofs.CellLaws.{IsGrid-first}
use Rattle.fitting_tables.proofs.fittings.Fittings.with_table.Goals as goal

-- the tables are those with the new one
made : (c : goal.In_ok-push) → ◌≡◌ {A = Tables} (record { names = c.add.new.self; grids = c.push.new.self.items }) (with_table c.args.self c.args.row)
made c =
    with_table_is (tables_of c.self.inside) c.args.self c.args.row c.in_ok-add.field-0 c.add.new.self c.push.new.self.items c.in_ok-with_cell.field-0 c.self.view_is c.requires.new
    c.in_ok-add.ensures.value c.in_ok-add.ensures.names (c.in_ok-with_cell.ensures ∙ ap (λ (cs : List Cell). cs ++ c.args.row.cell ∷ []) c.new.ensures) c.in_ok-push.ensures.items

adds : (c : goal.In_ok-push) → AddsCell c.args.self (with_table c.args.self c.args.row)
adds c =
    let is = subst IsFittings c.self.view_is c.self.invariant in
    let few = subst (λ (t : Tables). length t.grids < MAX_TABLES) c.self.view_is (omega (arith, c.len.ensures, c.self.inside.grids.ok.0, c.if-len-ge-MAX_TABLES.false)) in
    AddsCell-with_table c.args.self c.args.row is few (IsGrid-first c.args.row.cell c.requires.bounds)

pub invariant_of-result : goal.invariant_of-result
invariant_of-result c = subst IsFittings (sym (made c)) (adds c).is

pub returns-clause-adds : goal.returns-clause-adds
returns-clause-adds c = subst (AddsCell c.args.self) (sym (made c)) (adds c)
