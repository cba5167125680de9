-- How far a ducts file was read.
use Rattle.std.proofs.Common.{◌≡◌, ℕ, ◌+◌, ◌*◌, ◌<◌, ◌≤◌, List, [], length, sum_by, replicate, Ok, Option, refl, sym, ap, ◌∙◌, subst, arith}
use Rattle.std.proofs.lemmas.List.{length-replicate}
use Rattle.std.proofs.lemmas.List.Elements.{All-replicate}
use Rattle.duct_units.specs.declared.fault.Fault.{Fault}
use Rattle.duct_units.specs.Rules.{first_broken, unless_refused}
use Rattle.file_definitions.specs.Rows.{rows_of, TakesRow}
use Rattle.csv_fields.specs.RowsLeft.{RowsLeft, IsNextRow, opened}
use Rattle.csv_fields.proofs.ReadingLaws.{IsReadTo, opened-read, read_row, read_all}
use Rattle.size_catalogue.specs.Catalogue.{Catalogue}
use Rattle.size_catalogue.specs.declared.limits.TheConstants.{MAX_LISTS, MAX_LIST_SIZES}
use Rattle.friction_table.specs.declared.row.FlowRate.{FlowRate}
use Rattle.friction_table.specs.declared.limits.TheConstants.{MAX_ROWS}
use Rattle.friction_table.specs.Reading.{row_of_each}
use Rattle.friction_table.proofs.TableLaws.{few_rows, no_rows}
use Rattle.friction_maker.specs.declared.air.Air.{Air}
use Rattle.friction_maker.specs.Making.{header, ducts_form, tables_of, AreMade}
use Rattle.friction_maker.proofs.TableLaws.{none_made}

-- the rows up to the one at hand made the tables
pub record MadeTables (sizes : Catalogue) (air : Air) (bytes : List ℕ) (rows : RowsLeft) (tables : List (List FlowRate)) : Type 0 where
  pub read : IsReadTo (ducts_form sizes air) (rows_of bytes) rows tables
  pub count : rows.number ≤ sum_by length tables + 1
  pub made : AreMade sizes air tables
  pub most : length sizes.sizes ≤ MAX_LISTS * MAX_LIST_SIZES

pub starts : (sizes : Catalogue) (air : Air) (bytes : List ℕ) (rows : RowsLeft) (tables : List (List FlowRate)) (n : ℕ) → opened header (rows_of bytes) ≡ Ok rows
    → tables ≡ replicate n [] → n ≡ length sizes.sizes → n ≤ MAX_LISTS * MAX_LIST_SIZES → MadeTables sizes air bytes rows tables
starts sizes air bytes rows tables n opens none all most =
    let is : replicate (length sizes.sizes) [] ≡ tables = ap (λ k. replicate k []) (sym all) ∙ sym none in
    let (read, first) = opened-read (ducts_form sizes air) (rows_of bytes) rows opens in
    subst (MadeTables sizes air bytes rows) is (record {
      read = read;
      count = omega (arith, first, no_rows (length sizes.sizes));
      made = none_made sizes air (replicate (length sizes.sizes) []) (length-replicate (length sizes.sizes) [])
          (All-replicate (λ rs. rs ≡ []) (length sizes.sizes) [] refl);
      most = omega arith;
    })

pub goes_on : (sizes : Catalogue) (air : Air) (bytes : List ℕ) (old new : RowsLeft) (tables more : List (List FlowRate)) → MadeTables sizes air bytes old tables → IsNextRow old new
    → TakesRow (ducts_form sizes air) new.number tables new.row (Ok more) → AreMade sizes air more → sum_by length tables < sum_by length more → MadeTables sizes air bytes new more
goes_on sizes air bytes old new tables more made next takes are grows = record {
  read = read_row (ducts_form sizes air) (rows_of bytes) old new tables more made.read next takes;
  count = omega (arith, next.counted, made.count, grows);
  made = are;
  most = made.most;
}

-- rows are few enough to be counted
pub number_most : (sizes : Catalogue) (air : Air) (bytes : List ℕ) (rows : RowsLeft) (tables : List (List FlowRate)) → MadeTables sizes air bytes rows tables → rows.number ≤ MAX_ROWS * (MAX_LISTS * MAX_LIST_SIZES) + 1
number_most sizes air bytes rows tables made =
    omega (arith, made.count, few_rows tables (MAX_LISTS * MAX_LIST_SIZES) (λ k other inside. (made.made.each k other inside).table.few) (omega (arith, made.made.all, made.most)))

-- behind the last row the tables are the file's, unless one is empty
pub ends : (sizes : Catalogue) (air : Air) (bytes : List ℕ) (rows : RowsLeft) (tables : List (List FlowRate)) (broken : Option Fault) → MadeTables sizes air bytes rows tables → rows.left ≡ []
    → first_broken (row_of_each 1 tables) ≡ broken → tables_of sizes air bytes ≡ unless_refused broken tables
ends sizes air bytes rows tables broken made end is =
    read_all (ducts_form sizes air) (rows_of bytes) rows tables made.read end ∙ ap (λ (o : Option Fault). unless_refused o tables) is
