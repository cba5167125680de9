-- How far a friction file was read.
use Rattle.std.proofs.Common.{◌≡◌, ℕ, ◌+◌, ◌*◌, ◌≤◌, List, [], length, All, sum_by, replicate, Ok, sym, ap, ◌∙◌, subst, arith}
use Rattle.std.proofs.Common.{Option}
use Rattle.duct_units.specs.declared.fault.Fault.{Fault}
use Rattle.duct_units.specs.Rules.{first_broken, unless_refused}
use Rattle.file_definitions.specs.Rows.{rows_of, TakesRow}
use Rattle.csv_fields.specs.RowsLeft.{RowsLeft, IsNextRow, opened}
use Rattle.csv_fields.proofs.ReadingLaws.{IsReadTo, opened-read, read_row, read_all}
use Rattle.size_catalogue.specs.Catalogue.{Catalogue}
use Rattle.size_catalogue.specs.declared.limits.TheConstants.{MAX_LISTS, MAX_LIST_SIZES}
use Rattle.std.proofs.lemmas.List.{length-replicate}
use Rattle.std.proofs.lemmas.List.Elements.{All-replicate}
use Rattle.friction_table.specs.declared.row.FlowRate.{FlowRate}
use Rattle.friction_table.specs.declared.limits.TheConstants.{MAX_ROWS}
use Rattle.friction_table.specs.Reading.{header, friction_form, friction_of, row_of_each, AddsRow}
use Rattle.friction_table.proofs.TableLaws.{few_rows, no_rows}

-- the rows up to the one at hand made the tables
pub record MadeFriction (sizes : Catalogue) (bytes : List ℕ) (rows : RowsLeft) (made : List (List FlowRate)) : Type 0 where
  pub read : IsReadTo (friction_form sizes) (rows_of bytes) rows made
  pub count : rows.number ≡ sum_by length made + 1
  pub few : All (λ rs. length rs ≤ MAX_ROWS) made
  pub tables : length made ≡ length sizes.sizes
  pub most : length sizes.sizes ≤ MAX_LISTS * MAX_LIST_SIZES

pub starts : (sizes : Catalogue) (bytes : List ℕ) (rows : RowsLeft) (tables : List (List FlowRate)) (n : ℕ) → opened header (rows_of bytes) ≡ Ok rows
    → tables ≡ replicate n [] → n ≡ length sizes.sizes → n ≤ MAX_LISTS * MAX_LIST_SIZES → MadeFriction sizes bytes rows tables
starts sizes bytes rows tables n opens none all most =
    let is : replicate (length sizes.sizes) [] ≡ tables = ap (λ k. replicate k []) (sym all) ∙ sym none in
    let (read, first) = opened-read (friction_form sizes) (rows_of bytes) rows opens in
    subst (MadeFriction sizes bytes rows) is (record {
      read = read;
      count = omega (arith, first, no_rows (length sizes.sizes));
      few = All-replicate (λ rs. length rs ≤ MAX_ROWS) (length sizes.sizes) [] (omega arith);
      tables = length-replicate (length sizes.sizes) [];
      most = omega arith;
    })

pub goes_on : (sizes : Catalogue) (bytes : List ℕ) (old new : RowsLeft) (tables more : List (List FlowRate)) → MadeFriction sizes bytes old tables → IsNextRow old new
    → TakesRow (friction_form sizes) new.number tables new.row (Ok more) → AddsRow tables more → MadeFriction sizes bytes new more
goes_on sizes bytes old new tables more made next takes adds = record {
  read = read_row (friction_form sizes) (rows_of bytes) old new tables more made.read next takes;
  count = omega (arith, next.counted, made.count, adds.rows);
  few = adds.few;
  tables = adds.tables ∙ made.tables;
  most = made.most;
}

-- rows are few enough to be counted
pub number_most : (sizes : Catalogue) (bytes : List ℕ) (rows : RowsLeft) (tables : List (List FlowRate)) → MadeFriction sizes bytes rows tables → rows.number ≤ MAX_ROWS * (MAX_LISTS * MAX_LIST_SIZES) + 1
number_most sizes bytes rows tables made = omega (arith, made.count, few_rows tables (MAX_LISTS * MAX_LIST_SIZES) made.few (omega (arith, made.tables, made.most)))

-- behind the last row the tables are the file's, unless one is empty
pub ends : (sizes : Catalogue) (bytes : List ℕ) (rows : RowsLeft) (tables : List (List FlowRate)) (broken : Option Fault) → MadeFriction sizes bytes rows tables → rows.left ≡ []
    → first_broken (row_of_each 1 tables) ≡ broken → friction_of sizes bytes ≡ unless_refused broken tables
ends sizes bytes rows tables broken made end is =
    read_all (friction_form sizes) (rows_of bytes) rows tables made.read end ∙ ap (λ (o : Option Fault). unless_refused o tables) is
