-- How far a fittings file was read.
use Rattle.std.proofs.Common.{◌≡◌, ℕ, ◌+◌, ◌≤◌, List, [], length, sum_by, Option, Ok, refl, ap, ◌∙◌, subst, arith}
use Rattle.std.proofs.lemmas.List.Elements.{All-nil}
use Rattle.duct_units.specs.declared.fault.Fault.{Fault}
use Rattle.duct_units.specs.Rules.{first_broken, unless_refused}
use Rattle.file_definitions.specs.Rows.{rows_of, TakesRow}
use Rattle.csv_fields.specs.RowsLeft.{RowsLeft, IsNextRow, opened}
use Rattle.csv_fields.proofs.ReadingLaws.{IsReadTo, opened-read, read_row, read_all}
use Rattle.fitting_tables.specs.Fittings.{Tables, IsFittings, IsStarted}
use Rattle.fitting_tables.specs.Reading.{header, fittings_form, fittings_of, each_full, AddsCell}
use Rattle.fitting_tables.proofs.FittingsLaws.{few_rows}

-- the rows up to the one at hand made the tables
pub record MadeFittings (bytes : List ℕ) (rows : RowsLeft) (tables : Tables) : Type 0 where
  pub read : IsReadTo fittings_form (rows_of bytes) rows tables
  pub count : rows.number ≡ sum_by length tables.grids + 1
  pub is : IsFittings tables

-- no row makes no table
no_tables : IsFittings (record { names = []; grids = [] })
no_tables = record { named = omega arith; few = omega arith; grids = All-nil IsStarted }

pub starts : (bytes : List ℕ) (rows : RowsLeft) (tables : Tables) → opened header (rows_of bytes) ≡ Ok rows → tables.names ≡ [] → tables.grids ≡ [] → MadeFittings bytes rows tables
starts bytes rows tables opens none empty =
    let is : record { names = []; grids = [] } ≡ tables = rw (none, empty) refl in
    let (read, first) = opened-read fittings_form (rows_of bytes) rows opens in
    subst (MadeFittings bytes rows) is (record { read = read; count = first; is = no_tables })

pub goes_on : (bytes : List ℕ) (old new : RowsLeft) (tables more : Tables) → MadeFittings bytes old tables → IsNextRow old new
    → TakesRow fittings_form new.number tables new.row (Ok more) → AddsCell tables more → MadeFittings bytes new more
goes_on bytes old new tables more made next takes adds = record {
  read = read_row fittings_form (rows_of bytes) old new tables more made.read next takes;
  count = omega (arith, next.counted, made.count, adds.cells);
  is = adds.is;
}

-- rows are few enough to be counted
pub number_most : (bytes : List ℕ) (rows : RowsLeft) (tables : Tables) → MadeFittings bytes rows tables → rows.number ≤ 12801
number_most bytes rows tables made = omega (arith, made.count, few_rows tables made.is)

-- behind the last row the tables are the file's, unless one has a hole
pub ends : (bytes : List ℕ) (rows : RowsLeft) (tables : Tables) (broken : Option Fault) → MadeFittings bytes rows tables → rows.left ≡ []
    → first_broken (each_full 1 tables.grids) ≡ broken → fittings_of bytes ≡ unless_refused broken tables
ends bytes rows tables broken made end is =
    read_all fittings_form (rows_of bytes) rows tables made.read end ∙ ap (λ (o : Option Fault). unless_refused o tables) is
