-- How far a fans file was read.
use Rattle.std.proofs.Common.{◌≡◌, ℕ, ◌+◌, List, [], ◌∷◌, ◌++◌, length, Ok, sym, ap, ◌∙◌, subst, arith, length-append}
use Rattle.std.proofs.lemmas.List.Elements.{All-nil}
use Rattle.file_definitions.specs.Rows.{rows_of, with_row, TakesRow}
use Rattle.file_definitions.proofs.RowLaws.{taken_item}
use Rattle.csv_fields.specs.RowsLeft.{RowsLeft, IsNextRow, opened}
use Rattle.csv_fields.proofs.ReadingLaws.{IsReadTo, opened-read, read_row}
use Rattle.fan_points.specs.declared.row.FanRow.{FanRow}
use Rattle.fan_points.specs.Fans.{IsFan, IsFans}
use Rattle.fan_points.specs.Reading.{header, fans_form}

-- the rows up to the one at hand made the fans
pub record MadeFans (bytes : List ℕ) (rows : RowsLeft) (fans : List FanRow) : Type 0 where
  pub read : IsReadTo fans_form (rows_of bytes) rows fans
  pub count : rows.number ≡ length fans + 1
  pub is : IsFans fans

-- no row makes no fan
no_fans : IsFans []
no_fans = record {
  few = omega arith;
  bounds = All-nil IsFan;
  names = record { form = All-nil (λ (name : List ℕ). _); distinct = λ i j less within. absurd (omega arith) };
}

pub starts : (bytes : List ℕ) (rows : RowsLeft) (fans : List FanRow) → opened header (rows_of bytes) ≡ Ok rows → fans ≡ [] → MadeFans bytes rows fans
starts bytes rows fans opens none =
    let (read, first) = opened-read fans_form (rows_of bytes) rows opens in
    subst (MadeFans bytes rows) (sym none) (record { read = read; count = first; is = no_fans })

-- a row that was taken adds one fan
one_more : (number : ℕ) (fans more : List FanRow) (row : List (List ℕ)) → TakesRow fans_form number fans row (Ok more) → length more ≡ length fans + 1
one_more number fans more row takes =
    let (item, some) = taken_item fans_form number fans row takes.0 in
    let is : more ≡ fans ++ item ∷ [] = takes.1 ∙ ap (with_row fans_form fans) some in
    ap (length {A = FanRow}) is ∙ length-append fans (item ∷ [])

pub goes_on : (bytes : List ℕ) (old new : RowsLeft) (fans more : List FanRow) → MadeFans bytes old fans → IsNextRow old new
    → TakesRow fans_form new.number fans new.row (Ok more) → IsFans more → MadeFans bytes new more
goes_on bytes old new fans more made next takes is = record {
  read = read_row fans_form (rows_of bytes) old new fans more made.read next takes;
  count = omega (arith, next.counted, made.count, one_more new.number fans more new.row takes);
  is = is;
}
