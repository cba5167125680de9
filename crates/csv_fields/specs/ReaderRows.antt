-- The rows that are left, from the reader of records that gives them.
use Rattle.std.specs.Prelude.{◌≡◌, ℕ, ◌+◌, true, false, List, [], length, Option, Some, None, if◌then◌else◌}
use denote.Ref.{Bor}
use Rattle.csv.specs.Reading.{Ready, default_config, records_from, source_of, has_failed, is_flexible, reader_config, reader_state, reader_trim}
use Rattle.csv.specs.Records.{fields_of}
use Rattle.csv.specs.declared.parser.State.{State}
use Rattle.csv.specs.declared.reader.Reader.{Reader}
use Rattle.csv.specs.declared.reader.Trim.TheVariants as trim
use Rattle.file_definitions.specs.Rows.{Row}
use Rattle.csv_fields.specs.RowsLeft.{RowsLeft}
use Rattle.csv_fields.specs.declared.rows.Rows.TheInside.{Inside}

-- the records of the bytes that are left, where they are known
abbrev pub records_left : State → Option (List ℕ) → List Row
records_left state None = []
records_left state (Some bytes) = records_from default_config (length bytes + 1) state bytes

-- the rows that a reader of records has left
abbrev pub left_of : Reader (Bor (List ℕ)) → List Row
left_of reader = records_left (reader_state reader) (source_of (λ source. Some source.now) reader)

-- the row at hand, its number, and the rows that are left, of which there are none once the last was read
abbrev pub rows_left : Inside → RowsLeft
rows_left rows = record {
  number = rows.number;
  row = fields_of rows.row;
  left = if rows.ended then [] else left_of rows.reader;
}

-- the reader gives records of any length with no header row, and trims none
pub record IsPlain (reader : Reader (Bor (List ℕ))) : Type 0 where
  pub trim : reader_trim reader ≡ trim.None
  pub flexible : is_flexible reader ≡ true
  pub config : reader_config reader ≡ default_config
  pub ready : Ready reader

-- the same, unless it failed
abbrev pub IsReading : Reader (Bor (List ℕ)) → Type 0
IsReading reader = has_failed reader ≡ false → IsPlain reader
