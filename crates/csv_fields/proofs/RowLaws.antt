-- What one read does to the rows that are left, and what stands at a place of a row.
use Rattle.std.proofs.Common.{◌≡◌, ℕ, zero, suc, ◌+◌, ◌<◌, get_or, map, add-one, arith, List, [], ◌∷◌, length, Bool, true, false, cond, Option, Some, None, slice_get, inl, inr, refl, sym, ap, ◌∙◌, subst, Bor, take, drop, ◌++◌}
use Rattle.std.specs.Prelude.{not, ◌&&◌, ◌==◌}
use Rattle.std.proofs.lemmas.Bool.{cases_Bool}
use Rattle.csv.specs.Records.{field_at}
use Rattle.csv.specs.Reading.{Reached, ReadRecord, default_config, source_of, strip_bom, has_failed, reader_config, unread_of}
use Rattle.csv.specs.declared.reader.Reader.{Reader}
use Rattle.csv.specs.declared.parser.State.{State}
use Rattle.csv.proofs.ReadFacts.{rows-more, rows-end}
use Rattle.file_definitions.specs.Rows.{Row, has_field, has_fields}
use Rattle.csv_fields.specs.ReaderRows.{records_left, left_of, IsPlain, IsReading}
use Rattle.csv_fields.proofs.RecordLaws.{records-next, records-end}

pub field_at-slice_get : (fields : Row) (i : ℕ) → field_at fields i ≡ slice_get fields i
unfolding field_at
field_at-slice_get [] i = refl
field_at-slice_get (field ∷ fields) zero = refl
field_at-slice_get (field ∷ fields) (suc i) = field_at-slice_get fields i

-- the fields of a row behind a place, as a call compares them with those that it wants
abbrev pub fields_behind : ℕ → List (Bor (List ℕ)) → Row → Bool
fields_behind i fields row = has_fields (drop i (map (λ field. field.now) fields)) (drop i row)

-- the fields from a place on are the one there and those behind it
has_fields-from : (fields : List (Bor (List ℕ))) (row : Row) (i : ℕ) (d : Bor (List ℕ)) → i < length fields → length row ≡ length fields
    → fields_behind i fields row ≡ (has_field (get_or fields i d).now i row && fields_behind (suc i) fields row)
has_fields-from [] row i d inside same = absurd (omega arith)
has_fields-from (field ∷ fields) [] i d inside same = absurd (omega arith)
has_fields-from (field ∷ fields) (first ∷ row) zero d inside same = refl
has_fields-from (field ∷ fields) (first ∷ row) (suc i) d inside same = has_fields-from fields row i d (omega arith) (omega arith)

-- with the field there compared, those behind it are left
pub fields_behind-next : (fields : List (Bor (List ℕ))) (row : Row) (i : ℕ) (d : Bor (List ℕ)) (here : Bool) → i < length fields → length row ≡ length fields
    → has_field (get_or fields i d).now i row ≡ here → fields_behind i fields row ≡ (here && fields_behind (i + 1) fields row)
fields_behind-next fields row i d here inside same at =
    has_fields-from fields row i d inside same
    ∙ ap (λ (b : Bool). b && fields_behind (suc i) fields row) at
    ∙ ap (λ (j : ℕ). here && fields_behind j fields row) (sym (add-one i))

-- ---- one read

-- what a slice of bytes still gives
abbrev pub slice_rest : Bor (List ℕ) → Option (List ℕ)
slice_rest source = Some source.now

-- the bytes that are left are known, unless the reader failed
source_known : (reader : Reader (Bor (List ℕ))) → has_failed reader ≡ false → (bytes : List ℕ) × (source_of slice_rest reader ≡ Some bytes)
source_known reader sound =
    let whole = strip_bom reader.rdr.now in
    let buffered = drop reader.at (take reader.filled reader.buffer) ++ reader.rdr.now in
    elim (not reader.bom_checked && (reader.at == 0) && (reader.filled == 0)) as (λ b. (bytes : List ℕ) × (cond reader.failed None (cond b (Some whole) (Some buffered)) ≡ Some bytes)) [
      | true ↦ (whole, ap (λ (b : Bool). cond b None (Some whole)) sound)
      | false ↦ (buffered, ap (λ (b : Bool). cond b None (Some buffered)) sound)
    ]

-- a reader that failed has no row left
pub left_of-failed : (reader : Reader (Bor (List ℕ))) → has_failed reader ≡ true → left_of reader ≡ []
left_of-failed reader failed = ap (λ (b : Bool). records_left reader.state (cond b None (unread_of slice_rest reader))) failed

-- the row and the bytes behind it, under the names that a reader has for them
renamed : (first fields : Row) (s t : State) (behind rest : List ℕ) (left : Option (List ℕ)) → fields ≡ first → s ≡ t → behind ≡ rest → left ≡ Some rest
    → first ∷ records_left s (Some behind) ≡ fields ∷ records_left t left
renamed first fields s t behind rest left same state end known = rw (known, state, end, same) refl

-- a read that found a row took the first of those that were left
pub left_of-next : (old new : Reader (Bor (List ℕ))) (fields : Row) → has_failed old ≡ false → reader_config old ≡ default_config
    → ReadRecord slice_rest old new true fields → left_of old ≡ fields ∷ left_of new
unfolding Reached
left_of-next old new fields sound config read =
    let (bytes, known) = source_known old sound in
    let (rest, left, (parts, found, same, (state, end))) = rows-more slice_rest old new fields default_config old.state bytes bytes [] config known (refl, refl) read in
    ap (records_left old.state) known
    ∙ records-next default_config old.state bytes parts found
    ∙ renamed parts.0 fields parts.1 new.state parts.2 rest (source_of slice_rest new) same state end left

-- and one that found none had no row left
pub left_of-end : (old new : Reader (Bor (List ℕ))) (fields : Row) → has_failed old ≡ false → reader_config old ≡ default_config
    → ReadRecord slice_rest old new false fields → left_of old ≡ []
left_of-end old new fields sound config read =
    let (bytes, known) = source_known old sound in
    ap (records_left old.state) known ∙ records-end default_config old.state bytes (rows-end slice_rest old new fields default_config bytes config known read)

-- ---- what the call answers

-- before the last row was read, the rows that are left are the reader's
pub still_left : (ended : Bool) (rows : List Row) → ended ≡ false → cond ended [] rows ≡ rows
still_left ended rows none = ap (λ (b : Bool). cond b [] rows) none

-- it found a row
pub row_found : (old new : Reader (Bor (List ℕ))) (fields : Row) (found : Bool) → found ≡ true → IsReading old → (has_failed old ≡ true → found ≡ false)
    → (IsPlain old → ReadRecord slice_rest old new found fields) → left_of old ≡ fields ∷ left_of new
row_found old new fields found is sound failed reads =
    elim (cases_Bool (has_failed old)) [
      | inl broken ↦ cc (sym is ∙ failed broken)
      | inr whole ↦
          let plain = sound whole in
          left_of-next old new fields whole plain.config (subst (λ b. ReadRecord slice_rest old new b fields) is (reads plain))
    ]

-- it found none
pub row_missing : (old new : Reader (Bor (List ℕ))) (fields : Row) (found : Bool) → found ≡ false → IsReading old
    → (IsPlain old → ReadRecord slice_rest old new found fields) → left_of old ≡ []
row_missing old new fields found is sound reads =
    elim (cases_Bool (has_failed old)) [
      | inl broken ↦ left_of-failed old broken
      | inr whole ↦
          let plain = sound whole in
          left_of-end old new fields whole plain.config (subst (λ b. ReadRecord slice_rest old new b fields) is (reads plain))
    ]
