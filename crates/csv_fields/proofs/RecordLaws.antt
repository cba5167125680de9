-- The records of a text, one after the other: enough turns are as good as more.
use Rattle.std.proofs.Common.{◌≡◌, ℕ, zero, suc, ◌+◌, ◌<◌, ◌⊎◌, inl, inr, List, [], ◌∷◌, ◌++◌, length, true, false, cond, Option, Some, None, refl, sym, ap, ◌∙◌, arith}
use Rattle.csv.specs.Machine.{Read, next_record, is_end, step, ends_at_end, fields_after, field_after}
use Rattle.csv.specs.Reading.{records_from, records_next}
use Rattle.csv.specs.declared.parser.Config.{Config}
use Rattle.csv.specs.declared.parser.State.{State}
use Rattle.csv.specs.declared.parser.State.TheVariants as st
use Rattle.file_definitions.specs.Rows.{Row}

-- a record leaves fewer bytes, or none at the start of a record
abbrev pub Shortens : List ℕ → Option Read → Type 0
Shortens bytes None = Unit {0}
Shortens bytes (Some read) = (length read.2 < length bytes) ⊎ ((read.2 ≡ []) × (read.1 ≡ st.StartRecord))

shortens_more : (c : ℕ) (rest : List ℕ) (o : Option Read) → Shortens rest o → Shortens (c ∷ rest) o
shortens_more c rest None shorter = tt
shortens_more c rest (Some read) (inl less) = inl (omega arith)
shortens_more c rest (Some read) (inr none) = inr none

pub next_record-shortens : (cfg : Config) (s : State) (fields : Row) (field bytes : List ℕ) → Shortens bytes (next_record cfg s fields field bytes)
unfolding next_record
next_record-shortens cfg s fields field [] =
    elim (ends_at_end s) as (λ b. Shortens [] (cond b (Some (fields ++ (field ∷ []), st.StartRecord, [])) None)) [ true ↦ inr (refl, refl) | false ↦ tt ]
next_record-shortens cfg s fields field (c ∷ rest) =
    let now = step cfg s c in
    let more = next_record cfg now.0 (fields_after now.1 fields field) (field_after now.1 c field) rest in
    elim (is_end now.1) as (λ b. Shortens (c ∷ rest) (cond b (Some (fields_after now.1 fields field, now.0, rest)) more))
    [ true ↦ inl (omega arith) | false ↦ shortens_more c rest more (next_record-shortens cfg now.0 (fields_after now.1 fields field) (field_after now.1 c field) rest) ]

-- so many turns read all records of the bytes
abbrev pub Suffices : ℕ → State → List ℕ → Type 0
Suffices n s bytes = (length bytes < n) ⊎ ((bytes ≡ []) × (s ≡ st.StartRecord))

-- at the end of a text there is no record
at_end : (cfg : Config) (s : State) (bytes : List ℕ) → bytes ≡ [] → s ≡ st.StartRecord → next_record cfg s [] [] bytes ≡ None
unfolding next_record
at_end cfg s bytes none start = rw (none, start) refl

records_from-end : (cfg : Config) (n : ℕ) (s : State) (bytes : List ℕ) → next_record cfg s [] [] bytes ≡ None → records_from cfg n s bytes ≡ []
unfolding records_from
records_from-end cfg zero s bytes none = refl
records_from-end cfg (suc n) s bytes none = ap (records_next (records_from cfg n)) none

pub records_from-more : (cfg : Config) (n : ℕ) (s : State) (bytes : List ℕ) (read : Read) → next_record cfg s [] [] bytes ≡ Some read
    → records_from cfg (suc n) s bytes ≡ read.0 ∷ records_from cfg n read.1 read.2
unfolding records_from
records_from-more cfg n s bytes read some = ap (records_next (records_from cfg n)) some

-- what is left of the turns suffices for what is left of the bytes
suffices-next : (n : ℕ) (cfg : Config) (s : State) (bytes : List ℕ) (read : Read) → next_record cfg s [] [] bytes ≡ Some read → Shortens bytes (Some read)
    → Suffices (suc n) s bytes → Suffices n read.1 read.2
suffices-next n cfg s bytes read some (inr none) enough = inr none
suffices-next n cfg s bytes read some (inl less) (inl enough) = inl (omega arith)
suffices-next n cfg s bytes read some (inl less) (inr end) = cc (at_end cfg s bytes end.0 end.1)

shortened : (cfg : Config) (s : State) (bytes : List ℕ) (read : Read) → next_record cfg s [] [] bytes ≡ Some read → Shortens bytes (Some read)
shortened cfg s bytes read some = rw some at (next_record-shortens cfg s [] [] bytes)

-- any two numbers of turns that suffice read the same records
pub records_from-enough : (cfg : Config) (n m : ℕ) (s : State) (bytes : List ℕ) → Suffices n s bytes → Suffices m s bytes → records_from cfg n s bytes ≡ records_from cfg m s bytes
records_from-enough cfg zero m s bytes (inl less) more = absurd (omega arith)
records_from-enough cfg zero m s bytes (inr end) more =
    let none = at_end cfg s bytes end.0 end.1 in
    records_from-end cfg zero s bytes none ∙ sym (records_from-end cfg m s bytes none)
records_from-enough cfg (suc n) zero s bytes enough (inl less) = absurd (omega arith)
records_from-enough cfg (suc n) zero s bytes enough (inr end) =
    let none = at_end cfg s bytes end.0 end.1 in
    records_from-end cfg (suc n) s bytes none ∙ sym (records_from-end cfg zero s bytes none)
records_from-enough cfg (suc n) (suc m) s bytes enough more =
    elim (next_record cfg s [] [] bytes) as (λ o. next_record cfg s [] [] bytes ≡ o → records_from cfg (suc n) s bytes ≡ records_from cfg (suc m) s bytes) [
      | None ↦ λ none. records_from-end cfg (suc n) s bytes none ∙ sym (records_from-end cfg (suc m) s bytes none)
      | Some read ↦ λ some.
          let shorter = shortened cfg s bytes read some in
          let rest = records_from-enough cfg n m read.1 read.2 (suffices-next n cfg s bytes read some shorter enough) (suffices-next m cfg s bytes read some shorter more) in
          records_from-more cfg n s bytes read some ∙ ap (λ rows. read.0 ∷ rows) rest ∙ sym (records_from-more cfg m s bytes read some)
    ] refl

-- the records of a text are its next one, and those of what that leaves
pub records-next : (cfg : Config) (s : State) (bytes : List ℕ) (read : Read) → next_record cfg s [] [] bytes ≡ Some read
    → records_from cfg (length bytes + 1) s bytes ≡ read.0 ∷ records_from cfg (length read.2 + 1) read.1 read.2
records-next cfg s bytes read some =
    let shorter = shortened cfg s bytes read some in
    let now : Suffices (suc (length bytes)) s bytes = inl (omega arith) in
    let all : Suffices (length bytes + 1) s bytes = inl (omega arith) in
    let later : Suffices (length read.2 + 1) read.1 read.2 = inl (omega arith) in
    records_from-enough cfg (length bytes + 1) (suc (length bytes)) s bytes all now
    ∙ records_from-more cfg (length bytes) s bytes read some
    ∙ ap (λ rows. read.0 ∷ rows) (records_from-enough cfg (length bytes) (length read.2 + 1) read.1 read.2 (suffices-next (length bytes) cfg s bytes read some shorter now) later)

pub records-end : (cfg : Config) (s : State) (bytes : List ℕ) → next_record cfg s [] [] bytes ≡ None → records_from cfg (length bytes + 1) s bytes ≡ []
records-end cfg s bytes none = records_from-end cfg (length bytes + 1) s bytes none
