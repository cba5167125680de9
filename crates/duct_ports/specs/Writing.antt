-- What a sink tells of the bytes that it took.
use Rattle.std.specs.Prelude.{ℕ, ◌<◌, List, length, take, Option, Result, Ok, Err}
use Rattle.std.specs.Io.KnownBytes.{Appends}

-- the bytes taken grew by a proper prefix of these
abbrev pub AppendsPart : Option (List ℕ) → Option (List ℕ) → List ℕ → Type 0
AppendsPart old new bytes = (n : ℕ) × (n < length bytes) × Appends old new (take n bytes)

-- how many bytes a write took, 0 where it failed
abbrev pub count_written : {E : Type 0} → Result ℕ E → ℕ
count_written (Ok n) = n
count_written (Err e) = 0
