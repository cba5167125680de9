-- What a source of files tells of the bytes that its names hold, and what was taken of them.
--   Contents        the bytes that each name holds
--   Holds           the name holds these bytes
--   HoldsMoreThan   the name holds more than so many
--   IsBegun         those left are all that the name holds
--   bytes_of        the bytes that the name holds
--   TakesMoreThan   more than so many were taken of those that were left
--   moved_after     how many bytes were moved, after so many more
use Rattle.std.specs.Prelude.{◌≡◌, ℕ, ◌+◌, ◌-◌, ◌^◌, ◌<◌, List, length, min, Option, Some, IfSome}
use Rattle.std.specs.Option.{option_map}
use Rattle.std.specs.Io.KnownBytes.{Consumes}

-- the bytes that each name holds
abbrev pub Contents : Type 0
Contents = List ℕ → List ℕ

-- where the bytes are told, the name holds these
abbrev pub Holds : Option Contents → List ℕ → List ℕ → Type 0
Holds held name bytes = IfSome held (λ contents. bytes ≡ contents name)

-- where the bytes are told, the name holds more than so many
abbrev pub HoldsMoreThan : ℕ → Option Contents → List ℕ → Type 0
HoldsMoreThan limit held name = IfSome held (λ contents. limit < length (contents name))

-- where the bytes are told, those left are all that the name holds
abbrev pub IsBegun : Option Contents → List ℕ → Option (List ℕ) → Type 0
IsBegun held name left = IfSome held (λ contents. left ≡ Some (contents name))

-- the bytes that the name holds, where they are told
abbrev pub bytes_of : Option Contents → List ℕ → Option (List ℕ)
bytes_of held name = option_map (λ contents. contents name) held

-- a prefix of more than so many bytes was taken of those that were left
abbrev pub TakesMoreThan : ℕ → Option (List ℕ) → Option (List ℕ) → Type 0
TakesMoreThan limit old new = (taken : List ℕ) × (limit < length taken) × Consumes old new taken

-- how many bytes were moved, after so many more; the count stops at u64::MAX
abbrev pub moved_after : ℕ → ℕ → ℕ
moved_after moved more = min (moved + more) (2 ^ 64 - 1)
