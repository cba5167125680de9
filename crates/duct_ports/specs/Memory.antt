-- Files and a sink in memory: which of their calls fail, and what the others give.
--   Numbered        calls that are numbered from 1: those made, and the numbers of those that fail
--   FilesInMemory   files that are held, the bytes left of the one that is started, the names asked
--                   for, and the numbered calls
--   can_start       the next start of the name is no fault
--   can_read        the next read is no fault
--   count_moved     how many bytes the next read moves into a buffer
--   SinkInMemory    the bytes that a sink took, its room, and the numbered calls
--   can_write       the next write is no fault
--   count_taken     how many bytes of a piece the next write takes
use Rattle.std.specs.Prelude.{ℕ, ◌-◌, ◌==◌, ◌&&◌, List, [], length, Bool, not, nat_lt, min, Option, Some, is_some, if◌then◌else◌}
use Rattle.std.specs.List.{list_any}
use Rattle.duct_ports.specs.declared.held.HeldFile.{HeldFile}
use Rattle.duct_ports.specs.Reading.{Contents}
use Rattle.duct_ports.specs.Faults.{one_more}
use Rattle.duct_ports.specs.NamedFiles.{is_held, contents_of, rest_of}

-- how many calls were made, and the numbers of those that fail
pub record Numbered : Type 0 where
  pub fails : List ℕ
  pub made : ℕ

-- calls with these failing numbers, none of which was made yet
abbrev pub not_called : List ℕ → Numbered
not_called fails = record { fails = fails; made = 0 }

-- the number of the next call is one of those that fail
abbrev pub next_fails : Numbered → Bool
next_fails calls = list_any (λ number. number == one_more calls.made) calls.fails

-- one more call was made
abbrev pub after_call : Numbered → Numbered
after_call calls = record calls { made = one_more calls.made }

-- files that are held, the bytes left of the one that is started, the names asked for, the numbered calls, and how many
-- bytes were moved since the last name was asked for
pub record FilesInMemory : Type 0 where
  pub files : List HeldFile
  pub left : Option (List ℕ)
  pub asked : List (List ℕ)
  pub calls : Numbered
  pub faults : ℕ
  pub moved : ℕ

-- the bytes that each name holds
abbrev pub held_by : FilesInMemory → Option Contents
held_by source = Some (contents_of source.files)

-- the bytes left of the started file; none where no file is started
abbrev pub left_of : FilesInMemory → Option (List ℕ)
left_of source = Some (rest_of source.left)

-- a file is started
abbrev pub is_started : FilesInMemory → Bool
is_started source = is_some source.left

-- the name is held, and the number of the call isn't one that fails
abbrev pub can_start : FilesInMemory → List ℕ → Bool
can_start source name = is_held source.files name && not (next_fails source.calls)

-- the number of the call isn't one that fails; where no file is started it has none
abbrev pub can_read : FilesInMemory → Bool
can_read source = not (is_started source && next_fails source.calls)

-- a read is a numbered call where a file is started
abbrev pub calls_after_read : FilesInMemory → Numbered
calls_after_read source = if is_started source then after_call source.calls else source.calls

-- as many as are left and as the buffer has room for
abbrev pub count_moved : FilesInMemory → List ℕ → ℕ
count_moved source buf = min (length buf) (length (rest_of source.left))

-- the bytes that a sink took, its room, the most it takes at once, and the numbered calls
pub record SinkInMemory : Type 0 where
  pub taken : List ℕ
  pub room : ℕ
  pub most : ℕ
  pub calls : Numbered
  pub faults : ℕ

-- a sink that took nothing yet
abbrev pub empty_sink : ℕ → ℕ → List ℕ → SinkInMemory
empty_sink room most fails =
    record { taken = []; room = room; most = most; calls = not_called fails; faults = 0 }

-- there is room left, and the number of the call isn't one that fails
abbrev pub can_write : SinkInMemory → Bool
can_write sink = nat_lt (length sink.taken) sink.room && not (next_fails sink.calls)

-- the least of the most at once, the length of the piece and the room left
abbrev pub count_taken : SinkInMemory → List ℕ → ℕ
count_taken sink piece = min sink.most (min (length piece) (sink.room - length sink.taken))
