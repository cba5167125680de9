-- The lines of refusals and faults.
use Rattle.std.specs.Prelude.{ℕ, List, [], ◌∷◌, codes}
use Rattle.std.specs.Fmt.{decimal}
use Rattle.duct_units.specs.declared.fault.Fault.{Fault}
use Rattle.duct_units.specs.declared.fault.Part.{Part}
use Rattle.duct_units.specs.declared.fault.Part.TheVariants as part
use Rattle.duct_units.specs.declared.fault.Reason.{Reason}
use Rattle.duct_units.specs.declared.fault.Reason.TheVariants as reason
use Rattle.duct_units.specs.Lines.{line}
use Rattle.command_words.specs.declared.commands.FileKind.{FileKind}
use Rattle.command_words.specs.declared.commands.FileKind.TheVariants as file

-- the word of a kind of file
abbrev pub file_word : FileKind → List ℕ
file_word file.Network = codes "network"
file_word file.Project = codes "project"
file_word file.Sizes = codes "sizes"
file_word file.Ducts = codes "ducts"
file_word file.Friction = codes "friction"
file_word file.Fittings = codes "fittings"
file_word file.Fans = codes "fans"
file_word file.ReturnFans = codes "return-fans"
file_word file.Design = codes "design"
file_word file.Certificate = codes "certificate"
file_word file.Script = codes "script"

-- the word of what a place counts
abbrev pub part_word : Part → List ℕ
part_word part.File = codes "file"
part_word part.Fan = codes "fan"
part_word part.Section = codes "section"
part_word part.Row = codes "row"
part_word part.Size = codes "size"
part_word part.Table = codes "table"
part_word part.Line = codes "line"

-- the word of a reason
abbrev pub reason_word : Reason → List ℕ
reason_word reason.TooLong = codes "too-long"
reason_word reason.Text = codes "text"
reason_word reason.Key = codes "key"
reason_word reason.Field = codes "field"
reason_word reason.Format = codes "format"
reason_word reason.Empty = codes "empty"
reason_word reason.TooMany = codes "too-many"
reason_word reason.Twice = codes "twice"
reason_word reason.UnknownNeighbour = codes "unknown-neighbour"
reason_word reason.NotBefore = codes "not-before"
reason_word reason.OtherSide = codes "other-side"
reason_word reason.NoSupply = codes "no-supply"
reason_word reason.FlowMissing = codes "flow-missing"
reason_word reason.FlowGiven = codes "flow-given"
reason_word reason.FlowTooLarge = codes "flow-too-large"
reason_word reason.JunctionAtFan = codes "junction-at-fan"
reason_word reason.Header = codes "header"
reason_word reason.Columns = codes "columns"
reason_word reason.Order = codes "order"
reason_word reason.Hole = codes "hole"
reason_word reason.Missing = codes "missing"
reason_word reason.UnknownSize = codes "unknown-size"
reason_word reason.UnknownList = codes "unknown-list"
reason_word reason.UnknownTable = codes "unknown-table"
reason_word reason.UnknownPreset = codes "unknown-preset"
reason_word reason.Pair = codes "pair"
reason_word reason.Form = codes "form"
reason_word reason.Unbuilt = codes "unbuilt"
reason_word reason.UnknownSection = codes "unknown-section"

-- the line of a file that is refused
abbrev pub refusal_line : FileKind → Fault → List ℕ
refusal_line kind fault =
    line (codes "refused") (file_word kind ∷ part_word fault.part ∷ decimal fault.place ∷ reason_word fault.reason ∷ [])

-- the line of refused words
abbrev pub words_line : List ℕ
words_line = line (codes "refused") (codes "words" ∷ [])

-- the line of a read fault
abbrev pub fault_line : List ℕ
fault_line = line (codes "fault") (codes "read" ∷ [])
