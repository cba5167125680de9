-- The side of a section, as its table says it.
use Rattle.std.specs.Prelude.{ℕ, List, codes, if◌then◌else◌, Option, Some, None, option_and_then}
use Rattle.std.specs.Str.{bytes_eq}
use Rattle.toml.specs.Data.{Members}
use Rattle.duct_units.specs.declared.side.Side.{Side}
use Rattle.duct_units.specs.declared.side.Side.TheVariants.{Supply, Return}
use Rattle.file_definitions.specs.Document.{text_at}

-- the side that the word names
abbrev pub side_called : List ℕ → Option Side
side_called word =
    if bytes_eq word (codes "supply") then Some Supply
    else if bytes_eq word (codes "return") then Some Return
    else None

-- the side at its key; none where no word of a side stands there
abbrev pub side_at : Members → Option Side
side_at table = option_and_then side_called (text_at (codes "side") table)
