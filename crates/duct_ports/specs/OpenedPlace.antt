-- The file that is started, from its place in the list and the count of bytes that were read of it.
use Rattle.std.specs.Option.{option_map}
use Rattle.duct_ports.specs.declared.held.HeldFiles.TheInside.{Inside}
use Rattle.duct_ports.specs.NamedFiles.{Opened, bytes_from}

-- what the fields of held files stand for
abbrev pub opened : Inside → Opened
opened inside =
    record { files = inside.files; left = option_map (bytes_from inside.files) inside.place }
