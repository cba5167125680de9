-- Files in memory, from their fields.
use Rattle.duct_ports.specs.declared.memory_files.MemoryFiles.TheInside.{Inside}
use Rattle.duct_ports.specs.Memory.{FilesInMemory}

-- what the fields of files in memory stand for
abbrev pub seen : Inside → FilesInMemory
seen inside =
    record {
      files = inside.held.files;
      left = inside.held.left;
      asked = inside.asked;
      calls = inside.calls;
      faults = inside.faults;
      moved = inside.moved;
    }
