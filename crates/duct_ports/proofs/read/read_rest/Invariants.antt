use Rattle.std.proofs.Common.{◌≡◌, ◌≤◌, ◌+◌, ◌-◌, length, vec_len}
use Rattle.std.specs.Io.KnownBytes.{Consumes}
use Rattle.duct_ports.specs.declared.read.TheConstants.{MAX_FILE_BYTES, BUFFER_BYTES}
use Rattle.duct_ports.proofs.read.read_rest.Given as goal

abbrev pub invariant-pieces : goal.invariant-pieces
invariant-pieces g l =
    (g.F.Files.asked l.files ≡ g.F.Files.asked l.fn.files)
    × (g.F.Files.held l.files ≡ g.F.Files.held l.fn.files)
    × (g.F.Files.fault_count l.fn.files ≤ g.F.Files.fault_count l.files)
    × (g.F.Files.moved l.files ≡ vec_len l.bytes)
    × (g.F.Files.moved l.files ≤ MAX_FILE_BYTES + BUFFER_BYTES)
    × (length l.buffer ≡ length l.fn.buffer)
    × Consumes (g.F.Files.left l.fn.files) (g.F.Files.left l.files) l.bytes.items

abbrev pub decreases-pieces : goal.decreases-pieces
decreases-pieces g l = (MAX_FILE_BYTES + 1) - vec_len l.bytes
