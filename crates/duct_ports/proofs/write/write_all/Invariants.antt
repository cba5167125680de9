use Rattle.std.proofs.Common.{length, ◌-◌, ◌≡◌, ◌≤◌, take, is_some}
use Rattle.std.specs.Io.KnownBytes.{Appends}
use Rattle.duct_ports.proofs.write.write_all.Given as goal

abbrev pub invariant-pieces : goal.invariant-pieces
invariant-pieces g l =
    (l.at ≤ length l.bytes)
    × Appends (g.W.Sink.taken l.initial.sink) (g.W.Sink.taken l.sink) (take l.at l.bytes)
    × (g.W.Sink.fault_count l.initial.sink ≤ g.W.Sink.fault_count l.sink)
    × (is_some (g.W.Sink.taken l.sink) ≡ is_some (g.W.Sink.taken l.initial.sink))
    × (length l.bytes ≡ 0 → l.sink ≡ l.initial.sink)

abbrev pub decreases-pieces : goal.decreases-pieces
decreases-pieces g l = length l.bytes - l.at
