use Rattle.std.proofs.Common.{length}
use Rattle.fitting_tables.proofs.ReadingLaws.{MadeFittings}
use Rattle.fitting_tables.proofs.reading.read_fittings.Given as goal

abbrev pub invariant-loop-fittings : goal.invariant-loop-fittings
invariant-loop-fittings l = MadeFittings l.bytes l.rows l.fittings

abbrev pub decreases-loop-fittings : goal.decreases-loop-fittings
decreases-loop-fittings l = length l.rows.left
