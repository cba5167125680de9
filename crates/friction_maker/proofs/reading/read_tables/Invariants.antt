use Rattle.std.proofs.Common.{length}
use Rattle.friction_maker.proofs.ReadingLaws.{MadeTables}
use Rattle.friction_maker.proofs.reading.read_tables.Given as goal

abbrev pub invariant-loop-tables : goal.invariant-loop-tables
invariant-loop-tables l = MadeTables l.sizes l.air l.bytes l.rows l.tables

abbrev pub decreases-loop-tables : goal.decreases-loop-tables
decreases-loop-tables l = length l.rows.left
