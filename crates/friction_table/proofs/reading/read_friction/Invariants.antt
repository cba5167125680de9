use Rattle.std.proofs.Common.{length}
use Rattle.friction_table.proofs.ReadingLaws.{MadeFriction}
use Rattle.friction_table.proofs.reading.read_friction.Given as goal

abbrev pub invariant-loop-friction : goal.invariant-loop-friction
invariant-loop-friction l = MadeFriction l.sizes l.bytes l.rows l.friction

abbrev pub decreases-loop-friction : goal.decreases-loop-friction
decreases-loop-friction l = length l.rows.left
