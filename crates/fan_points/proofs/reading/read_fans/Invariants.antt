use Rattle.std.proofs.Common.{length}
use Rattle.fan_points.proofs.ReadingLaws.{MadeFans}
use Rattle.fan_points.proofs.reading.read_fans.Given as goal

abbrev pub invariant-loop-fans : goal.invariant-loop-fans
invariant-loop-fans l = MadeFans l.bytes l.rows l.fans

abbrev pub decreases-loop-fans : goal.decreases-loop-fans
decreases-loop-fans l = length l.rows.left
