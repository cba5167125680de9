use Rattle.std.proofs.Common.{length}
use Rattle.front_certificate.proofs.PointReading.{IsSoFar}
use Rattle.front_certificate.proofs.points.front_at.Given as goal

abbrev pub invariant-loop-point : goal.invariant-loop-point
invariant-loop-point l = IsSoFar l.bytes l.points.items l.rest

abbrev pub decreases-loop-point : goal.decreases-loop-point
decreases-loop-point l = length l.rest
