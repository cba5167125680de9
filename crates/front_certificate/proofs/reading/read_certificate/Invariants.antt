use Rattle.front_certificate.proofs.ReadingSteps.{HasRead}
use Rattle.front_certificate.proofs.reading.read_certificate.Given as goal

abbrev pub invariant-loop-i : goal.invariant-loop-i
invariant-loop-i l = HasRead l.net l.bytes l.c l.i l.rest
