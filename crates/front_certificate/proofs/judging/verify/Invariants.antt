use Rattle.front_certificate.specs.Sound.{AreSoundBefore}
use Rattle.front_certificate.proofs.judging.verify.Given as goal

abbrev pub invariant-loop-s : goal.invariant-loop-s
invariant-loop-s l = AreSoundBefore l.net l.c.fronts l.s
