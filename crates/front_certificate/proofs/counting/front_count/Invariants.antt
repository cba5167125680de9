use Rattle.std.proofs.Common.{◌≡◌}
use Rattle.front_certificate.specs.Certificates.{fronts_before}
use Rattle.front_certificate.proofs.counting.front_count.Given as goal

abbrev pub invariant-loop-s : goal.invariant-loop-s
invariant-loop-s l = l.count ≡ fronts_before l.net l.s
