use Rattle.std.proofs.Common.{◌≡◌, ◌++◌, drop}
use Rattle.std.specs.List.{flat_map}
use Rattle.front_certificate.specs.CertificateText.{pair_of}
use Rattle.front_certificate.proofs.writing.numbers_of.Given as goal

-- the numbers so far and those of the points that are left are all
abbrev pub invariant-loop-point : goal.invariant-loop-point
invariant-loop-point l = flat_map pair_of l.points ≡ l.numbers.items ++ flat_map pair_of (drop l.point-index l.points)
