use Rattle.std.proofs.Common.{◌≡◌, ◌*◌, ◌^◌, ◌≤◌, Some, take}
use Rattle.least_laws.specs.Prices.{sum_of}
use Rattle.front_certificate.specs.Certificates.{bound}
use Rattle.front_certificate.proofs.stated.Stated.bound_sum.Given as goal

abbrev pub invariant-loop-s : goal.invariant-loop-s
invariant-loop-s l = record {
  sum : sum_of (λ s. bound l.self.net l.self.fronts s l.k l.budget) (take l.s-index l.sections) ≡ Some l.sum;
  fits : l.sum ≤ l.s-index * 2 ^ 64;
}
