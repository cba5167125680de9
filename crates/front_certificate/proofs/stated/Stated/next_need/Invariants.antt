use Rattle.std.proofs.Common.{◌≡◌, ℕ, ◌<◌, ◌≤◌, take}
use Rattle.std.specs.Prelude.{IfSome}
use Rattle.least_laws.specs.Prices.{sum_of}
use Rattle.front_certificate.specs.Certificates.{bound}
use Rattle.front_certificate.proofs.stated.Stated.next_need.Given as goal

abbrev pub invariant-loop-s : goal.invariant-loop-s
invariant-loop-s l = record {
  above : IfSome l.next (λ need. l.budget < need);
  stay : (other : ℕ) → l.budget ≤ other → IfSome l.next (λ need. other < need)
      → sum_of (λ s. bound l.self.net l.self.fronts s l.k other) (take l.s-index l.sections)
      ≡ sum_of (λ s. bound l.self.net l.self.fronts s l.k l.budget) (take l.s-index l.sections);
}
