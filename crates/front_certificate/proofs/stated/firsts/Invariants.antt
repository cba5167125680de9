use Rattle.std.proofs.Common.{◌≡◌, ℕ, ◌<◌, length, get_or}
use Rattle.duct_definitions.specs.declared.limits.TheConstants.{MAX_SECTIONS}
use Rattle.front_certificate.specs.Certificates.{fronts_before}
use Rattle.front_certificate.proofs.stated.firsts.Given as goal

abbrev pub invariant-loop-s : goal.invariant-loop-s
invariant-loop-s l = record {
  first : l.first ≡ fronts_before l.net l.s;
  size : length l.firsts ≡ MAX_SECTIONS;
  places : (t : ℕ) → t < l.s → get_or l.firsts t 0 ≡ fronts_before l.net t;
}
