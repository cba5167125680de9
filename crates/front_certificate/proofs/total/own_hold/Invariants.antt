use Rattle.std.proofs.Common.{ℕ, ◌<◌}
use Rattle.front_certificate.specs.Tests.{OwnHold}
use Rattle.front_certificate.proofs.total.own_hold.Given as goal

abbrev pub invariant-loop-own : goal.invariant-loop-own
invariant-loop-own l = (own : ℕ) → own < l.own → OwnHold l.stated.net l.stated.fronts l.total l.fan own
