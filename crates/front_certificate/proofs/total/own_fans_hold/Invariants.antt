use Rattle.std.proofs.Common.{ℕ, ◌<◌, length}
use Rattle.front_certificate.specs.Tests.{OwnHold}
use Rattle.front_certificate.proofs.total.own_fans_hold.Given as goal

abbrev pub invariant-loop-fan : goal.invariant-loop-fan
invariant-loop-fan l =
    (fan : ℕ) → fan < l.fan → (own : ℕ) → own < length l.stated.net.return_fans
    → OwnHold l.stated.net l.stated.fronts l.total fan own
