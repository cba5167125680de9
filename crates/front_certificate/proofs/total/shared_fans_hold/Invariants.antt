use Rattle.std.proofs.Common.{ℕ, ◌-◌, ◌^◌, ◌≤◌}
use Rattle.front_certificate.specs.Tests.{SharedHold}
use Rattle.front_certificate.proofs.total.shared_fans_hold.Given as goal

abbrev pub invariant-loop-need : goal.invariant-loop-need
invariant-loop-need l =
    (b : ℕ) → b ≤ l.budget → SharedHold l.stated.net l.stated.fronts l.total b

abbrev pub decreases-loop-need : goal.decreases-loop-need
decreases-loop-need l = 2 ^ 64 - l.budget
