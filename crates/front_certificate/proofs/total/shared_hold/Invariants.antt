use Rattle.std.proofs.Common.{ℕ, ◌<◌, ◌≤◌, None}
use Rattle.duct_definitions.specs.Network.{fan_at}
use Rattle.front_certificate.specs.Sound.{IsNoLess, split_sum}
use Rattle.front_certificate.proofs.total.shared_hold.Given as goal

abbrev pub invariant-loop-fan : goal.invariant-loop-fan
invariant-loop-fan l =
    (fan : ℕ) → fan < l.fan → l.budget ≤ (fan_at l.stated.net fan).pressure
    → IsNoLess l.total (split_sum l.stated.net l.stated.fronts fan None l.budget)
