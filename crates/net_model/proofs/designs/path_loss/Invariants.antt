use Rattle.std.proofs.Common.{◌+◌, ℕ, Option, Some, None}
use Rattle.net_model.proofs.DesignSums.{IsWalked}
use Rattle.net_model.proofs.designs.path_loss.Given as goal

abbrev pub invariant-loop-at : goal.invariant-loop-at
invariant-loop-at l = IsWalked l.net l.d l.fn.leaf l.at l.loss

abbrev next : Option ℕ → ℕ
next None = 0
next (Some s) = s + 1

abbrev pub decreases-loop-at : goal.decreases-loop-at
decreases-loop-at l = next l.at
