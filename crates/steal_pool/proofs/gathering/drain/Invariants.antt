use Rattle.std.proofs.Common.{◌≡◌, ℕ, ◌+◌, ◌-◌, ◌≤◌, length, vec_len}
use Rattle.std.specs.Prelude.{vec_capacity}
use Rattle.steal_pool.specs.Rule.{times}
use Rattle.steal_pool.specs.Gathers.{own_got, own_parts, own_pushed}
use Rattle.steal_pool.specs.Ends.{own_view}
use Rattle.steal_pool.proofs.gathering.drain.Given as goal

abbrev pub invariant-loop-task : goal.invariant-loop-task
invariant-loop-task l = record {
  parts : own_parts l.own ≡ own_parts l.fn.own;
  pushed : own_pushed l.own ≡ own_pushed l.fn.own;
  counts : (t : ℕ) → times t l.left.items + own_got t l.fn.own ≡ times t l.fn.left.items + own_got t l.own;
  capacity : vec_capacity l.fn.left ≤ vec_capacity l.left;
  long : vec_len l.left + length (own_view l.fn.own).got ≡ vec_len l.fn.left + length (own_view l.own).got;
  most : vec_len l.left ≤ vec_len l.fn.left + length (own_pushed l.fn.own);
}

abbrev pub decreases-loop-task : goal.decreases-loop-task
decreases-loop-task l = length (own_pushed l.own) - length (own_view l.own).got
