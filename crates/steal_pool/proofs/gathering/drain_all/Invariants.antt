use Rattle.std.proofs.Common.{◌≡◌, ℕ, ◌+◌, ◌*◌, ◌≤◌, length}
use Rattle.std.specs.Prelude.{vec_capacity, vec_len}
use Rattle.std.specs.List.{sum_by}
use Rattle.steal_pool.specs.Rule.{times, all_parts}
use Rattle.steal_pool.specs.Gathers.{own_got, own_parts, own_pushed}
use Rattle.steal_pool.proofs.gathering.drain_all.Given as goal

abbrev pub invariant-loop-owns : goal.invariant-loop-owns
invariant-loop-owns l = record {
  roomy : vec_len l.left + sum_by (λ o. length (own_pushed o)) l.owns.items ≤ vec_capacity l.left;
  enough : all_parts * length l.owns.items ≤ sum_by own_parts l.owns.items;
  counts : (sum_by own_parts l.owns.items ≡ all_parts * length l.owns.items) → (t : ℕ) → times t l.left.items + (sum_by (own_got t) l.fn.owns.items + sum_by (λ o. times t (own_pushed o)) l.owns.items) ≡ times t l.fn.left.items + (sum_by (λ o. times t (own_pushed o)) l.fn.owns.items + sum_by (own_got t) l.owns.items);
}

abbrev pub decreases-loop-owns : goal.decreases-loop-owns
decreases-loop-owns l = length l.owns.items
