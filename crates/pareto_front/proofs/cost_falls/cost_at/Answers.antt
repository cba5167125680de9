use Rattle.std.proofs.Common.{ℕ, arith}
use Rattle.std.proofs.lemmas.List.Sums.{sum_by_more, sum_by_more_le}
use Rattle.pareto_front.proofs.cost_falls.cost_at.Goals as goal

pub overflow_sub-cost : goal.overflow_sub-cost
overflow_sub-cost c =
    let most = c.requires.falls.within in
    let test = c.loop-later-test.true in
    let within = c.requires.in_range in
    let next = sum_by_more_le (λ (x : ℕ). x) c.args.falls.now c.loop-later.later 0 (omega arith) in
    let so_far = c.loop-later.invariant.1 in
    omega arith

pub loop-later-preserved : goal.loop-later-preserved
loop-later-preserved c =
    let most = c.requires.falls.within in
    let test = c.loop-later-test.true in
    let within = c.requires.in_range in
    let next = sum_by_more_le (λ (x : ℕ). x) c.args.falls.now c.loop-later.later 0 (omega arith) in
    let more = sum_by_more (λ (x : ℕ). x) c.args.falls.now c.loop-later.later 0 (omega arith) in
    let so_far = c.loop-later.invariant.1 in
    (omega arith, omega arith)
