use Rattle.std.proofs.Common.{◌≡◌, ◌+◌, ◌-◌, ap, ◌∙◌, get_or, Some, take, arith}
use Rattle.duct_units.specs.Prices.{both_of}
use Rattle.pareto_front.specs.Sweep.{last_cost}
use Rattle.pareto_front.proofs.Summed.{no_point, last_read, last_sum}
use Rattle.pareto_front.proofs.sums.last_costs.Goals as goal

sum : (c : goal.Start) → last_sum c.args.a.now c.args.b.now c.args.i c.args.j ≡ Some ((get_or c.args.a.now (c.args.i - 1) no_point).cost + (get_or c.args.b.now (c.args.j - 1) no_point).cost)
sum c =
    ap (λ o. both_of o (last_cost (take c.args.j c.args.b.now))) (last_read c.args.a.now c.args.i no_point c.requires.some_of_a c.requires.in_a)
    ∙ ap (both_of (Some (get_or c.args.a.now (c.args.i - 1) no_point).cost)) (last_read c.args.b.now c.args.j no_point c.requires.some_of_b c.requires.in_b)

pub overflow_add-result : goal.overflow_add-result
overflow_add-result c = (let within = c.requires.fits _ (sum c) in omega arith)

pub returns : goal.returns
returns c = sum c
