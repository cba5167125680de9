use Rattle.std.proofs.Common.{arith}
use Rattle.pareto_front.proofs.FallsByNeed.{falls_to-later}
use Rattle.pareto_front.proofs.FallsLaid.{AreFalls-added, IsBoth-added}
use Rattle.pareto_front.proofs.cost_falls.add_points.Goals as goal

pub overflow_add-sum : goal.overflow_add-sum
overflow_add-sum c =
    let between = falls_to-later c.args.falls.now c.args.first.need c.args.need c.requires.later in
    let here = c.cost_at.ensures in
    let fits = c.requires.fits in
    omega arith

pub lay_falls-requires-clause-fits : goal.lay_falls-requires-clause-fits
lay_falls-requires-clause-fits c =
    let between = falls_to-later c.args.falls.now c.args.first.need c.args.need c.requires.later in
    let here = c.cost_at.ensures in
    let fits = c.requires.fits in
    omega arith

pub returns-clause-both : goal.returns-clause-both
returns-clause-both c =
    IsBoth-added c.args.first c.args.falls.now c.lay_falls.new.falls c.args.points.now c.args.need c.cost_at.result c.args.cost
    c.requires.falls c.requires.front c.requires.later c.requires.in_range c.requires.cost c.cost_at.ensures c.lay_falls.ensures.falls
    c.lay_falls.ensures.wide c.requires.start

pub returns-clause-falls : goal.returns-clause-falls
returns-clause-falls c =
    AreFalls-added c.args.first c.args.falls.now c.lay_falls.new.falls c.args.points.now c.args.need c.cost_at.result c.args.cost
    c.requires.falls c.requires.front c.requires.later c.requires.in_range c.requires.cost c.cost_at.ensures c.lay_falls.ensures.falls
    c.lay_falls.ensures.wide
