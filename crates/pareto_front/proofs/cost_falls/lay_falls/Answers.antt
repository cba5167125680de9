use Rattle.std.proofs.Common.{arith, refl}
use Rattle.pareto_front.proofs.Summed.{no_point, part_within}
use Rattle.pareto_front.proofs.FallsLaid.{IsLaidFrom-start, IsLaidFrom-next, IsLaidFrom-all, laid_fits, laid_less}
use Rattle.pareto_front.proofs.cost_falls.lay_falls.Goals as goal

pub loop-i-init : goal.loop-i-init
loop-i-init c =
    IsLaidFrom-start c.args.falls.now c.args.points.now c.points_within-i.result.now c.args.first.need c.args.cost c.requires.front
    c.points_within-i.ensures.part c.points_within-i.ensures.read
    (part_within c.points_within-i.result.now c.args.points.now c.points_within-i.ensures.part) c.requires.cost

pub overflow_sub-falls : goal.overflow_sub-falls
overflow_sub-falls c =
    let less = laid_less c.args.falls.now c.loop-i.falls c.args.points.now c.args.first.need c.args.cost c.loop-i.i c.loop-i.before
    c.requires.front c.requires.needs c.loop-i.invariant no_point c.loop-i-test.true in
    omega arith

pub overflow_add-falls : goal.overflow_add-falls
overflow_add-falls c =
    let fits = laid_fits c.args.falls.now c.loop-i.falls c.args.points.now c.args.first.need c.args.cost c.loop-i.i c.loop-i.before
    c.requires.front c.requires.needs c.loop-i.invariant no_point c.loop-i-test.true c.args.first.cost c.requires.room c.requires.cost in
    let first = c.requires.fits in
    omega arith

pub loop-i-preserved : goal.loop-i-preserved
loop-i-preserved c =
    IsLaidFrom-next c.args.falls.now c.loop-i.falls c.args.points.now c.args.first.need c.args.cost c.loop-i.i c.loop-i.before
    c.requires.front c.requires.needs c.loop-i.invariant no_point c.loop-i-test.true _ refl

pub returns-clause-falls : goal.returns-clause-falls
returns-clause-falls c =
    IsLaidFrom-all c.args.falls.now c.loop-i.falls c.args.points.now c.args.first.need c.args.cost c.loop-i.i c.loop-i.before
    c.requires.front c.requires.needs c.loop-i.invariant c.loop-i-test.false
