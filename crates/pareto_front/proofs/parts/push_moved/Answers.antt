use Rattle.std.proofs.Common.{◌∙◌, sym, subst}
use Rattle.pareto_front.specs.Front.{NeedsWithin}
use Rattle.pareto_front.proofs.Shifts.{moved_after}
use Rattle.pareto_front.proofs.parts.push_moved.Goals as goal

pub returns-in_err-push-clause-within : goal.returns-in_err-push-clause-within
returns-in_err-push-clause-within c cap low within =
    subst (NeedsWithin cap) (sym (c.in_err-push.ensures.items ∙ c.loop-point.invariant))
    (moved_after c.args.loss c.args.price cap c.loop-point.point-index c.args.all.now.items c.args.points.now low within)

pub returns-clause-within : goal.returns-clause-within
returns-clause-within c cap low within =
    subst (NeedsWithin cap) (sym c.loop-point.invariant)
    (moved_after c.args.loss c.args.price cap c.loop-point.point-index c.args.all.now.items c.args.points.now low within)
