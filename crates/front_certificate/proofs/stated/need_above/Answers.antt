use Rattle.std.proofs.Common.{◌≡◌, ◌<◌, ◌+◌, leb, rules, sym, subst, List}
use Rattle.std.specs.Prelude.{IfSome}
use Rattle.std.proofs.lemmas.List.Sorted.{IsPartitionedBy-leb, IsPartitionPoint-from_clause}
use Rattle.pareto_front.specs.declared.point.Point.{Point}
use Rattle.pareto_front.specs.Sweep.{IsReadTo}
use Rattle.pareto_front.specs.Front.{IsFront, cheapest}
use Rattle.pareto_front.proofs.Cuts.{needs_rise, read_from_point}
use Rattle.front_certificate.proofs.Steps.{stays, next-above}
use Rattle.front_certificate.proofs.stated.need_above.Goals as goal

read : (c : goal.After-need_at) → IsReadTo (c.args.budget + 1) c.points-points.result.now c.partition_point-within.result
read c =
    let ps = c.points-points.result.now in
    let found = c.partition_point-within in
    let front = subst IsFront (sym c.points-points.ensures.value) c.points-points.ensures.front in
    let parted = IsPartitionedBy-leb (λ (p : Point). p.need) ps c.args.budget (needs_rise ps front) in
    read_from_point ps c.args.budget found.result found.ensures.bound
    (IsPartitionPoint-from_clause (λ p. leb p.need c.args.budget) ps found.result found.ensures.partitioned parted (λ a r q k. search rules))

pub returns-clause-above : goal.returns-clause-above
returns-clause-above c =
    subst (λ o. IfSome o (λ need. c.args.budget < need)) (sym c.need_at.ensures)
    (next-above c.points-points.result.now c.args.budget c.partition_point-within.result (read c))

pub returns-clause-stay : goal.returns-clause-stay
returns-clause-stay c other over below =
    subst (λ (ps : List Point). cheapest ps other ≡ cheapest ps c.args.budget) c.points-points.ensures.value
    (stays c.points-points.result.now c.args.budget c.partition_point-within.result
    (subst IsFront (sym c.points-points.ensures.value) c.points-points.ensures.front) (read c) other over
    (subst (λ o. IfSome o (λ need. other < need)) c.need_at.ensures below))
