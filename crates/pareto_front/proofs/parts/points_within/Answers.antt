use Rattle.std.proofs.Common.{◌+◌, leb, arith, rules, sym, subst, take, drop}
use Rattle.std.proofs.lemmas.List.{length-take-le}
use Rattle.std.proofs.lemmas.List.Sorted.{IsPartitionedBy-leb, IsPartitionPoint-from_clause}
use Rattle.pareto_front.specs.declared.point.Point.{Point}
use Rattle.pareto_front.specs.Sweep.{IsReadTo}
use Rattle.pareto_front.proofs.Cuts.{needs_rise, read_from_point}
use Rattle.pareto_front.proofs.Needs.{above_from, within_from_below}
use Rattle.pareto_front.proofs.Order.{IsFront-take}
use Rattle.pareto_front.proofs.Prices.{cheapest-take}
use Rattle.pareto_front.proofs.parts.points_within.Goals as goal

read : (c : goal.After-partition_point-count) → IsReadTo (c.args.need + 1) c.args.points.now c.partition_point-count.result
read c =
    let ps = c.args.points.now in
    let need = c.args.need in
    let found = c.partition_point-count in
    let parted = IsPartitionedBy-leb (λ (p : Point). p.need) ps need (needs_rise ps c.requires) in
    read_from_point ps need found.result found.ensures.bound
    (IsPartitionPoint-from_clause (λ p. leb p.need need) ps found.result found.ensures.partitioned parted (λ a r q k. search rules))

pub returns-clause-read : goal.returns-clause-read
returns-clause-read c =
    let ps = c.args.points.now in
    let found = c.partition_point-count in
    subst (IsReadTo (c.args.need + 1) ps) (sym (length-take-le found.result ps found.ensures.bound)) (read c)

pub returns-clause-front : goal.returns-clause-front
returns-clause-front c = IsFront-take c.args.points.now c.partition_point-count.result c.requires

pub returns-clause-within : goal.returns-clause-within
returns-clause-within c =
    let part = take c.partition_point-count.result c.args.points.now in
    within_from_below (c.args.need + 1) c.args.need part (omega arith) (read c).read

pub returns-clause-prices : goal.returns-clause-prices
returns-clause-prices c budget within =
    let count = c.partition_point-count.result in
    cheapest-take c.args.points.now count budget (above_from (c.args.need + 1) budget (drop count c.args.points.now) (omega arith) (read c).rest)
