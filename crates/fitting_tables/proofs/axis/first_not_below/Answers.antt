use Rattle.std.proofs.Common.{ℕ, rules, of_calls}
use Rattle.std.specs.Prelude.{nat_lt}
use Rattle.std.proofs.lemmas.List.Sorted.{IsPartitionPoint-from_clause, IsPartitionedBy-ltb}
use Rattle.fitting_tables.proofs.AxisLaws.{never_fall, parted}
use Rattle.fitting_tables.proofs.axis.first_not_below.Goals as goal

pub returns-clause-parts : goal.returns-clause-parts
returns-clause-parts c =
    let point = IsPartitionPoint-from_clause (λ (b : ℕ). nat_lt b c.args.x) c.args.points.now c.partition_point.result c.partition_point.ensures.partitioned
    (IsPartitionedBy-ltb (λ (b : ℕ). b) c.args.points.now c.args.x (never_fall c.args.points.now c.requires.rising)) (λ a r f k. search (rules, of_calls)) in
    parted c.args.x c.args.points.now c.partition_point.result point.0 point.1
