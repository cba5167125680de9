use Rattle.std.proofs.Common.{rules, of_calls}
use Rattle.std.specs.Prelude.{nat_lt}
use Rattle.std.proofs.lemmas.List.Sorted.{IsPartitionPoint-from_clause, IsPartitionedBy-ltb}
use Rattle.friction_table.specs.declared.row.FlowRate.{FlowRate}
use Rattle.friction_table.proofs.RisingLaws.{flows_rise}
use Rattle.friction_table.proofs.RateLaws.{parted}
use Rattle.friction_table.proofs.table.first_not_below.Goals as goal

pub returns-clause-parts : goal.returns-clause-parts
returns-clause-parts c =
    let point = IsPartitionPoint-from_clause (λ (row : FlowRate). nat_lt row.flow c.args.flow) c.args.rows.now c.partition_point.result c.partition_point.ensures.partitioned
    (IsPartitionedBy-ltb (λ (row : FlowRate). row.flow) c.args.rows.now c.args.flow (flows_rise c.args.rows.now c.requires)) (λ a r f k. search (rules, of_calls)) in
    parted c.args.flow c.args.rows.now c.partition_point.result point.0 point.1
