use Rattle.std.proofs.Common.{◌∙◌, length, arith, slice_index}
use Rattle.duct_definitions.specs.Airflow.{bound_rules}
use Rattle.duct_units.proofs.RuleLaws.{broken_past}
use Rattle.air_tree.proofs.CarriedLaws.{within_bound}
use Rattle.air_tree.proofs.carried.broken_bound.Goals as goal

pub loop-s-preserved : goal.loop-s-preserved
loop-s-preserved c =
    c.loop-s.invariant
    ∙ broken_past (bound_rules (slice_index c.args.carried.now)) c.loop-s.s (length c.args.carried.now)
    c.loop-s-test.true (within_bound (slice_index c.args.carried.now) c.loop-s.s (omega arith))
