use Rattle.std.proofs.Common.{◌≡◌, ◌-◌, length, slice_index}
use Rattle.std.specs.List.{flat_map, range_with_len}
use Rattle.duct_units.specs.Rules.{first_broken}
use Rattle.duct_definitions.specs.Airflow.{bound_rules}
use Rattle.air_tree.proofs.carried.broken_bound.Given as goal

abbrev pub invariant-loop-s : goal.invariant-loop-s
invariant-loop-s l =
    first_broken (flat_map (bound_rules (slice_index l.carried)) (range_with_len 0 (length l.carried)))
    ≡ first_broken (flat_map (bound_rules (slice_index l.carried)) (range_with_len l.s (length l.carried - l.s)))
