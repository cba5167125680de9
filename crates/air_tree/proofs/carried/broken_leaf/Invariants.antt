use Rattle.std.proofs.Common.{◌≡◌, ◌-◌}
use Rattle.std.specs.List.{flat_map, range_with_len}
use Rattle.duct_units.specs.Rules.{first_broken}
use Rattle.duct_definitions.specs.Tree.{section_count}
use Rattle.duct_definitions.specs.Airflow.{leaf_rules}
use Rattle.air_tree.proofs.carried.broken_leaf.Given as goal

abbrev pub invariant-loop-s : goal.invariant-loop-s
invariant-loop-s l =
    first_broken (flat_map (leaf_rules l.tree l.leaf_flows) (range_with_len 0 (section_count l.tree)))
    ≡ first_broken (flat_map (leaf_rules l.tree l.leaf_flows) (range_with_len l.s (section_count l.tree - l.s)))
