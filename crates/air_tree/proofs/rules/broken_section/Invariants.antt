use Rattle.std.proofs.Common.{◌≡◌, ◌-◌, length}
use Rattle.std.specs.List.{flat_map, range_with_len}
use Rattle.duct_units.specs.Rules.{first_broken}
use Rattle.duct_definitions.specs.Tree.{section_rules, Tree}
use Rattle.air_tree.proofs.rules.broken_section.Given as goal

abbrev pub invariant-loop-s : goal.invariant-loop-s
invariant-loop-s l =
    let tree : Tree = record { neighbours = l.neighbours; sides = l.sides } in
    first_broken (flat_map (section_rules tree) (range_with_len 0 (length l.neighbours)))
    ≡ first_broken (flat_map (section_rules tree) (range_with_len l.s (length l.neighbours - l.s)))
