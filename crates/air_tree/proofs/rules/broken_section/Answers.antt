use Rattle.std.proofs.Common.{◌∙◌, sym, length}
use Rattle.duct_definitions.specs.Tree.{section_rules, Tree}
use Rattle.duct_units.proofs.RuleLaws.{broken_past, broken_here}
use Rattle.air_tree.proofs.rules.broken_section.Goals as goal

pub loop-s-preserved : goal.loop-s-preserved
loop-s-preserved c =
    let tree : Tree = record { neighbours = c.args.neighbours.now; sides = c.args.sides.now } in
    c.loop-s.invariant ∙ broken_past (section_rules tree) c.loop-s.s (length c.args.neighbours.now)
    c.loop-s-test.true (sym c.in_default.ensures)

pub returns-in-Some : goal.returns-in-Some
returns-in-Some c =
    let tree : Tree = record { neighbours = c.args.neighbours.now; sides = c.args.sides.now } in
    sym (c.loop-s.invariant ∙ broken_here (section_rules tree) c.loop-s.s (length c.args.neighbours.now)
    c.in-Some.fault c.loop-s-test.true (sym c.in-Some.ensures))
