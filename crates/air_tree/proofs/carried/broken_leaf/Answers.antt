use Rattle.std.proofs.Common.{◌∙◌, sym, arith}
use Rattle.duct_definitions.specs.Tree.{section_count}
use Rattle.duct_definitions.specs.Airflow.{leaf_rules}
use Rattle.duct_units.proofs.RuleLaws.{broken_past, broken_here}
use Rattle.air_tree.proofs.carried.broken_leaf.Goals as goal

pub loop-s-preserved : goal.loop-s-preserved
loop-s-preserved c =
    c.loop-s.invariant
    ∙ broken_past (leaf_rules c.args.tree.now c.args.leaf_flows.now) c.loop-s.s (section_count c.args.tree.now)
    (omega arith) (sym c.broken_at.ensures ∙ c.in_default.is)

pub returns-in-Some : goal.returns-in-Some
returns-in-Some c =
    sym (c.loop-s.invariant
    ∙ broken_here (leaf_rules c.args.tree.now c.args.leaf_flows.now) c.loop-s.s (section_count c.args.tree.now) c.in-Some.fault
    (omega arith) (sym c.broken_at.ensures ∙ c.in-Some.is))
