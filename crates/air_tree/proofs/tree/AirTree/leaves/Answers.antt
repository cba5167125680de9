use Rattle.std.proofs.Common.{◌∙◌, ap}
use Rattle.duct_definitions.specs.Tree.{Tree, all_leaves}
use Rattle.air_tree.proofs.ListLaws.{AreLeaves, are_leaves}
use Rattle.air_tree.proofs.tree.AirTree.leaves.Goals as goal

found : (c : goal.After-as_slice) → AreLeaves c.args.self.now c.as_slice.result.now
found c =
    are_leaves c.args.self.now c.as_slice.result.now
    (c.as_slice.ensures ∙ c.self.invariant.leaves ∙ ap (λ (t : Tree). all_leaves t) c.self.view_is)

pub returns-clause-rising : goal.returns-clause-rising
returns-clause-rising c = (found c).rising

pub returns-clause-leaves : goal.returns-clause-leaves
returns-clause-leaves c = (found c).leaves

pub returns-clause-sections : goal.returns-clause-sections
returns-clause-sections c = (found c).sections
