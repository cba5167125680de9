use Rattle.std.proofs.Common.{◌∙◌, ap, subst}
use Rattle.duct_units.specs.declared.side.Side.TheVariants.{Supply, Return}
use Rattle.duct_definitions.specs.Tree.{Tree, IsTree, roots}
use Rattle.air_tree.proofs.ListLaws.{AreRoots, are_roots}
use Rattle.air_tree.proofs.tree.AirTree.roots.Goals as goal

supply : (c : goal.After-as_slice) → AreRoots c.args.self.now Supply c.as_slice.result.now
supply c =
    are_roots c.args.self.now Supply c.as_slice.result.now
    (subst (λ (u : Tree). IsTree u) c.self.view_is c.self.invariant.tree)
    (c.as_slice.ensures ∙ c.self.invariant.supply ∙ ap (λ (t : Tree). roots t Supply) c.self.view_is)

back : (c : goal.After-as_slice-in-Return) → AreRoots c.args.self.now Return c.as_slice-in-Return.result.now
back c =
    are_roots c.args.self.now Return c.as_slice-in-Return.result.now
    (subst (λ (u : Tree). IsTree u) c.self.view_is c.self.invariant.tree)
    (c.as_slice-in-Return.ensures ∙ c.self.invariant.back ∙ ap (λ (t : Tree). roots t Return) c.self.view_is)

pub returns-in-Supply-clause-rising : goal.returns-in-Supply-clause-rising
returns-in-Supply-clause-rising c = (supply c).rising

pub returns-in-Supply-clause-sections : goal.returns-in-Supply-clause-sections
returns-in-Supply-clause-sections c = (supply c).sections

pub returns-in-Return-clause-rising : goal.returns-in-Return-clause-rising
returns-in-Return-clause-rising c = (back c).rising

pub returns-in-Return-clause-sections : goal.returns-in-Return-clause-sections
returns-in-Return-clause-sections c = (back c).sections

pub returns-in-Supply-clause-few : goal.returns-in-Supply-clause-few
returns-in-Supply-clause-few c = (supply c).few

pub returns-in-Return-clause-few : goal.returns-in-Return-clause-few
returns-in-Return-clause-few c = (back c).few
