use Rattle.std.proofs.Common.{◌<◌, ◌∙◌, ap, sym, subst}
use Rattle.duct_definitions.specs.Tree.{Tree, IsTree, section_count, children}
use Rattle.air_tree.specs.TreeFields.{tree_of}
use Rattle.air_tree.proofs.ListLaws.{child_list, child_list_within, AreChildren, are_children}
use Rattle.air_tree.proofs.tree.AirTree.children.Goals as goal

within : (c : goal.After-as_slice) → c.args.s < section_count (tree_of c.self.inside)
within c = subst (λ (t : Tree). c.args.s < section_count t) (sym c.self.view_is) c.requires

pub bounds-as_slice-s : goal.bounds-as_slice-s
bounds-as_slice-s c =
    child_list_within (tree_of c.self.inside) c.as_slice.result.now c.args.s
    (c.as_slice.ensures ∙ c.self.invariant.children) (within c)

found : (c : goal.After-as_slice-2) → AreChildren c.args.self.now c.args.s c.as_slice-2.result.now
found c =
    let t : Tree = tree_of c.self.inside in
    let list = child_list t c.as_slice.result.now c.args.s c.index-as_slice-s.result
    (c.as_slice.ensures ∙ c.self.invariant.children)
    (subst (λ (u : Tree). c.args.s < section_count u) (sym c.self.view_is) c.requires) c.index-as_slice-s.is in
    are_children c.args.self.now c.args.s c.as_slice-2.result.now
    (subst (λ (u : Tree). IsTree u) c.self.view_is c.self.invariant.tree)
    (c.as_slice-2.ensures ∙ list ∙ ap (λ (u : Tree). children u c.args.s) c.self.view_is)

pub returns-clause-value : goal.returns-clause-value
returns-clause-value c = (found c).value

pub returns-clause-rising : goal.returns-clause-rising
returns-clause-rising c = (found c).rising

pub returns-clause-later : goal.returns-clause-later
returns-clause-later c = (found c).later

pub returns-clause-sections : goal.returns-clause-sections
returns-clause-sections c = (found c).sections

pub returns-clause-few : goal.returns-clause-few
returns-clause-few c = (found c).few
