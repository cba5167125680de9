use Rattle.std.proofs.Common.{◌≡◌, ◌<◌, List, ℕ, get_or, ap, sym, ◌∙◌, subst}
use Rattle.duct_definitions.specs.Tree.{Tree, IsTree, section_count, neighbour, children}
use Rattle.duct_definitions.specs.Network.{Network, IsNetwork}
use Rattle.child_counter.proofs.Places.{child-at, has-child}
use Rattle.child_counter.proofs.counters.Counters.child.Goals as goal

pub children-requires : goal.children-requires
children-requires c =
    let t : Tree = c.args.self.now.net.tree in
    let net = ap (λ w. w.net) c.self.view_is in
    let tree : IsTree t = (subst IsNetwork net c.tree.ensures.network).tree in
    subst (λ (x : Tree). c.args.s < section_count x) (sym (c.tree.ensures.tree ∙ ap (λ (n : Network). n.tree) net))
    (has-child t c.args.s c.args.j tree c.requires)

pub returns-clause-neighbour : goal.returns-clause-neighbour
returns-clause-neighbour c =
    let t : Tree = c.args.self.now.net.tree in
    let list : c.children.result.now ≡ children t c.args.s =
    c.children.ensures.value ∙ ap (λ x. children x c.args.s) (c.tree.ensures.tree
    ∙ ap (λ w. w.net.tree) c.self.view_is) in
    ap (λ (xs : List ℕ). neighbour t (get_or xs c.args.j 0)) list ∙ child-at t c.args.s c.args.j c.requires
