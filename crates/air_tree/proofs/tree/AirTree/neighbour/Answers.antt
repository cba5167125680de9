use Rattle.std.proofs.Common.{◌<◌, sym, subst, None}
use Rattle.std.proofs.lemmas.Option.{unwrap_or-slice_get}
use Rattle.duct_definitions.specs.Tree.{Tree, section_count}
use Rattle.duct_definitions.proofs.TreeLaws.{neighbour_earlier}
use Rattle.air_tree.specs.TreeFields.{tree_of}
use Rattle.air_tree.proofs.tree.AirTree.neighbour.Goals as goal

pub returns-clause-earlier : goal.returns-clause-earlier
returns-clause-earlier c =
    let t : Tree = tree_of c.self.inside in
    let within : c.args.s < section_count t = subst (λ (v : Tree). c.args.s < section_count v) (sym c.self.view_is)
    c.requires in
    rw (c.as_slice.ensures, ← unwrap_or-slice_get c.self.inside.neighbours c.args.s None)
    (neighbour_earlier t c.args.s c.self.invariant.tree within)
