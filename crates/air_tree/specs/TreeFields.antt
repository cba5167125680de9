-- The fields of a tree: its neighbours and sides, and the lists that follow from them.
use Rattle.std.specs.Prelude.{◌≡◌, map}
use Rattle.duct_units.specs.declared.side.Side.TheVariants.{Supply, Return}
use Rattle.duct_definitions.specs.Tree.{Tree, IsTree, sections, children, all_leaves, roots}
use Rattle.air_tree.specs.declared.tree.AirTree.TheInside.{Inside}

-- the tree of these neighbours and sides
abbrev pub tree_of : Inside → Tree
tree_of a = record { neighbours = a.neighbours; sides = a.sides }

-- the rules hold, and each list is what its name says
pub record IsIndexed (a : Inside) : Type 0 where
  pub tree : IsTree (tree_of a)
  pub children : a.child_lists ≡ map (children (tree_of a)) (sections (tree_of a))
  pub leaves : a.leaf_list ≡ all_leaves (tree_of a)
  pub supply : a.supply_roots ≡ roots (tree_of a) Supply
  pub back : a.return_roots ≡ roots (tree_of a) Return
