-- The two-sided tree, with a fan that covers the supply side alone, and two return fans.
use Rattle.std.specs.Prelude.{ℕ, List, [], ◌∷◌, ◌++◌, codes, Some}
use Rattle.duct_definitions.specs.declared.design.Design.{Design}
use Rattle.duct_definitions.specs.Network.{Network}
use Rattle.worked_designs.specs.Entries.{fan, with_return_fans}
use Rattle.worked_designs.specs.TwoSides.{tree_sections}

-- the tree loses 75 dPa on the supply side and 30 on the return side
abbrev pub network : Network
network = with_return_fans (codes "tree")
    (fan (codes "f1") 80 10 ∷ [])
    (fan (codes "g1") 30 4 ∷ fan (codes "g2") 40 3 ∷ [])
    tree_sections

-- g2, which gives more than g1 and costs less
abbrev pub design : Design
design = record { fan = 0; back = Some 1; sizes = 0 ∷ 0 ∷ 0 ∷ 0 ∷ 0 ∷ 0 ∷ 0 ∷ [] }

-- the text of the design, line by line
abbrev pub printed : List ℕ
printed =
    codes "design 2\n"
    ++ codes "project tree\n"
    ++ codes "fan f1 80 10\n"
    ++ codes "return-fan g2 40 3\n"
    ++ codes "supply 75 80\n"
    ++ codes "return 30 40\n"
    ++ codes "section t k 20 1 5\n"
    ++ codes "section t1 k 10 1 45\n"
    ++ codes "section t2 k 15 1 0\n"
    ++ codes "section t3 k 40 1 0\n"
    ++ codes "section t4 k 5 1 35\n"
    ++ codes "section r1 k 30 1 10\n"
    ++ codes "section r2 k 10 1 30\n"
    ++ codes "cost 20\n"
    ++ codes "end\n"
