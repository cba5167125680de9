-- A supply tree with two branchings and two return sections at the fan, each section in one size.
use Rattle.std.specs.Prelude.{ℕ, List, [], ◌∷◌, ◌++◌, codes, Some, None}
use Rattle.duct_units.specs.declared.side.Side.TheVariants.{Supply, Return}
use Rattle.duct_definitions.specs.declared.design.Design.{Design}
use Rattle.duct_definitions.specs.Network.{Network}
use Rattle.worked_designs.specs.Entries.{Section, pair, fan, section, network_of}

-- the sections of the tree, supply first
abbrev pub tree_sections : List Section
tree_sections =
    section (codes "t") Supply None (codes "k" ∷ []) (pair 20 1 ∷ [])
    ∷ section (codes "t1") Supply (Some 0) (codes "k" ∷ []) (pair 10 1 ∷ [])
    ∷ section (codes "t2") Supply (Some 0) (codes "k" ∷ []) (pair 15 1 ∷ [])
    ∷ section (codes "t3") Supply (Some 2) (codes "k" ∷ []) (pair 40 1 ∷ [])
    ∷ section (codes "t4") Supply (Some 2) (codes "k" ∷ []) (pair 5 1 ∷ [])
    ∷ section (codes "r1") Return None (codes "k" ∷ []) (pair 30 1 ∷ [])
    ∷ section (codes "r2") Return None (codes "k" ∷ []) (pair 10 1 ∷ [])
    ∷ []

-- the tree, and a fan that gives 130 dPa
abbrev pub network : Network
network = network_of (codes "tree") (fan (codes "f1") 130 10 ∷ []) tree_sections

-- the one choice
abbrev pub design : Design
design = record { fan = 0; back = None; sizes = 0 ∷ 0 ∷ 0 ∷ 0 ∷ 0 ∷ 0 ∷ 0 ∷ [] }

-- the text of the design, line by line
abbrev pub printed : List ℕ
printed =
    codes "design 1\n"
    ++ codes "project tree\n"
    ++ codes "fan f1 130 10\n"
    ++ codes "supply 75 100\n"
    ++ codes "return 30 30\n"
    ++ codes "section t k 20 1 25\n"
    ++ codes "section t1 k 10 1 45\n"
    ++ codes "section t2 k 15 1 0\n"
    ++ codes "section t3 k 40 1 0\n"
    ++ codes "section t4 k 5 1 35\n"
    ++ codes "section r1 k 30 1 0\n"
    ++ codes "section r2 k 10 1 20\n"
    ++ codes "cost 17\n"
    ++ codes "end\n"
