-- Two sections in a row, of which three pairs of sizes cost and lose the same.
use Rattle.std.specs.Prelude.{ℕ, List, [], ◌∷◌, ◌++◌, codes, Some, None}
use Rattle.duct_units.specs.declared.side.Side.TheVariants.{Supply}
use Rattle.duct_definitions.specs.declared.design.Design.{Design}
use Rattle.duct_definitions.specs.Network.{Network}
use Rattle.worked_designs.specs.Entries.{pair, fan, section, network_of}

-- j1 beside k1 is not there; each other choice loses 40 and costs 15
abbrev pub network : Network
network = network_of (codes "order")
    (fan (codes "f1") 40 0 ∷ [])
    (section (codes "m") Supply None (codes "k1" ∷ codes "k2" ∷ []) (pair 10 10 ∷ pair 20 10 ∷ [])
    ∷ section (codes "a") Supply (Some 0) (codes "j1" ∷ codes "j2" ∷ [])
    (None ∷ pair 20 5 ∷ pair 30 5 ∷ pair 20 5 ∷ [])
    ∷ [])

-- k1 of the first section, although the second then has its later size
abbrev pub design : Design
design = record { fan = 0; back = None; sizes = 0 ∷ 1 ∷ [] }

-- the text of the design, line by line
abbrev pub printed : List ℕ
printed =
    codes "design 1\n"
    ++ codes "project order\n"
    ++ codes "fan f1 40 0\n"
    ++ codes "supply 40 40\n"
    ++ codes "return 0 0\n"
    ++ codes "section m k1 10 10 0\n"
    ++ codes "section a j2 30 5 0\n"
    ++ codes "cost 15\n"
    ++ codes "end\n"
