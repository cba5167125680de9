-- Two sections in a row, of which one pair of sizes is not there.
use Rattle.std.specs.Prelude.{ℕ, List, [], ◌∷◌, ◌++◌, codes, Some, None}
use Rattle.duct_units.specs.declared.side.Side.TheVariants.{Supply}
use Rattle.duct_definitions.specs.declared.design.Design.{Design}
use Rattle.duct_definitions.specs.Network.{Network}
use Rattle.worked_designs.specs.Entries.{pair, fan, section, network_of}

-- j2 beside k2 is not there
abbrev pub network : Network
network = network_of (codes "duo")
    (fan (codes "f1") 60 0 ∷ [])
    (section (codes "m") Supply None (codes "k1" ∷ codes "k2" ∷ []) (pair 20 100 ∷ pair 10 110 ∷ [])
    ∷ section (codes "a") Supply (Some 0) (codes "j1" ∷ codes "j2" ∷ [])
    (pair 50 10 ∷ pair 30 20 ∷ pair 30 40 ∷ None ∷ [])
    ∷ [])

-- k2 with j1 costs 130; k1 with j2 would cost 140, and k1 with j1 loses 70 dPa
abbrev pub design : Design
design = record { fan = 0; back = None; sizes = 1 ∷ 0 ∷ [] }

-- the text of the design, line by line
abbrev pub printed : List ℕ
printed =
    codes "design 1\n"
    ++ codes "project duo\n"
    ++ codes "fan f1 60 0\n"
    ++ codes "supply 40 60\n"
    ++ codes "return 0 0\n"
    ++ codes "section m k2 10 110 20\n"
    ++ codes "section a j1 30 20 0\n"
    ++ codes "cost 130\n"
    ++ codes "end\n"
