-- A more expensive size of the section saves a more expensive fan.
use Rattle.std.specs.Prelude.{ℕ, List, [], ◌∷◌, ◌++◌, codes, None}
use Rattle.duct_units.specs.declared.side.Side.TheVariants.{Supply}
use Rattle.duct_definitions.specs.declared.design.Design.{Design}
use Rattle.duct_definitions.specs.Network.{Network}
use Rattle.worked_designs.specs.Entries.{pair, fan, section, network_of}

-- k1 is cheap and needs f2; k2 makes do with f1
abbrev pub network : Network
network = network_of (codes "larger")
    (fan (codes "f1") 50 100 ∷ fan (codes "f2") 100 150 ∷ [])
    (section (codes "a") Supply None (codes "k1" ∷ codes "k2" ∷ []) (pair 80 10 ∷ pair 40 30 ∷ [])
    ∷ [])

-- k2 with f1 costs 130, and k1 with f2 would cost 160
abbrev pub design : Design
design = record { fan = 0; back = None; sizes = 1 ∷ [] }

-- the text of the design, line by line
abbrev pub printed : List ℕ
printed =
    codes "design 1\n"
    ++ codes "project larger\n"
    ++ codes "fan f1 50 100\n"
    ++ codes "supply 40 50\n"
    ++ codes "return 0 0\n"
    ++ codes "section a k2 40 30 10\n"
    ++ codes "cost 130\n"
    ++ codes "end\n"
