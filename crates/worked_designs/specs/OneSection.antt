-- One section, and a fan that gives just the pressure that the section loses.
use Rattle.std.specs.Prelude.{ℕ, List, [], ◌∷◌, ◌++◌, codes, None}
use Rattle.duct_units.specs.declared.side.Side.TheVariants.{Supply}
use Rattle.duct_definitions.specs.declared.design.Design.{Design}
use Rattle.duct_definitions.specs.Network.{Network}
use Rattle.worked_designs.specs.Entries.{pair, fan, section, network_of}

-- the section loses 60 dPa, and the fan gives 60
abbrev pub network : Network
network = network_of (codes "one")
    (fan (codes "f1") 60 100 ∷ [])
    (section (codes "a") Supply None (codes "k1" ∷ []) (pair 60 500 ∷ [])
    ∷ [])

-- the one choice, which costs 500 and 100
abbrev pub design : Design
design = record { fan = 0; back = None; sizes = 0 ∷ [] }

-- the text of the design, line by line
abbrev pub printed : List ℕ
printed =
    codes "design 1\n"
    ++ codes "project one\n"
    ++ codes "fan f1 60 100\n"
    ++ codes "supply 60 60\n"
    ++ codes "return 0 0\n"
    ++ codes "section a k1 60 500 0\n"
    ++ codes "cost 600\n"
    ++ codes "end\n"
