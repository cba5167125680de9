-- The same section, and a fan that gives 1 dPa less than it loses.
use Rattle.std.specs.Prelude.{ℕ, List, [], ◌∷◌, ◌++◌, codes, None}
use Rattle.duct_units.specs.declared.side.Side.TheVariants.{Supply}
use Rattle.duct_definitions.specs.Network.{Network}
use Rattle.worked_designs.specs.Entries.{pair, fan, section, network_of}

-- the section loses 60 dPa, and the fan gives 59
abbrev pub network : Network
network = network_of (codes "one")
    (fan (codes "f1") 59 100 ∷ [])
    (section (codes "a") Supply None (codes "k1" ∷ []) (pair 60 500 ∷ [])
    ∷ [])

-- the text where no design meets the rules
abbrev pub printed : List ℕ
printed =
    codes "design 1\n"
    ++ codes "project one\n"
    ++ codes "none\n"
    ++ codes "end\n"
