-- One section, and no fan on offer.
use Rattle.std.specs.Prelude.{ℕ, List, [], ◌∷◌, ◌++◌, codes, None}
use Rattle.duct_units.specs.declared.side.Side.TheVariants.{Supply}
use Rattle.duct_definitions.specs.Network.{Network}
use Rattle.worked_designs.specs.Entries.{pair, section, network_of}

-- a section, and an empty list of fans
abbrev pub network : Network
network = network_of (codes "one") []
    (section (codes "a") Supply None (codes "k1" ∷ []) (pair 60 500 ∷ [])
    ∷ [])

-- the text where no design meets the rules
abbrev pub printed : List ℕ
printed =
    codes "design 1\n"
    ++ codes "project one\n"
    ++ codes "none\n"
    ++ codes "end\n"
