-- A supply and a return section with the same sizes; the fan covers the cheap size of one of them only.
use Rattle.std.specs.Prelude.{ℕ, List, [], ◌∷◌, ◌++◌, codes, None}
use Rattle.duct_units.specs.declared.side.Side.TheVariants.{Supply, Return}
use Rattle.duct_definitions.specs.declared.design.Design.{Design}
use Rattle.duct_definitions.specs.Network.{Network}
use Rattle.worked_designs.specs.Entries.{pair, fan, section, network_of}

-- the cheap sizes lose 60 dPa each, and the fan gives 110
abbrev pub network : Network
network = network_of (codes "sides")
    (fan (codes "f1") 110 0 ∷ [])
    (section (codes "a") Supply None (codes "k1" ∷ codes "k2" ∷ []) (pair 60 10 ∷ pair 40 30 ∷ [])
    ∷ section (codes "r") Return None (codes "k1" ∷ codes "k2" ∷ []) (pair 60 10 ∷ pair 40 30 ∷ [])
    ∷ [])

-- the supply section has the size that loses less
abbrev pub design : Design
design = record { fan = 0; back = None; sizes = 1 ∷ 0 ∷ [] }

-- the text of the design, line by line
abbrev pub printed : List ℕ
printed =
    codes "design 1\n"
    ++ codes "project sides\n"
    ++ codes "fan f1 110 0\n"
    ++ codes "supply 40 50\n"
    ++ codes "return 60 60\n"
    ++ codes "section a k2 40 30 10\n"
    ++ codes "section r k1 60 10 0\n"
    ++ codes "cost 40\n"
    ++ codes "end\n"
