-- One supply section, and a return fan that costs nothing.
use Rattle.std.specs.Prelude.{ℕ, List, [], ◌∷◌, ◌++◌, codes, None}
use Rattle.duct_units.specs.declared.side.Side.TheVariants.{Supply}
use Rattle.duct_definitions.specs.declared.design.Design.{Design}
use Rattle.duct_definitions.specs.Network.{Network}
use Rattle.worked_designs.specs.Entries.{pair, fan, section, with_return_fans}

-- f1 covers the one section, and g1 costs nothing
abbrev pub network : Network
network = with_return_fans (codes "one")
    (fan (codes "f1") 60 100 ∷ [])
    (fan (codes "g1") 10 0 ∷ [])
    (section (codes "a") Supply None (codes "k1" ∷ []) (pair 60 500 ∷ [])
    ∷ [])

-- f1 alone
abbrev pub design : Design
design = record { fan = 0; back = None; sizes = 0 ∷ [] }

-- the text of the design, line by line
abbrev pub printed : List ℕ
printed =
    codes "design 1\n"
    ++ codes "project one\n"
    ++ codes "fan f1 60 100\n"
    ++ codes "supply 60 60\n"
    ++ codes "return 0 0\n"
    ++ codes "section a k1 60 500 0\n"
    ++ codes "cost 600\n"
    ++ codes "end\n"
