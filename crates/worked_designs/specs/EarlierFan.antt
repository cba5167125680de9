-- Two fans, of which the later one gives the same cost with a less worst supply loss.
use Rattle.std.specs.Prelude.{ℕ, List, [], ◌∷◌, ◌++◌, codes, None}
use Rattle.duct_units.specs.declared.side.Side.TheVariants.{Supply}
use Rattle.duct_definitions.specs.declared.design.Design.{Design}
use Rattle.duct_definitions.specs.Network.{Network}
use Rattle.worked_designs.specs.Entries.{pair, fan, section, network_of}

-- f1 with k1 costs 20, and so does f2 with k2
abbrev pub network : Network
network = network_of (codes "fans")
    (fan (codes "f1") 50 10 ∷ fan (codes "f2") 45 0 ∷ [])
    (section (codes "a") Supply None (codes "k1" ∷ codes "k2" ∷ []) (pair 50 10 ∷ pair 40 20 ∷ [])
    ∷ [])

-- f1 with k1
abbrev pub design : Design
design = record { fan = 0; back = None; sizes = 0 ∷ [] }

-- the text of the design, line by line
abbrev pub printed : List ℕ
printed =
    codes "design 1\n"
    ++ codes "project fans\n"
    ++ codes "fan f1 50 10\n"
    ++ codes "supply 50 50\n"
    ++ codes "return 0 0\n"
    ++ codes "section a k1 50 10 0\n"
    ++ codes "cost 20\n"
    ++ codes "end\n"
