-- Two fans that cost the same, and two sections at the fan whose sizes all cost the same.
use Rattle.std.specs.Prelude.{ℕ, List, [], ◌∷◌, ◌++◌, codes, None}
use Rattle.duct_units.specs.declared.side.Side.TheVariants.{Supply}
use Rattle.duct_definitions.specs.declared.design.Design.{Design}
use Rattle.duct_definitions.specs.Network.{Network}
use Rattle.worked_designs.specs.Entries.{pair, fan, section, network_of}

-- every choice of sizes costs 15, and the fans cost nothing
abbrev pub network : Network
network = network_of (codes "ties")
    (fan (codes "f1") 60 0 ∷ fan (codes "f2") 45 0 ∷ [])
    (section (codes "a") Supply None (codes "k1" ∷ codes "k2" ∷ codes "k3" ∷ [])
    (pair 50 10 ∷ pair 40 10 ∷ pair 40 10 ∷ [])
    ∷ section (codes "b") Supply None (codes "k1" ∷ codes "k2" ∷ []) (pair 30 5 ∷ pair 10 5 ∷ [])
    ∷ [])

-- f1; then k2, which loses less than k1 and stands before k3; then k1 of the other section
abbrev pub design : Design
design = record { fan = 0; back = None; sizes = 1 ∷ 0 ∷ [] }

-- the text of the design, line by line
abbrev pub printed : List ℕ
printed =
    codes "design 1\n"
    ++ codes "project ties\n"
    ++ codes "fan f1 60 0\n"
    ++ codes "supply 40 60\n"
    ++ codes "return 0 0\n"
    ++ codes "section a k2 40 10 20\n"
    ++ codes "section b k1 30 5 30\n"
    ++ codes "cost 15\n"
    ++ codes "end\n"
