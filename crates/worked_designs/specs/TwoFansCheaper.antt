-- A supply and a return section, one fan that covers both, and a weaker one that costs less with a return fan.
use Rattle.std.specs.Prelude.{ℕ, List, [], ◌∷◌, ◌++◌, codes, Some, None}
use Rattle.duct_units.specs.declared.side.Side.TheVariants.{Supply, Return}
use Rattle.duct_definitions.specs.declared.design.Design.{Design}
use Rattle.duct_definitions.specs.Network.{Network}
use Rattle.worked_designs.specs.Entries.{Section, pair, fan, section, with_return_fans}

-- a section on each side of the fan
abbrev pub ends : List Section
ends =
    section (codes "a") Supply None (codes "k1" ∷ []) (pair 60 10 ∷ [])
    ∷ section (codes "r") Return None (codes "k1" ∷ []) (pair 60 10 ∷ [])
    ∷ []

-- f1 costs 100; f2 and g1 cost 50 together
abbrev pub network : Network
network = with_return_fans (codes "ends")
    (fan (codes "f1") 120 100 ∷ fan (codes "f2") 60 20 ∷ [])
    (fan (codes "g1") 60 30 ∷ [])
    ends

-- f2 with g1
abbrev pub design : Design
design = record { fan = 1; back = Some 0; sizes = 0 ∷ 0 ∷ [] }

-- the text of the design, line by line
abbrev pub printed : List ℕ
printed =
    codes "design 2\n"
    ++ codes "project ends\n"
    ++ codes "fan f2 60 20\n"
    ++ codes "return-fan g1 60 30\n"
    ++ codes "supply 60 60\n"
    ++ codes "return 60 60\n"
    ++ codes "section a k1 60 10 0\n"
    ++ codes "section r k1 60 10 0\n"
    ++ codes "cost 70\n"
    ++ codes "end\n"
