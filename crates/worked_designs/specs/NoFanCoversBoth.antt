-- A supply and a return section, and a fan that gives less than both lose together.
use Rattle.std.specs.Prelude.{ℕ, List, [], ◌∷◌, ◌++◌, codes, Some}
use Rattle.duct_definitions.specs.declared.design.Design.{Design}
use Rattle.duct_definitions.specs.Network.{Network}
use Rattle.worked_designs.specs.Entries.{fan, with_return_fans}
use Rattle.worked_designs.specs.TwoFansCheaper.{ends}

-- f1 gives 100 dPa of the 120 that both sides lose, and g1 gives 50 of 60
abbrev pub network : Network
network = with_return_fans (codes "ends")
    (fan (codes "f1") 100 10 ∷ [])
    (fan (codes "g1") 50 5 ∷ fan (codes "g2") 60 8 ∷ [])
    ends

-- f1 with g2
abbrev pub design : Design
design = record { fan = 0; back = Some 1; sizes = 0 ∷ 0 ∷ [] }

-- the text of the design, line by line
abbrev pub printed : List ℕ
printed =
    codes "design 2\n"
    ++ codes "project ends\n"
    ++ codes "fan f1 100 10\n"
    ++ codes "return-fan g2 60 8\n"
    ++ codes "supply 60 100\n"
    ++ codes "return 60 60\n"
    ++ codes "section a k1 60 10 40\n"
    ++ codes "section r k1 60 10 0\n"
    ++ codes "cost 38\n"
    ++ codes "end\n"
