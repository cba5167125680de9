-- A supply and a return section, and two fans; the later one costs as much as the earlier with a return fan.
use Rattle.std.specs.Prelude.{ℕ, List, [], ◌∷◌, ◌++◌, codes, Some}
use Rattle.duct_definitions.specs.declared.design.Design.{Design}
use Rattle.duct_definitions.specs.Network.{Network}
use Rattle.worked_designs.specs.Entries.{fan, with_return_fans}
use Rattle.worked_designs.specs.TwoFansCheaper.{ends}

-- f1 and g1 cost 50 together, and f2 costs 50
abbrev pub network : Network
network = with_return_fans (codes "ends")
    (fan (codes "f1") 60 20 ∷ fan (codes "f2") 120 50 ∷ [])
    (fan (codes "g1") 60 30 ∷ [])
    ends

-- f1 with g1
abbrev pub design : Design
design = record { fan = 0; back = Some 0; sizes = 0 ∷ 0 ∷ [] }

-- the text of the design, line by line
abbrev pub printed : List ℕ
printed =
    codes "design 2\n"
    ++ codes "project ends\n"
    ++ codes "fan f1 60 20\n"
    ++ codes "return-fan g1 60 30\n"
    ++ codes "supply 60 60\n"
    ++ codes "return 60 60\n"
    ++ codes "section a k1 60 10 0\n"
    ++ codes "section r k1 60 10 0\n"
    ++ codes "cost 70\n"
    ++ codes "end\n"
