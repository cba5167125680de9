-- A supply and a return section, and two return fans that cost the same.
use Rattle.std.specs.Prelude.{ℕ, List, [], ◌∷◌, ◌++◌, codes, Some}
use Rattle.duct_definitions.specs.declared.design.Design.{Design}
use Rattle.duct_definitions.specs.Network.{Network}
use Rattle.worked_designs.specs.Entries.{fan, with_return_fans}
use Rattle.worked_designs.specs.TwoFansCheaper.{ends}

-- g1 and g2 cost 5 each
abbrev pub network : Network
network = with_return_fans (codes "ends")
    (fan (codes "f1") 60 10 ∷ [])
    (fan (codes "g1") 70 5 ∷ fan (codes "g2") 60 5 ∷ [])
    ends

-- f1 with g1
abbrev pub design : Design
design = record { fan = 0; back = Some 0; sizes = 0 ∷ 0 ∷ [] }

-- the text of the design, line by line
abbrev pub printed : List ℕ
printed =
    codes "design 2\n"
    ++ codes "project ends\n"
    ++ codes "fan f1 60 10\n"
    ++ codes "return-fan g1 70 5\n"
    ++ codes "supply 60 60\n"
    ++ codes "return 60 70\n"
    ++ codes "section a k1 60 10 0\n"
    ++ codes "section r k1 60 10 10\n"
    ++ codes "cost 35\n"
    ++ codes "end\n"
