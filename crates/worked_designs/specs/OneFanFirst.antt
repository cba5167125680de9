-- A supply and a return section, and a fan that costs as much alone as with a return fan.
use Rattle.std.specs.Prelude.{ℕ, List, [], ◌∷◌, ◌++◌, codes, None}
use Rattle.duct_definitions.specs.declared.design.Design.{Design}
use Rattle.duct_definitions.specs.Network.{Network}
use Rattle.worked_designs.specs.Entries.{fan, with_return_fans}
use Rattle.worked_designs.specs.TwoFansCheaper.{ends}

-- f1 gives 120 dPa, and g1 costs nothing
abbrev pub network : Network
network = with_return_fans (codes "ends") (fan (codes "f1") 120 50 ∷ []) (fan (codes "g1") 60 0 ∷ []) ends

-- f1 alone
abbrev pub design : Design
design = record { fan = 0; back = None; sizes = 0 ∷ 0 ∷ [] }

-- the text of the design, line by line
abbrev pub printed : List ℕ
printed =
    codes "design 1\n"
    ++ codes "project ends\n"
    ++ codes "fan f1 120 50\n"
    ++ codes "supply 60 60\n"
    ++ codes "return 60 60\n"
    ++ codes "section a k1 60 10 0\n"
    ++ codes "section r k1 60 10 0\n"
    ++ codes "cost 70\n"
    ++ codes "end\n"
