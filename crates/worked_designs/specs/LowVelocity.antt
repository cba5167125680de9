-- The small system where the limit of velocity leaves the main section without a size.
use Rattle.std.specs.Prelude.{ℕ, List, [], ◌∷◌, ◌++◌, codes, Some, None}
use Rattle.duct_units.specs.declared.side.Side.TheVariants.{Supply}
use Rattle.duct_definitions.specs.declared.listed.RuleCount.{RuleCount}
use Rattle.duct_definitions.specs.Network.{Network}
use Rattle.worked_designs.specs.Entries.{pair, fan, section, network_of}
use Rattle.worked_designs.specs.SmallSystem.{round}

-- the main section has no pair left
abbrev pub network : Network
network = network_of (codes "small")
    (fan (codes "F1") 400 42500 ∷ fan (codes "F2") 900 63750 ∷ [])
    (section (codes "main") Supply None round (None ∷ None ∷ [])
    ∷ section (codes "left") Supply (Some 0) round (None ∷ None ∷ pair 185 16200 ∷ pair 185 15800 ∷ [])
    ∷ section (codes "right") Supply (Some 0) round (None ∷ None ∷ pair 283 61200 ∷ pair 283 60800 ∷ [])
    ∷ [])

-- how many pairs each rule refused
abbrev pub refusals : List RuleCount
refusals =
    record { name = codes "preset"; count = 0 }
    ∷ record { name = codes "velocity"; count = 5 }
    ∷ record { name = codes "height"; count = 0 }
    ∷ record { name = codes "taper"; count = 0 }
    ∷ []

-- the text where no design meets the rules
abbrev pub printed : List ℕ
printed =
    codes "design 1\n"
    ++ codes "project small\n"
    ++ codes "none\n"
    ++ codes "refused preset 0\n"
    ++ codes "refused velocity 5\n"
    ++ codes "refused height 0\n"
    ++ codes "refused taper 0\n"
    ++ codes "end\n"
