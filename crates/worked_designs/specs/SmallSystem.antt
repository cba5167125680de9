-- A main section with two branches, two sizes for each, and a more expensive design beside the best one.
use Rattle.std.specs.Prelude.{ℕ, List, [], ◌∷◌, ◌++◌, codes, Some, None}
use Rattle.duct_units.specs.declared.side.Side.TheVariants.{Supply}
use Rattle.duct_definitions.specs.declared.design.Design.{Design}
use Rattle.duct_definitions.specs.Network.{Network}
use Rattle.worked_designs.specs.Entries.{pair, fan, section, network_of}

-- the sizes on offer for each section
abbrev pub round : List (List ℕ)
round = codes "R1" ∷ codes "R2" ∷ []

-- of a branch the pairs of R1 beside the main section's R1 and R2, then those of R2
abbrev pub network : Network
network = network_of (codes "small")
    (fan (codes "F1") 400 42500 ∷ fan (codes "F2") 900 63750 ∷ [])
    (section (codes "main") Supply None round (None ∷ pair 109 30800 ∷ [])
    ∷ section (codes "left") Supply (Some 0) round
    (pair 352 10500 ∷ pair 487 10800 ∷ pair 185 16200 ∷ pair 185 15800 ∷ [])
    ∷ section (codes "right") Supply (Some 0) round (None ∷ None ∷ pair 283 61200 ∷ pair 283 60800 ∷ [])
    ∷ [])

-- the best design
abbrev pub design : Design
design = record { fan = 0; back = None; sizes = 1 ∷ 1 ∷ 1 ∷ [] }

-- the text of the design, line by line
abbrev pub printed : List ℕ
printed =
    codes "design 1\n"
    ++ codes "project small\n"
    ++ codes "fan F1 400 42500\n"
    ++ codes "supply 392 400\n"
    ++ codes "return 0 0\n"
    ++ codes "section main R2 109 30800 8\n"
    ++ codes "section left R2 185 15800 98\n"
    ++ codes "section right R2 283 60800 0\n"
    ++ codes "cost 149900\n"
    ++ codes "end\n"

-- the cheaper size on the left needs the greater fan
abbrev pub second_design : Design
second_design = record { fan = 1; back = None; sizes = 1 ∷ 0 ∷ 1 ∷ [] }

-- its text, line by line
abbrev pub second_printed : List ℕ
second_printed =
    codes "design 1\n"
    ++ codes "project small\n"
    ++ codes "fan F2 900 63750\n"
    ++ codes "supply 596 900\n"
    ++ codes "return 0 0\n"
    ++ codes "section main R2 109 30800 304\n"
    ++ codes "section left R1 487 10800 0\n"
    ++ codes "section right R2 283 60800 204\n"
    ++ codes "cost 166150\n"
    ++ codes "end\n"
