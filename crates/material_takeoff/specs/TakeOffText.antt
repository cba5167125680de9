-- The printed material list. A field is parted from the next by one space.
use Rattle.std.specs.Prelude.{ℕ, List, [], ◌∷◌, ◌++◌, codes, Option, Some, None}
use Rattle.std.specs.Fmt.{decimal}
use Rattle.std.specs.List.{flat_map}
use Rattle.duct_units.specs.Lines.{line}
use Rattle.duct_definitions.specs.declared.listed.Listed.{Listed}
use Rattle.duct_definitions.specs.declared.listed.ListedFan.{ListedFan}
use Rattle.duct_definitions.specs.declared.listed.ListedSection.{ListedSection}
use Rattle.material_takeoff.specs.declared.record.SizeUse.{SizeUse}
use Rattle.material_takeoff.specs.declared.record.TakeOff.{TakeOff}

-- the line of a size
abbrev pub size_line : SizeUse → List ℕ
size_line u = line (codes "size") (u.name ∷ decimal u.count ∷ decimal u.length ∷ decimal u.price ∷ [])

-- a line of a name and an amount of money, behind its first word
abbrev pub money_line : List ℕ → List ℕ → ℕ → List ℕ
money_line first name cents = line first (name ∷ decimal cents ∷ [])

-- the line of a section
abbrev pub section_line : ListedSection → List ℕ
section_line s = money_line (codes "section") s.name s.price

-- the return fan's line, where there is one
abbrev pub return_fan_line : Option ListedFan → List ℕ
return_fan_line None = []
return_fan_line (Some fan) = money_line (codes "return-fan") fan.name fan.cost

-- the text of a material list and of the fields that it was taken from
abbrev pub takeoff_text : TakeOff → Listed → List ℕ
takeoff_text t l =
    line (codes "takeoff") (codes "1" ∷ [])
    ++ line (codes "project") (l.project ∷ [])
    ++ flat_map size_line t.sizes
    ++ flat_map section_line l.sections
    ++ money_line (codes "fan") l.fan l.fan_cost
    ++ return_fan_line l.back
    ++ line (codes "cost") (decimal l.total ∷ [])
    ++ line (codes "end") []

-- the text where the listed total is not the sum
abbrev pub no_cost_text : List ℕ
no_cost_text = line (codes "takeoff") (codes "no" ∷ codes "cost" ∷ [])
