-- The material list of a design: its sizes in order of first use, and what the sections of each take together.
--   Measured                 a listed section, and its length
--   without name names       the other names
--   order_of_use names       the names, each where it stands first
--   listed_in size sections  the sections that are listed in the size
--   size_use sections size   their count, length and price
--   uses sections            those of each size, in order of first use
--   take_off lengths l       the material list of the fields l
--   fans_cost l              what the listed fans cost
--   sections_price l         what the listed sections cost
--   AddsUp lengths l t       all sizes of t together take what all sections do
use Rattle.std.specs.Prelude.{◌≡◌, ℕ, ◌+◌, List, [], ◌∷◌, length, map, filter, not, sum, sum_by, Option, Some, None}
use Rattle.std.specs.List.{zip}
use Rattle.std.specs.Str.{bytes_eq}
use Rattle.duct_definitions.specs.declared.listed.Listed.{Listed}
use Rattle.duct_definitions.specs.declared.listed.ListedFan.{ListedFan}
use Rattle.duct_definitions.specs.declared.listed.ListedSection.{ListedSection}
use Rattle.material_takeoff.specs.declared.record.SizeUse.{SizeUse}
use Rattle.material_takeoff.specs.declared.record.TakeOff.{TakeOff}

-- a listed section, and its length
abbrev pub Measured : Type 0
Measured = ListedSection × ℕ

-- the other names
abbrev pub without : List ℕ → List (List ℕ) → List (List ℕ)
without name names = filter (λ other. not (bytes_eq name other)) names

-- the names, each once, where it stands first
abbrev pub order_of_use : List (List ℕ) → List (List ℕ)
order_of_use [] = []
order_of_use (name ∷ names) = name ∷ without name (order_of_use names)

-- the sections that are listed in the size
abbrev pub listed_in : List ℕ → List Measured → List Measured
listed_in size sections = filter (λ s. bytes_eq size s.0.size) sections

-- what the sections that are listed in the size take together
abbrev pub size_use : List Measured → List ℕ → SizeUse
size_use sections size = record {
  name = size;
  count = length (listed_in size sections);
  length = sum_by (λ s. s.1) (listed_in size sections);
  price = sum_by (λ s. s.0.price) (listed_in size sections);
}

-- what sections of these lengths take of each size
abbrev pub uses : List Measured → List SizeUse
uses sections = map (size_use sections) (order_of_use (map (λ s. s.0.size) sections))

-- the material list of the listed sections, which have these lengths
abbrev pub take_off : List ℕ → Listed → TakeOff
take_off lengths l = record { sizes = uses (zip l.sections lengths) }

-- what the return fan costs, 0 where there is none
abbrev pub return_fan_cost : Option ListedFan → ℕ
return_fan_cost None = 0
return_fan_cost (Some fan) = fan.cost

-- what the listed fans cost
abbrev pub fans_cost : Listed → ℕ
fans_cost l = l.fan_cost + return_fan_cost l.back

-- what the listed sections cost
abbrev pub sections_price : Listed → ℕ
sections_price l = sum_by (λ s. s.price) l.sections

-- all sizes together take what all sections do
pub record AddsUp (lengths : List ℕ) (l : Listed) (t : TakeOff) : Type 0 where
  pub total_count : sum_by (λ u. u.count) t.sizes ≡ length l.sections
  pub total_length : sum_by (λ u. u.length) t.sizes ≡ sum lengths
  pub total_price : sum_by (λ u. u.price) t.sizes ≡ sections_price l
