-- A network, written section by section.
--   pair loss price                       a pair that is there; None stands for one that is not
--   fan name pressure cost                a fan on offer
--   section name side neighbour sizes pairs   a section, whose neighbour is a number, or None at the fan
--   network_of name fans sections         the network of these, without a return fan on offer
--   with_return_fans name fans return_fans sections   the same with return fans on offer
use Rattle.std.specs.Prelude.{ℕ, List, [], map, Option, Some}
use Rattle.duct_units.specs.declared.side.Side.{Side}
use Rattle.duct_definitions.specs.declared.design.Pair.{Pair}
use Rattle.duct_definitions.specs.declared.design.NetFan.{NetFan}
use Rattle.duct_definitions.specs.Network.{Network}

-- a section with the names of its sizes, and its pairs in order
pub record Section : Type 0 where
  pub name : List ℕ
  pub side : Side
  pub neighbour : Option ℕ
  pub sizes : List (List ℕ)
  pub pairs : List (Option Pair)

-- a pair that loses and costs so much
abbrev pub pair : ℕ → ℕ → Option Pair
pair loss price = Some (record { loss = loss; price = price })

-- a fan of this name, pressure and cost
abbrev pub fan : List ℕ → ℕ → ℕ → NetFan
fan name pressure cost = record { name = name; pressure = pressure; cost = cost }

-- a section of this name and side, with its neighbour, its sizes and its pairs
abbrev pub section : List ℕ → Side → Option ℕ → List (List ℕ) → List (Option Pair) → Section
section name side neighbour sizes pairs =
    record { name = name; side = side; neighbour = neighbour; sizes = sizes; pairs = pairs }

-- the network of this name, with fans, return fans and sections
abbrev pub with_return_fans : List ℕ → List NetFan → List NetFan → List Section → Network
with_return_fans name fans return_fans sections = record {
  name = name;
  tree = record { neighbours = map (λ s. s.neighbour) sections; sides = map (λ s. s.side) sections };
  names = map (λ s. s.name) sections;
  sizes = map (λ s. s.sizes) sections;
  pairs = map (λ s. s.pairs) sections;
  fans = fans;
  return_fans = return_fans;
}

-- the network of this name, with fans and sections, and no return fan on offer
abbrev pub network_of : List ℕ → List NetFan → List Section → Network
network_of name fans sections = with_return_fans name fans [] sections
