-- What the table of a section says of the tree: its name, its side, and its neighbour by name, none at the fan.
use Rattle.std.specs.Prelude.{ℕ, List, codes, map, Option, Some}
use Rattle.toml.specs.Data.{Members}
use Rattle.duct_units.specs.Options.{◌>>=◌}
use Rattle.file_definitions.specs.Document.{name_at}
use Rattle.toml_fields.specs.KeyFields.{optional_name_at}
use Rattle.section_tables.specs.declared.tree_section.TreeSection.{TreeSection}
use Rattle.section_tables.specs.Sides.{side_at}

-- what the table says at the keys `name`, `side` and `neighbour`; none where one of them is missing though it must be
-- there, or of another kind
abbrev pub tree_section_at : Members → Option TreeSection
tree_section_at table = do
  name ← name_at (codes "name") table
  side ← side_at table
  neighbour ← optional_name_at (codes "neighbour") table
  Some (record { name = name; side = side; neighbour = neighbour })

-- the names of the sections
abbrev pub section_names : List TreeSection → List (List ℕ)
section_names sections = map (λ section. section.name) sections
