-- The catalogues of sizes and fittings, and the sizes of a list.
--   Catalogues              sizes with their friction, and fittings
--   HasFriction             the friction was read for these sizes
--   numbers_named c list    the numbers of the sizes of the list with the name; none where no list has it
--   size_at c n             the size with the number
use Rattle.std.specs.Prelude.{◌≡◌, ℕ, List, [], length, slice_get, unwrap_or}
use Rattle.std.specs.Option.{option_map_or}
use Rattle.name_index.specs.Places.{place_of}
use Rattle.size_catalogue.specs.Catalogue.{Catalogue, numbers_of}
use Rattle.size_catalogue.specs.declared.row.Size.{Size}
use Rattle.friction_table.specs.declared.row.FlowRate.{FlowRate}
use Rattle.fitting_tables.specs.Fittings.{Tables}

-- the sizes with their friction, and the fittings
pub record Catalogues : Type 0 where
  pub sizes : Catalogue
  pub friction : List (List FlowRate)
  pub fittings : Tables

-- the friction was read for these sizes
abbrev pub HasFriction : Catalogue → List (List FlowRate) → Type 0
HasFriction sizes friction = length friction ≡ length sizes.sizes

-- the numbers of the sizes of the list with the name, rising; none where no list has the name
abbrev pub numbers_named : Catalogue → List ℕ → List ℕ
numbers_named sizes list = option_map_or (λ j. numbers_of j sizes.sizes) (place_of list sizes.lists) []

-- what stands in place of a size that is not there
abbrev pub no_size : Size
no_size = record { name = []; list = 0; area = 0; height = 0; metre = 0; join = 0; step = 0 }

-- the size with the number
abbrev pub size_at : Catalogue → ℕ → Size
size_at sizes number = unwrap_or (slice_get sizes.sizes number) no_size
