-- A catalogue with its look-ups: names by number, numbers by name and by list.
use Rattle.std.specs.Prelude.{◌≡◌, ℕ, length, vec_len}
use Rattle.size_catalogue.specs.declared.sizes.Sizes.TheInside.{Inside}
use Rattle.size_catalogue.specs.Numbers.{numbers_at}
use Rattle.size_catalogue.specs.Catalogue.{Catalogue, IsCatalogue, names_of, numbers_of}

-- the catalogue behind the look-ups
abbrev pub catalogue_of : Inside → Catalogue
catalogue_of sizes = record { lists = sizes.lists; sizes = sizes.sizes.items }

-- the sizes' names and the numbers of each list are those of the catalogue, which meets its limits and bounds
pub record IsIndexed (sizes : Inside) : Type 0 where
  pub names : sizes.names ≡ names_of sizes.sizes.items
  pub lists : vec_len sizes.numbers ≡ length sizes.lists
  pub numbers : (j : ℕ) → numbers_at sizes.numbers.items j ≡ numbers_of j sizes.sizes.items
  pub is : IsCatalogue (catalogue_of sizes)
