-- A catalogue of sizes in lists, and how one more row of its file adds to it.
--   Catalogue            the names of the lists, and the sizes, both by number
--   numbers_of j sizes   the numbers of the sizes of list j, rising
--   with_size            the catalogue with one more size; its list is the one of that name, or a new last one
--   IsCatalogue          lists and sizes are within their limits and bounds, and no two have one name
use Rattle.std.specs.Prelude.{ℕ, ◌+◌, ◌<◌, ◌≤◌, ◌==◌, List, [], ◌∷◌, ◌++◌, length, map, All, IsTrue, unwrap_or, if◌then◌else◌}
use Rattle.duct_units.specs.Name.{is_name}
use Rattle.size_catalogue.specs.declared.limits.TheConstants.{MAX_LISTS, MAX_LIST_SIZES, MIN_AREA, MAX_AREA, MIN_HEIGHT, MAX_HEIGHT, MAX_METRE_PRICE, MAX_JOIN_PRICE}
use Rattle.size_catalogue.specs.declared.row.Size.{Size}
use Rattle.size_catalogue.specs.declared.row.SizeRow.{SizeRow}
use Rattle.name_index.specs.Places.{place_of, is_among}
use Rattle.size_catalogue.specs.Places.{EachOnce}

-- the names of the lists, and the sizes, both by number
pub record Catalogue : Type 0 where
  pub lists : List (List ℕ)
  pub sizes : List Size

-- the names of the sizes, by number
abbrev pub names_of : List Size → List (List ℕ)
names_of sizes = map (λ size. size.name) sizes

-- the numbers of those sizes of list j that are numbered from i on
abbrev pub numbers_from : ℕ → ℕ → List Size → List ℕ
numbers_from j i [] = []
numbers_from j i (size ∷ sizes) =
    if size.list == j then i ∷ numbers_from j (i + 1) sizes else numbers_from j (i + 1) sizes

-- the numbers of the sizes of list j, rising
abbrev pub numbers_of : ℕ → List Size → List ℕ
numbers_of j sizes = numbers_from j 0 sizes

-- ---- one more row

-- the number of the list with this name, which is the next one where no list has it
abbrev pub list_number : List ℕ → List (List ℕ) → ℕ
list_number name lists = unwrap_or (place_of name lists) (length lists)

-- the lists, and behind them the one of this name where it is new
abbrev pub lists_with : List ℕ → List (List ℕ) → List (List ℕ)
lists_with name lists = if is_among name lists then lists else lists ++ name ∷ []

-- the size that a row says, in list j
abbrev pub size_in_list : ℕ → SizeRow → Size
size_in_list j row = record {
  name = row.name;
  list = j;
  area = row.area;
  height = row.height;
  metre = row.metre;
  join = row.join;
  step = row.step;
}

-- the catalogue with the size of one more row; its list is the one of that name, or a new last one
abbrev pub with_size : Catalogue → SizeRow → Catalogue
with_size catalogue row = record {
  lists = lists_with row.list catalogue.lists;
  sizes = catalogue.sizes ++ size_in_list (list_number row.list catalogue.lists) row ∷ [];
}

-- ---- limits and bounds

-- the size's name has its form, and each number lies within its bounds
pub record IsSize (size : Size) : Type 0 where
  pub name : IsTrue (is_name size.name)
  pub area : (MIN_AREA ≤ size.area) × (size.area ≤ MAX_AREA)
  pub height : (MIN_HEIGHT ≤ size.height) × (size.height ≤ MAX_HEIGHT)
  pub metre : size.metre ≤ MAX_METRE_PRICE
  pub join : size.join ≤ MAX_JOIN_PRICE
  pub step : size.step ≤ MAX_JOIN_PRICE

-- at most 16 lists of at most 24 sizes, each list with a size, each size in a list and in bounds, and no name given twice
pub record IsCatalogue (catalogue : Catalogue) : Type 0 where
  pub lists_fit : length catalogue.lists ≤ MAX_LISTS
  pub sizes_fit : (j : ℕ) → length (numbers_of j catalogue.sizes) ≤ MAX_LIST_SIZES
  pub lists_used : (j : ℕ) → j < length catalogue.lists → 0 < length (numbers_of j catalogue.sizes)
  pub in_lists : All (λ size. size.list < length catalogue.lists) catalogue.sizes
  pub bounds : All IsSize catalogue.sizes
  pub lists_once : EachOnce catalogue.lists
  pub names_once : EachOnce (names_of catalogue.sizes)
