-- The sizes of a section of a network file, and its pairs, each of a size and a size of its neighbour.
--   size_count          how many sizes the section has
--   neighbour_count     how many sizes its neighbour has; none at the fan
--   row_of              what a pair says, where it has the form and lies within its bounds
--   pair_cells          the pairs of a section in cells, by its size and then by its neighbour's
use Rattle.std.specs.Prelude.{ℕ, ◌+◌, ◌-◌, ◌*◌, List, [], ◌∷◌, ◌++◌, map, length, nat_le, Bool, true, not, ◌==◌, Option, Some, None, option_map, is_some, unwrap_or, slice_get, ◌&&◌, if◌then◌else◌}
use Rattle.std.specs.List.{list_any, filter_map, range_with_len}
use Rattle.toml.specs.Data.{Data, as_integer}
use Rattle.duct_units.specs.declared.fault.Reason.TheVariants.{Empty, TooMany, Twice, Pair}
use Rattle.duct_units.specs.Rules.{Rule, at_section}
use Rattle.duct_definitions.specs.declared.design.Pair.{Pair as PairData}
use Rattle.duct_definitions.specs.declared.limits.TheConstants.{MAX_SIZES, MAX_LOSS, MAX_PRICE}
use Rattle.name_index.specs.Places.{is_among}
use Rattle.duct_units.specs.Options.{◌>>=◌}
use Rattle.file_definitions.specs.Document.{bounded}
use Rattle.file_definitions.specs.Elements.{each}
use Rattle.network_file.specs.declared.pairs.TheConstants.{MAX_PAIRS}
use Rattle.network_file.specs.declared.pairs.PairRow.{PairRow}
use Rattle.network_file.specs.declared.sizes_and_pairs.AllSizesAndPairs.{AllSizesAndPairs}
use Rattle.network_file.specs.declared.sizes_and_pairs.SizesAndPairs.{SizesAndPairs}
use Rattle.section_tables.specs.Neighbours.{neighbour_of}
use Rattle.network_file.specs.SectionTables.{SectionEntry, tree_sections}

-- how many sizes section s has
abbrev pub section_size_count : List SectionEntry → ℕ → ℕ
section_size_count sections s = unwrap_or (option_map (λ section. length section.sizes) (slice_get sections s)) 0

-- how many sizes the neighbour has; none at the fan
abbrev pub neighbour_size_count : List SectionEntry → SectionEntry → Option ℕ
neighbour_size_count sections section = option_map (section_size_count sections) (neighbour_of (tree_sections sections) section.tree)

-- the number of a size of so many, from 0; the file counts it from 1
abbrev pub size_in : ℕ → Data → Option ℕ
size_in count value = option_map (λ n. n - 1) (bounded 1 count (as_integer value))

-- the number of the neighbour's size, which the file writes as 0 at the fan
abbrev pub neighbour_size_in : Option ℕ → Data → Option ℕ
neighbour_size_in None value = bounded 0 0 (as_integer value)
neighbour_size_in (Some count) value = size_in count value

-- four integers: a size, a neighbour's size, a loss and a price, each within its bounds
abbrev pub row_of : ℕ → Option ℕ → List Data → Option PairRow
row_of size_count neighbour_count (a ∷ b ∷ c ∷ d ∷ []) = do
  size ← size_in size_count a
  neighbour_size ← neighbour_size_in neighbour_count b
  loss ← bounded 0 MAX_LOSS (as_integer c)
  price ← bounded 0 MAX_PRICE (as_integer d)
  Some (record { size = size; neighbour_size = neighbour_size; pair = record { loss = loss; price = price } })
row_of size_count neighbour_count values = None

-- the two pairs are of the same size and the same neighbour's size
abbrev pub same_sizes : PairRow → PairRow → Bool
same_sizes row other = (row.size == other.size) && (row.neighbour_size == other.neighbour_size)

-- what those pairs say that have this form
abbrev pub rows_of : ℕ → Option ℕ → List (List Data) → List PairRow
rows_of size_count neighbour_count pairs = filter_map (row_of size_count neighbour_count) pairs

-- no earlier pair is of the same two sizes
abbrev pub is_new : List PairRow → Option PairRow → Bool
is_new earlier None = true
is_new earlier (Some row) = not (list_any (same_sizes row) earlier)

-- a name of the n-th section's sizes is none of those before it
abbrev pub size_name_rules : ℕ → List (List ℕ) → List ℕ → List Rule
size_name_rules n before name = at_section n (not (is_among name before)) Twice ∷ []

-- the n-th section has 1 to 24 sizes, no two of one name
abbrev pub all_size_rules : ℕ → List (List ℕ) → List Rule
all_size_rules n sizes =
    at_section n (nat_le 1 (length sizes)) Empty
    ∷ at_section n (nat_le (length sizes) MAX_SIZES) TooMany
    ∷ each (size_name_rules n) sizes

-- a pair of the n-th section has the form, and other sizes than those before it
abbrev pub pair_rules : ℕ → ℕ → Option ℕ → List (List Data) → List Data → List Rule
pair_rules n size_count neighbour_count before pair =
    at_section n (is_some (row_of size_count neighbour_count pair)) Pair
    ∷ at_section n (is_new (rows_of size_count neighbour_count before) (row_of size_count neighbour_count pair)) Twice
    ∷ []

-- the n-th section has at most 576 pairs, each of which is in order
abbrev pub all_pair_rules : ℕ → ℕ → Option ℕ → List (List Data) → List Rule
all_pair_rules n size_count neighbour_count pairs =
    at_section n (nat_le (length pairs) MAX_PAIRS) TooMany ∷ each (pair_rules n size_count neighbour_count) pairs

-- the sizes of the n-th section, and then its pairs
abbrev pub size_and_pair_rules : ℕ → Option ℕ → SectionEntry → List Rule
size_and_pair_rules n neighbour_count section =
    all_size_rules n section.sizes ++ all_pair_rules n (length section.sizes) neighbour_count section.pairs

-- the same of the section that stands after these
abbrev pub size_and_pair_rules_after : List SectionEntry → List SectionEntry → SectionEntry → List Rule
size_and_pair_rules_after sections before section =
    size_and_pair_rules (length before + 1) (neighbour_size_count sections section) section

-- the sizes and the pairs of each section in order
abbrev pub all_size_and_pair_rules : List SectionEntry → List Rule
all_size_and_pair_rules sections = each (size_and_pair_rules_after sections) sections

-- the neighbour's number of sizes, and 1 at the fan
abbrev pub columns_of : Option ℕ → ℕ
columns_of neighbour_count = unwrap_or neighbour_count 1

-- where a pair stands among those of its section: by its size, then by its neighbour's
abbrev pub cell_of : ℕ → PairRow → ℕ
cell_of columns row = row.size * columns + row.neighbour_size

-- the pair that stands in the cell, or none
abbrev pub pair_in : ℕ → List PairRow → ℕ → Option PairData
pair_in columns [] cell = None
pair_in columns (row ∷ rows) cell = if cell_of columns row == cell then Some row.pair else pair_in columns rows cell

-- the cells of a section with so many sizes, in so many columns
abbrev pub cells_of : ℕ → ℕ → List PairRow → List (Option PairData)
cells_of size_count columns rows = map (pair_in columns rows) (range_with_len 0 (size_count * columns))

-- the pairs of a section in cells
abbrev pub pair_cells : Option ℕ → SectionEntry → List (Option PairData)
pair_cells neighbour_count section =
    let size_count = length section.sizes in
    cells_of size_count (columns_of neighbour_count) (rows_of size_count neighbour_count section.pairs)

-- the sizes and the pairs of a section
abbrev pub sizes_and_pairs : Option ℕ → SectionEntry → SizesAndPairs
sizes_and_pairs neighbour_count section = record { sizes = section.sizes; pairs = pair_cells neighbour_count section }

-- the pairs of one of these sections
abbrev pub pairs_of_section : List SectionEntry → SectionEntry → List (Option PairData)
pairs_of_section sections section = pair_cells (neighbour_size_count sections section) section

-- of each section its sizes and its pairs
abbrev pub all_sizes_and_pairs : List SectionEntry → AllSizesAndPairs
all_sizes_and_pairs sections = record {
  sizes = map (λ section. section.sizes) sections;
  pairs = map (pairs_of_section sections) sections;
}
