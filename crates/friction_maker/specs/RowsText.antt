-- The text of made rows, which is a friction file.
use Rattle.std.specs.Prelude.{ℕ, List, [], ◌++◌, codes, slice_get, unwrap_or}
use Rattle.std.specs.Fmt.{decimal}
use Rattle.std.specs.List.{flat_map}
use Rattle.duct_units.specs.Lines.{line}
use Rattle.size_catalogue.specs.Catalogue.{Catalogue, names_of}
use Rattle.friction_maker.specs.declared.making.MadeRow.{MadeRow}

-- the name of a size, by its number
abbrev pub name_of_size : Catalogue → ℕ → List ℕ
name_of_size sizes size = unwrap_or (slice_get (names_of sizes.sizes) size) []

-- three fields, with a comma between each two
abbrev pub separated : List ℕ → List ℕ → List ℕ → List ℕ
separated first second third = first ++ codes "," ++ second ++ codes "," ++ third

-- the line of a row: the name of its size, its airflow and its rate
abbrev pub row_line : Catalogue → MadeRow → List ℕ
row_line sizes row = line (separated (name_of_size sizes row.size) (decimal row.flow) (decimal row.rate)) []

-- a line of the names of the columns, and one for each row
abbrev pub rows_text : Catalogue → List MadeRow → List ℕ
rows_text sizes rows = line (codes "size,flow,rate") [] ++ flat_map (row_line sizes) rows
