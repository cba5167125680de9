-- What an array at a key holds, where its items are all tables, names or arrays.
use Rattle.std.specs.Prelude.{ℕ, List, [], map, unwrap_or}
use Rattle.toml.specs.Data.{Data, Members, as_table}
use Rattle.toml.specs.View.{view}
use Rattle.toml_fields.specs.declared.tables.Tables.{Tables}
use Rattle.toml_fields.specs.declared.names.Names.{Names}
use Rattle.toml_fields.specs.declared.arrays.Arrays.{Arrays}
use Rattle.file_definitions.specs.Document.{all_of, name_in, items_of}

-- the tables of an array of tables, each with its members
abbrev pub tables_in : Tables → List Members
tables_in tables = unwrap_or (all_of as_table (map view tables.values.now)) []

-- the names of an array of names
abbrev pub names_in : Names → List (List ℕ)
names_in names = unwrap_or (all_of name_in (map view names.values.now)) []

-- the arrays of an array of arrays, each with its items
abbrev pub arrays_in : Arrays → List (List Data)
arrays_in arrays = unwrap_or (all_of items_of (map view arrays.values.now)) []
