-- Whether the catalogues have what the sections of a project name, in the order in which it is tested.
--   table_of_row c row           the number of the fitting table of the section's junction, or none
--   preset_place c list name     the place, in the list, of the size with the name; none where the list has no such size
--   joining_rules p c            the rules of all sections: the list, the fitting table and the preset of each
use Rattle.std.specs.Prelude.{ℕ, ◌+◌, ◌==◌, List, [], ◌∷◌, Bool, ◌||◌, Option, is_some, is_none, option_and_then}
use Rattle.std.specs.List.{position_from, flat_map}
use Rattle.duct_units.specs.declared.fault.Reason.TheVariants.{UnknownList, UnknownTable, UnknownPreset}
use Rattle.duct_units.specs.Rules.{Rule, at_section}
use Rattle.duct_definitions.specs.Tree.{sections}
use Rattle.name_index.specs.Places.{place_of, is_among}
use Rattle.size_catalogue.specs.Catalogue.{Catalogue, names_of}
use Rattle.project_file.specs.declared.project.Project.{Project}
use Rattle.project_file.specs.declared.section_row.SectionRow.{SectionRow}
use Rattle.net_build.specs.Catalogues.{Catalogues, numbers_named}
use Rattle.net_build.specs.Rows.{row_at}

-- the place, from 0, of the number among the numbers
abbrev pub place_among : ℕ → List ℕ → Option ℕ
place_among number numbers = position_from (λ n. n == number) 0 numbers

-- the place, in the list, of the size with the name; none where the list has no such size
abbrev pub preset_place : Catalogue → List ℕ → List ℕ → Option ℕ
preset_place sizes list name =
    option_and_then (λ number. place_among number (numbers_named sizes list)) (place_of name (names_of sizes.sizes))

-- the number of the fitting table of the section's junction; none where it has no junction, or no table has the name
abbrev pub table_of_row : Catalogues → SectionRow → Option ℕ
table_of_row c row = option_and_then (λ name. place_of name c.fittings.names) row.junction

-- the place, in the section's list, of the size that it presets; none where it presets none, or the list has no such
-- size
abbrev pub preset_of_row : Catalogues → SectionRow → Option ℕ
preset_of_row c row = option_and_then (preset_place c.sizes row.list) row.preset

-- what a name stands for was found, or there is no name
abbrev pub is_joined : Option (List ℕ) → Option ℕ → Bool
is_joined name found = is_none name || is_some found

-- section n, counted from 1: its list is in the catalogue; so is the fitting table of its junction, and its preset is
-- one of its list, where it has them
abbrev pub rules_of_row : Catalogues → ℕ → SectionRow → List Rule
rules_of_row c n row =
    at_section n (is_among row.list c.sizes.lists) UnknownList
    ∷ at_section n (is_joined row.junction (table_of_row c row)) UnknownTable
    ∷ at_section n (is_joined row.preset (preset_of_row c row)) UnknownPreset
    ∷ []

-- the rules of section s
abbrev pub rules_of_section : Project → Catalogues → ℕ → List Rule
rules_of_section p c s = rules_of_row c (s + 1) (row_at p s)

-- the rules of all sections, in order
abbrev pub joining_rules : Project → Catalogues → List Rule
joining_rules p c = flat_map (rules_of_section p c) (sections p.tree)
