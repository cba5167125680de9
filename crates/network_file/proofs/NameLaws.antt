-- The names of a section's sizes: their form, and whether one is among others.
use Rattle.std.proofs.Common.{◌≡◌, ℕ, ◌+◌, List, [], ◌∷◌, map, true, false, ◌||◌, cond, Option, Some, None, option_map, is_some, IsTrue, refl, ap, ◌∙◌, sym}
use Rattle.std.specs.Prelude.{slice_get, unwrap_or, option_and_then, codes}
use Rattle.std.specs.List.{list_any}
use Rattle.std.specs.Str.{bytes_eq}
use Rattle.std.proofs.lemmas.Option.{slice_get-map}
use Rattle.toml.specs.Data.{Data, Members, as_str}
use Rattle.duct_units.specs.Name.{is_name}
use Rattle.file_definitions.specs.Document.{items_at, all_of, name_in}
use Rattle.file_definitions.proofs.KindLaws.{all_of-at}
use Rattle.name_index.specs.Places.{place_of, is_among}
use Rattle.network_file.specs.SectionTables.{SectionEntry, entry_of}
use Rattle.section_tables.proofs.NameLaws.{name_is}

-- each name of an array of names has the form
pub named_values : (values : List Data) (k : ℕ) (name : List ℕ) → slice_get (unwrap_or (all_of name_in values) []) k ≡ Some name → IsTrue (is_name name)
named_values values k name at = of_all (all_of name_in values) refl at
  where
    of_value : (o : Option Data) → option_and_then name_in o ≡ Some name → IsTrue (is_name name)
    of_value None e = cc
    of_value (Some value) e = name_is (as_str value) name e

    of_all : (o : Option (List (List ℕ))) → all_of name_in values ≡ o → slice_get (unwrap_or o []) k ≡ Some name → IsTrue (is_name name)
    of_all None is e = cc
    of_all (Some names) is e = of_value (slice_get values k) (all_of-at name_in values names k is ∙ e)

-- the names of a section's sizes have the form
pub size_form : (tables : List Members) (s k : ℕ) (section : SectionEntry) (name : List ℕ) → slice_get (map entry_of tables) s ≡ Some section → slice_get section.sizes k ≡ Some name → IsTrue (is_name name)
size_form tables s k section name at is = of_table (slice_get tables s) (sym (slice_get-map entry_of tables s) ∙ at)
  where
    of_items : (o : Option (List Data)) → slice_get (unwrap_or (option_and_then (all_of name_in) o) []) k ≡ Some name → IsTrue (is_name name)
    of_items None e = cc
    of_items (Some values) e = named_values values k name e

    of_table : (o : Option Members) → option_map entry_of o ≡ Some section → IsTrue (is_name name)
    of_table None e = cc
    of_table (Some table) e =
        let same : entry_of table ≡ section = cc in
        of_items (items_at (codes "sizes") table) (ap (λ (e : SectionEntry). slice_get e.sizes k) same ∙ is)

-- there is a place one further on exactly where there is one
later : (o : Option ℕ) → is_some o ≡ is_some (option_map (λ p. p + 1) o)
later None = refl
later (Some p) = refl

-- a name is among those of which one has its bytes
pub any_is_among : (name : List ℕ) (names : List (List ℕ)) → list_any (λ other. bytes_eq other name) names ≡ is_among name names
any_is_among name [] = refl
any_is_among name (first ∷ names) =
    elim (bytes_eq first name) as (λ b. (b || list_any (λ other. bytes_eq other name) names) ≡ is_some (cond b (Some 0) (option_map (λ p. p + 1) (place_of name names))))
    [ true ↦ refl | false ↦ any_is_among name names ∙ later (place_of name names) ]
