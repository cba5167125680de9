-- The network of an accepted document is a network.
use Rattle.std.proofs.Common.{◌≡◌, ℕ, suc, zero, ◌+◌, ◌*◌, ◌<◌, ◌≤◌, List, [], ◌∷◌, length, take, map, get_or, true, false, Option, Some, None, option_map, is_some, IsTrue, refl, ap, ◌∙◌, sym, subst, arith}
use Rattle.std.specs.Prelude.{slice_get, unwrap_or, option_and_then, All, codes}
use Rattle.std.proofs.lemmas.Bool.{leb-true}
use Rattle.std.proofs.lemmas.Option.{slice_get-map, slice_get-get_or}
use Rattle.std.proofs.lemmas.List.{length-map}
use Rattle.std.proofs.lemmas.List.Elements.{All-nil}
use Rattle.toml.specs.Data.{Members, get_member, as_integer}
use Rattle.duct_units.specs.Name.{is_name}
use Rattle.duct_units.specs.Rules.{Rule, first_broken, at_file}
use Rattle.duct_units.proofs.RuleLaws.{first_broken-append, both_none, rule_holds}
use Rattle.duct_definitions.specs.Network.{AreNames, AreFans, IsFan, IsNetwork, IsSection, IsBounded, columns, columns_beside, size_count}
use Rattle.duct_definitions.specs.declared.limits.TheConstants.{MAX_PRESSURE, MAX_FAN_COST, MAX_SIZES, MAX_FANS}
use Rattle.duct_units.specs.declared.fault.Reason.TheVariants.{Field}
use Rattle.file_definitions.specs.Document.{name_at, text_at}
use Rattle.network_file.specs.SectionTables.{SectionEntry, entry_of, table_names, section_rules, section_table_rules, all_section_rules, tree_sections, no_tree_section}
use Rattle.network_file.specs.Pairs.{all_size_rules, size_name_rules, all_pair_rules, size_and_pair_rules_after, all_size_and_pair_rules, section_size_count, neighbour_size_count, rows_of, pair_in, columns_of, pairs_of_section}
use Rattle.section_tables.specs.declared.tree_section.TreeSection.{TreeSection}
use Rattle.section_tables.specs.Neighbours.{neighbour_of, all_neighbour_rules, tree_of, neighbour_and_tree_rules}
use Rattle.section_tables.specs.Sides.{side_at}
use Rattle.section_tables.specs.TreeSections.{tree_section_at}
use Rattle.network_file.specs.TopTable.{top_rules, network_name, fan_tables, section_tables}
use Rattle.network_file.proofs.OrderLaws.{after_top, after_fans, after_sections}
use Rattle.network_file.proofs.PartLaws.{is_new_fan, fan_twice, is_new_section, section_twice, entry_names_are}
use Rattle.section_tables.proofs.StepLaws.{named_holds}
use Rattle.network_file.proofs.NeighbourLaws.{neighbour_in_tree}
use Rattle.network_file.proofs.PairLaws.{length-cells_of}
use Rattle.duct_units.specs.declared.side.Side.{Side}
use Rattle.toml_fields.specs.KeyFields.{optional_name_at}
use Rattle.duct_definitions.specs.declared.design.Pair.{Pair}
use Rattle.duct_definitions.specs.declared.design.NetFan.{NetFan}
use Rattle.duct_definitions.specs.Tree.{tree_rules}
use Rattle.std.specs.List.{range_with_len}
use Rattle.network_file.specs.FanTables.{fan_of, fan_names, fan_rules, all_fan_rules, fan_table_rules}
use Rattle.name_index.specs.Places.{is_among}
use Rattle.file_definitions.specs.Elements.{each}
use Rattle.file_definitions.proofs.ElementLaws.{each_holds}
use Rattle.network_file.specs.NetworkFile.{network_rules, network_in, entries}
use Rattle.section_tables.proofs.NameLaws.{distinct_from, name_form, name_is, all_map, are_names, not_true}
use Rattle.network_file.proofs.NameLaws.{size_form}
use Rattle.network_file.proofs.BoundLaws.{number_within, cell_bounded}

abbrev section_with : List ℕ → Side → Option (List ℕ) → TreeSection
section_with name side neighbour = record { name = name; side = side; neighbour = neighbour }

-- the rules of the fan at a place
fan_holds : (tables : List Members) (k : ℕ) (table : Members) → first_broken (each fan_rules tables) ≡ None → slice_get tables k ≡ Some table
    → (is_some (name_at (codes "name") table) ≡ true) × (IsFan (fan_of table)) × (is_among (fan_of table).name (fan_names (take k tables)) ≡ false)
fan_holds tables k table none at =
    let parts = named_holds fan_table_rules is_new_fan fan_twice tables k table none at in
    let keys = rule_holds _ _ _ parts.0 in
    let named = rule_holds _ _ _ keys.1 in
    let pressed = rule_holds _ _ _ named.1 in
    let priced = rule_holds _ _ _ pressed.1 in
    let pressure = number_within 1 MAX_PRESSURE (option_and_then as_integer (get_member (codes "pressure") table)) pressed.0 in
    let cost = number_within 0 MAX_FAN_COST (option_and_then as_integer (get_member (codes "cost") table)) priced.0 in
    (named.0, record { some_pressure = pressure.0; pressure = pressure.1; cost = cost.1 }, not_true _ parts.1)

-- a section that says its place in the tree has a name of the form
tree_name_form : (table : Members) → is_some (tree_section_at table) ≡ true → IsTrue (is_name (entry_of table).tree.name)
tree_name_form table there = of_parts (name_at (codes "name") table) (side_at table) (optional_name_at (codes "neighbour") table) (λ name is. name_is (text_at (codes "name") table) name is) there
  where
    of_parts : (name : Option (List ℕ)) (side : Option Side) (neighbour : Option (Option (List ℕ))) → ((n : List ℕ) → name ≡ Some n → IsTrue (is_name n))
        → is_some (option_and_then (λ n. option_and_then (λ x. option_and_then (λ o. Some (section_with n x o)) neighbour) side) name) ≡ true
        → IsTrue (is_name (unwrap_or (option_and_then (λ n. option_and_then (λ x. option_and_then (λ o. Some (section_with n x o)) neighbour) side) name) no_tree_section).name)
    of_parts None side neighbour form is = cc
    of_parts (Some name) None neighbour form is = cc
    of_parts (Some name) (Some side) None form is = cc
    of_parts (Some name) (Some side) (Some neighbour) form is = form name refl

-- the rules of the section's table at a place
section_holds : (tables : List Members) (k : ℕ) (table : Members) → first_broken (each section_rules tables) ≡ None → slice_get tables k ≡ Some table
    → (is_some (tree_section_at table) ≡ true) × (is_among (entry_of table).tree.name (table_names (take k tables)) ≡ false)
section_holds tables k table none at =
    let parts = named_holds section_table_rules is_new_section section_twice tables k table none at in
    let keys = rule_holds _ _ _ parts.0 in
    let named = rule_holds _ _ _ keys.1 in
    (named.0, not_true _ parts.1)

-- the sizes of a section are 1 to 24, with names of their own
sizes_hold : (n : ℕ) (sizes : List (List ℕ)) → first_broken (all_size_rules n sizes) ≡ None
    → (1 ≤ length sizes) × (length sizes ≤ MAX_SIZES) × ((k : ℕ) (name : List ℕ) → slice_get sizes k ≡ Some name → is_among name (take k sizes) ≡ false)
sizes_hold n sizes none =
    let some = rule_holds _ _ _ none in
    let few = rule_holds _ _ _ some.1 in (
      leb-true 1 (length sizes) some.0,
      leb-true (length sizes) MAX_SIZES few.0,
      λ k name at. let new = rule_holds _ _ _ (each_holds (size_name_rules n) sizes k name few.1 at) in not_true _ new.0,
    )

-- the sizes and the pairs of a section in the network
sizes_at : (sections : List SectionEntry) (s : ℕ) (section : SectionEntry) → slice_get sections s ≡ Some section
    → unwrap_or (slice_get (map (λ (section : SectionEntry). section.sizes) sections) s) [] ≡ section.sizes
sizes_at sections s section at = ap (λ o. unwrap_or o []) (slice_get-map (λ (section : SectionEntry). section.sizes) sections s ∙ ap (option_map (λ (section : SectionEntry). section.sizes)) at)

pairs_at : (sections : List SectionEntry) (s : ℕ) (section : SectionEntry) → slice_get sections s ≡ Some section
    → unwrap_or (slice_get (map (pairs_of_section sections) sections) s) [] ≡ pairs_of_section sections section
pairs_at sections s section at = ap (λ o. unwrap_or o []) (slice_get-map (pairs_of_section sections) sections s ∙ ap (option_map (pairs_of_section sections)) at)

count_at : (sections : List SectionEntry) (n : ℕ) → length (unwrap_or (slice_get (map (λ (section : SectionEntry). section.sizes) sections) n) []) ≡ section_size_count sections n
count_at [] n = refl
count_at (section ∷ sections) zero = refl
count_at (section ∷ sections) (suc n) = count_at sections n

columns_at : (doc : Members) (s : ℕ) (section : SectionEntry) → slice_get (entries doc) s ≡ Some section → columns (network_in doc) s ≡ columns_of (neighbour_size_count (entries doc) section)
columns_at doc s section at = ap (columns_beside (network_in doc)) (neighbour_in_tree (entries doc) s section at) ∙ by_neighbour (neighbour_of (tree_sections (entries doc)) section.tree)
  where
    by_neighbour : (o : Option ℕ) → columns_beside (network_in doc) o ≡ columns_of (option_map (section_size_count (entries doc)) o)
    by_neighbour None = refl
    by_neighbour (Some n) = count_at (entries doc) n

section_is : (doc : Members) (s : ℕ) (section : SectionEntry) → first_broken (all_size_and_pair_rules (entries doc)) ≡ None → slice_get (entries doc) s ≡ Some section → IsSection (network_in doc) s
section_is doc s section none at =
    let sections = entries doc in
    let n = length (take s sections) + 1 in
    let parts = both_none _ _ (sym (first_broken-append (all_size_rules n section.sizes) (all_pair_rules n (length section.sizes) (neighbour_size_count sections section) section.pairs)) ∙ each_holds (size_and_pair_rules_after sections) sections s section none at) in
    let sizes = sizes_hold n section.sizes parts.0 in
    let same = sizes_at sections s section at in
    let names : AreNames section.sizes = record {
      form = λ k d within. size_form (section_tables doc) s k section (get_or section.sizes k d) at (slice_get-get_or section.sizes k d within);
      distinct = distinct_from section.sizes sizes.2;
    } in
    record {
      some = subst (λ (names : List (List ℕ)). 1 ≤ length names) (sym same) sizes.0;
      few = subst (λ (names : List (List ℕ)). length names ≤ MAX_SIZES) (sym same) sizes.1;
      sizes = subst AreNames (sym same) names;
      pairs = ap length (pairs_at sections s section at) ∙ length-cells_of (length section.sizes) (columns_of (neighbour_size_count sections section)) (rows_of (length section.sizes) (neighbour_size_count sections section) section.pairs)
          ∙ ap (λ (names : List (List ℕ)). length names * columns_of (neighbour_size_count sections section)) (sym same) ∙ ap (λ c. size_count (network_in doc) s * c) (sym (columns_at doc s section at));
      bounds = subst (λ (cells : List (Option Pair)). All IsBounded cells) (sym (pairs_at sections s section at))
          (all_map IsBounded (pair_in (columns_of (neighbour_size_count sections section)) (rows_of (length section.sizes) (neighbour_size_count sections section) section.pairs))
          (range_with_len 0 (length section.sizes * columns_of (neighbour_size_count sections section)))
          (λ k cell here. cell_bounded (length section.sizes) (neighbour_size_count sections section) section.pairs (columns_of (neighbour_size_count sections section)) cell));
    }

fan_names_are : (tables : List Members) → fan_names tables ≡ map (λ (fan : NetFan). fan.name) (map fan_of tables)
fan_names_are [] = refl
fan_names_are (table ∷ tables) = ap (λ names. (fan_of table).name ∷ names) (fan_names_are tables)

-- one of some rules that hold
one_holds : (rules : List Rule) (i : ℕ) (rule : Rule) → first_broken rules ≡ None → slice_get rules i ≡ Some rule → rule.holds ≡ true
one_holds [] i rule none at = cc
one_holds (first ∷ rules) zero rule none at = let same : first ≡ rule = cc in subst (λ (r : Rule). r.holds ≡ true) same (rule_holds first.holds (first_broken rules) first.fault none).0
one_holds (first ∷ rules) (suc i) rule none at = one_holds rules i rule (rule_holds first.holds (first_broken rules) first.fault none).1 at

top_name : (doc : Members) → first_broken (top_rules doc) ≡ None → IsTrue (is_name (network_name doc))
top_name doc none = name_form (text_at (codes "name") doc) (one_holds (top_rules doc) 3 (at_file (is_some (name_at (codes "name") doc)) Field) none refl)

-- no fans are fans
no_fans : AreFans []
no_fans = record {
  names = record { form = All-nil (λ (name : List ℕ). IsTrue (is_name name)); distinct = λ i j less within. absurd (omega arith) };
  bounds = All-nil IsFan;
  few = omega arith;
}

abbrev no_section : SectionEntry
no_section = record { tree = no_tree_section; sizes = []; pairs = [] }

-- a network with no broken rule is one
pub is_network : (doc : Members) → first_broken (network_rules doc) ≡ None → IsNetwork (network_in doc)
is_network doc none =
    let sections = entries doc in
    let in_tree = tree_sections sections in
    let count = length-map in_tree (neighbour_of in_tree) ∙ length-map sections (λ (section : SectionEntry). section.tree) in
    let tables = section_tables doc in
    let fans = fan_tables doc in
    let at_top = both_none _ _ (sym (first_broken-append (top_rules doc) (after_top doc)) ∙ none) in
    let at_fans = both_none _ _ (sym (first_broken-append (all_fan_rules fans) (after_fans doc)) ∙ at_top.1) in
    let at_sections = both_none _ _ (sym (first_broken-append (all_section_rules tables) (after_sections doc)) ∙ at_fans.1) in
    let at_tree = both_none _ _ (sym (first_broken-append (neighbour_and_tree_rules in_tree) (all_size_and_pair_rules sections)) ∙ at_sections.1) in
    let tree = both_none _ _ (sym (first_broken-append (all_neighbour_rules in_tree) (tree_rules (tree_of in_tree))) ∙ at_tree.0) in
    let few_fans = rule_holds _ _ _ at_fans.0 in
    let few_sections = rule_holds _ _ _ at_sections.0 in
    record {
      name = top_name doc at_top.0;
      tree = record { sides = length-map in_tree (λ (section : TreeSection). section.side) ∙ sym (length-map in_tree (neighbour_of in_tree)); rules = tree.1 };
      names = subst AreNames (entry_names_are tables) (are_names (λ table. (entry_of table).tree.name) tables
          (λ k table at. let holds = section_holds tables k table few_sections.1 at in (tree_name_form table holds.0, holds.1)));
      name_count = length-map in_tree (λ (section : TreeSection). section.name) ∙ sym (length-map in_tree (neighbour_of in_tree));
      size_lists = length-map sections (λ (section : SectionEntry). section.sizes) ∙ sym count;
      pair_lists = length-map sections (pairs_of_section sections) ∙ sym count;
      sections = λ s within. section_is doc s (get_or sections s no_section) at_tree.1 (slice_get-get_or sections s no_section (subst (λ n. s < n) count within));
      fans = record {
        names = subst AreNames (fan_names_are fans) (are_names (λ table. (fan_of table).name) fans
            (λ k table at. let holds = fan_holds fans k table few_fans.1 at in (name_form (text_at (codes "name") table) holds.0, holds.2)));
        bounds = all_map IsFan fan_of fans (λ k table at. (fan_holds fans k table few_fans.1 at).1);
        few = subst (λ n. n ≤ MAX_FANS) (sym (length-map fans fan_of)) (leb-true (length fans) MAX_FANS few_fans.0);
      };
      return_fans = no_fans;
    }
