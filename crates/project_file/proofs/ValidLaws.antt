-- The project of an accepted document is a project.
use Rattle.std.proofs.Common.{◌≡◌, ℕ, ◌<◌, ◌≤◌, List, [], ◌∷◌, length, take, map, get_or, true, false, Option, Some, None, option_map, is_some, IsTrue, refl, ap, ◌∙◌, sym, subst}
use Rattle.std.specs.Prelude.{slice_get, unwrap_or, option_and_then, All, IfSome}
use Rattle.std.proofs.lemmas.Option.{slice_get-map, slice_get-get_or, slice_get_within, get_or_from_slice_get}
use Rattle.std.proofs.lemmas.List.{length-map}
use Rattle.std.proofs.lemmas.List.FromFn.{length-map-range_with_len}
use Rattle.std.proofs.lemmas.List.Elements.{All-map, All-get_or}
use Rattle.toml.specs.Data.{Members}
use Rattle.duct_units.specs.Name.{is_name}
use Rattle.duct_units.specs.Rules.{first_broken}
use Rattle.duct_units.proofs.RuleLaws.{first_broken-append, both_none, rule_holds}
use Rattle.duct_definitions.specs.Airflow.{Flows, flow, flow_rules}
use Rattle.duct_definitions.specs.Network.{AreNames}
use Rattle.duct_definitions.specs.Tree.{neighbour, section_count, tree_rules}
use Rattle.duct_definitions.specs.declared.airflow.TheConstants.{MAX_FLOW}
use Rattle.name_index.specs.Places.{is_among}
use Rattle.file_definitions.specs.Elements.{each}
use Rattle.file_definitions.proofs.ElementLaws.{each_holds}
use Rattle.section_tables.specs.declared.tree_section.TreeSection.{TreeSection}
use Rattle.section_tables.specs.Neighbours.{all_neighbour_rules, is_known, neighbour_among, neighbour_and_tree_rules, neighbour_of, neighbour_rules, tree_of}
use Rattle.section_tables.specs.TreeSections.{section_names}
use Rattle.section_tables.proofs.NameLaws.{are_names, not_true}
use Rattle.section_tables.proofs.StepLaws.{named_holds}
use Rattle.project_file.specs.declared.format.Format.{Format}
use Rattle.project_file.specs.declared.project.Project.{Project}
use Rattle.project_file.specs.declared.section_row.SectionRow.{SectionRow}
use Rattle.project_file.specs.declared.section_table.SectionTable.{SectionTable}
use Rattle.project_file.specs.declared.size_limits.SizeLimits.{SizeLimits}
use Rattle.project_file.specs.Limits.{AreLimits, IsHeight, IsVelocity}
use Rattle.project_file.specs.ProjectFile.{project_with, tree_and_flow_rules}
use Rattle.project_file.specs.Sections.{IsSection, own_or, row_of, rows_of, tree_section, tree_sections}
use Rattle.project_file.specs.Projects.{IsProject, IsRow, airflows_of, junction_at}
use Rattle.project_file.specs.SectionTables.{no_section, section_in, section_rules, section_table_rules}
use Rattle.project_file.specs.TopTable.{TopEntry, IsTop}
use Rattle.project_file.proofs.PartLaws.{is_new_section, section_twice, table_names_are}

-- a fact of each element holds of the one at a place
at_place : {A : Type 0} (P : A → Type 0) (xs : List A) (i : ℕ) (x : A) → All P xs → slice_get xs i ≡ Some x → P x
at_place P xs i x all at = subst P (get_or_from_slice_get xs i x x at) (All-get_or P xs i x (slice_get_within xs i x at) all)

-- the section's own limit or the project's lies within the bounds of both
own_velocity : (own project : Option ℕ) → IsVelocity own → IsVelocity project → IsVelocity (own_or own project)
own_velocity None project is too = too
own_velocity (Some v) project is too = is

own_height : (own project : Option ℕ) → IsHeight own → IsHeight project → IsHeight (own_or own project)
own_height None project is too = too
own_height (Some h) project is too = is

row_is : (limits : SizeLimits) (section : SectionTable) → AreLimits limits → IsSection section → IsRow (row_of limits section)
row_is limits section are is = record {
  name = is.table.name;
  length = is.table.length;
  list = is.table.list;
  local = is.table.local;
  junction = is.table.junction;
  device = is.table.device;
  airflow = is.table.flow;
  preset = is.table.preset;
  velocity = own_velocity section.velocity limits.velocity is.table.velocity are.velocity;
  height = own_height section.height limits.height is.table.height are.height;
  leak = is.table.leak;
}

pub rows_are : (limits : SizeLimits) (sections : List SectionTable) → AreLimits limits → All IsSection sections → All IsRow (rows_of limits sections)
rows_are limits sections are all = All-map IsRow (row_of limits) sections (λ k d within. row_is limits (get_or sections k d) are (all k d within))

-- no two sections have one name
pub names_apart : (format : Format) (tables : List Members) → first_broken (each (section_rules format) tables) ≡ None → All IsSection (map section_in tables)
    → AreNames (section_names (tree_sections (map section_in tables)))
names_apart format tables none all =
    subst AreNames (table_names_are tables) (are_names (λ table. (section_in table).name) tables (λ k table at. each_one k table at))
  where
    each_one : (k : ℕ) (table : Members) → slice_get tables k ≡ Some table
        → IsTrue (is_name (section_in table).name) × (is_among (section_in table).name (map (λ table. (section_in table).name) (take k tables)) ≡ false)
    each_one k table at =
        let is = at_place IsSection (map section_in tables) k (section_in table) all (slice_get-map section_in tables k ∙ ap (option_map section_in) at) in
        (is.table.name, not_true _ (named_holds (section_table_rules format) (is_new_section) section_twice tables k table none at).1)

-- the names of the rows are those of the sections
row_names : (limits : SizeLimits) (sections : List SectionTable) → section_names (tree_sections sections) ≡ map (λ (row : SectionRow). row.name) (rows_of limits sections)
row_names limits [] = refl
row_names limits (section ∷ sections) = ap (λ names. section.name ∷ names) (row_names limits sections)

-- a neighbour that is known has a number
no_number : (names : List (List ℕ)) (neighbour : Option (List ℕ)) → is_known names neighbour ≡ true → neighbour_among names neighbour ≡ None → neighbour ≡ None
no_number names None known none = refl
no_number names (Some name) known none = cc (sym known, ap is_some none)

-- so a section that the tree has at the fan has no junction
no_junction : (limits : SizeLimits) (sections : List SectionTable) → All IsSection sections → first_broken (all_neighbour_rules (tree_sections sections)) ≡ None
    → (s : ℕ) → s < length sections → neighbour (tree_of (tree_sections sections)) s ≡ None → junction_at (rows_of limits sections) s ≡ None
no_junction limits sections all rules s within none =
    let in_tree = tree_sections sections in
    let section = get_or sections s no_section in
    let at = slice_get-get_or sections s no_section within in
    let tree_at : slice_get in_tree s ≡ Some (tree_section section) = slice_get-map tree_section sections s ∙ ap (option_map tree_section) at in
    let row_at : slice_get (rows_of limits sections) s ≡ Some (row_of limits section) = slice_get-map (row_of limits) sections s ∙ ap (option_map (row_of limits)) at in
    let known = (rule_holds _ _ _ (each_holds (neighbour_rules in_tree) in_tree s (tree_section section) rules tree_at)).0 in
    let number = sym (ap (λ o. unwrap_or o None) (slice_get-map (neighbour_of in_tree) in_tree s ∙ ap (option_map (neighbour_of in_tree)) tree_at)) ∙ none in
    ap (option_and_then (λ (row : SectionRow). row.junction)) row_at ∙ (at_place IsSection sections s section all at).junction (no_number (section_names in_tree) section.neighbour known number)

-- the project of sections that break no rule is one
pub is_project : (top : TopEntry) (sections : List SectionTable) → IsTop top → All IsSection sections → AreNames (section_names (tree_sections sections)) → first_broken (tree_and_flow_rules top.limits sections) ≡ None
    → IsProject (project_with top sections)
is_project top sections is_top all names none =
    let in_tree = tree_sections sections in
    let parts = both_none _ _ (sym (first_broken-append (neighbour_and_tree_rules in_tree) (flow_rules (tree_of in_tree) (airflows_of (rows_of top.limits sections)))) ∙ none) in
    let tree = both_none _ _ (sym (first_broken-append (all_neighbour_rules in_tree) (tree_rules (tree_of in_tree))) ∙ parts.0) in
    let count : length (map (neighbour_of in_tree) in_tree) ≡ length sections = length-map in_tree (neighbour_of in_tree) ∙ length-map sections tree_section in
    record {
      name = is_top.head.name;
      density = is_top.head.density;
      energy = is_top.energy;
      tree = record { sides = length-map in_tree (λ (x : TreeSection). x.side) ∙ sym (length-map in_tree (neighbour_of in_tree)); rules = tree.1 };
      count = length-map sections (row_of top.limits) ∙ sym count;
      names = subst AreNames (row_names top.limits sections) names;
      rows = rows_are top.limits sections is_top.limits all;
      junctions = λ s within at_fan. no_junction top.limits sections all tree.0 s (subst (λ n. s < n) count within) at_fan;
      airflows = parts.1;
      flows = refl;
    }

-- an airflow within its bounds is not above the greatest
pub few_at_leaf : (airflow : Option ℕ) → IfSome airflow (λ q. (1 ≤ q) × (q ≤ MAX_FLOW)) → IfSome airflow (λ q. q ≤ MAX_FLOW)
few_at_leaf None bounds = tt
few_at_leaf (Some q) bounds = bounds.1

-- each section has an airflow
pub flow_count : (p : Project) → IsProject p → length p.flows.sections ≡ length p.sections
flow_count p is = ap (λ (flows : Flows). length flows.sections) is.flows ∙ length-map-range_with_len (flow p.tree (airflows_of p.sections)) 0 (section_count p.tree) ∙ sym is.count
