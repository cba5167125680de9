-- Where the reading of a project file stops, and what it read until there.
use Rattle.std.proofs.Common.{◌≡◌, List, [], ◌∷◌, ◌++◌, is_some, None, Some, Ok, Err, Option, Result, refl, ap, ◌∙◌, sym, subst}
use Rattle.std.specs.Prelude.{codes, unwrap_or}
use Rattle.toml.specs.Data.{Members}
use Rattle.duct_units.specs.declared.fault.Fault.{Fault}
use Rattle.duct_units.specs.declared.fault.ReadError.{ReadError}
use Rattle.duct_units.specs.declared.fault.ReadError.TheVariants.{Refused}
use Rattle.duct_units.specs.declared.fault.Reason.TheVariants.{Field}
use Rattle.duct_units.specs.Rules.{Rule, at_file, file_fault, first_broken, unless_refused, Fails, Gives}
use Rattle.duct_definitions.specs.Airflow.{Flows, flow_rules, flows_of}
use Rattle.duct_definitions.specs.Tree.{Tree}
use Rattle.section_tables.specs.Neighbours.{neighbour_and_tree_rules, tree_of}
use Rattle.section_tables.proofs.SequenceLaws.{Stops, stops_from, stops_first, stops_later, all_hold, given, gives_later, IsRead, read_as}
use Rattle.project_file.specs.declared.project.Project.{Project}
use Rattle.project_file.specs.declared.section_row.SectionRow.{SectionRow}
use Rattle.project_file.specs.declared.section_table.SectionTable.{SectionTable}
use Rattle.file_definitions.specs.Document.{tables_at}
use Rattle.fan_points.specs.declared.terms.Energy.{Energy}
use Rattle.project_file.specs.declared.head.Head.{Head}
use Rattle.project_file.specs.declared.size_limits.SizeLimits.{SizeLimits}
use Rattle.project_file.specs.Energy.{energy_in, energy_rules}
use Rattle.project_file.specs.Limits.{limits_in, limits_rules}
use Rattle.project_file.specs.TopTable.{TopEntry, array_rules, head_in, head_rules, section_tables, top_rules, top_in}
use Rattle.project_file.specs.ProjectFile.{project_in, project_rules, project_with, sections_of, section_rules_of, tree_and_flow_rules}
use Rattle.project_file.specs.Sections.{rows_of, tree_sections}
use Rattle.project_file.specs.Projects.{airflows_of}

-- ---- the top table

abbrev pub top_with : Head → Energy → SizeLimits → List Members → TopEntry
top_with head energy limits sections = record { head = head; energy = energy; limits = limits; sections = sections }

-- the rules that come after the table `energy`, and after the head
abbrev pub after_energy : Members → List Rule
after_energy doc = limits_rules doc ++ array_rules doc

abbrev pub after_head : Members → List Rule
after_head doc = energy_rules doc ++ after_energy doc

pub at_head : (error : ReadError) (doc : Members) → Stops error (head_rules doc) → Stops error (top_rules doc)
at_head error doc stops = stops_first error (head_rules doc) (after_head doc) stops

past_head : (error : ReadError) (doc : Members) → first_broken (head_rules doc) ≡ None → Stops error (after_head doc) → Stops error (top_rules doc)
past_head error doc head stops = stops_later error (head_rules doc) (after_head doc) head stops

pub at_energy : (error : ReadError) (doc : Members) → first_broken (head_rules doc) ≡ None → Stops error (energy_rules doc) → Stops error (top_rules doc)
at_energy error doc head stops = past_head error doc head (stops_first error (energy_rules doc) (after_energy doc) stops)

past_energy : (error : ReadError) (doc : Members) → first_broken (head_rules doc) ≡ None → first_broken (energy_rules doc) ≡ None → Stops error (after_energy doc) → Stops error (top_rules doc)
past_energy error doc head energy stops = past_head error doc head (stops_later error (energy_rules doc) (after_energy doc) energy stops)

pub at_limits : (error : ReadError) (doc : Members) → first_broken (head_rules doc) ≡ None → first_broken (energy_rules doc) ≡ None → Stops error (limits_rules doc) → Stops error (top_rules doc)
at_limits error doc head energy stops = past_energy error doc head energy (stops_first error (limits_rules doc) (array_rules doc) stops)

pub at_array : (error : ReadError) (doc : Members) → first_broken (head_rules doc) ≡ None → first_broken (energy_rules doc) ≡ None → first_broken (limits_rules doc) ≡ None
    → Stops error (array_rules doc) → Stops error (top_rules doc)
at_array error doc head energy limits stops = past_energy error doc head energy (stops_later error (limits_rules doc) (array_rules doc) limits stops)

pub all_of_top : (doc : Members) → first_broken (head_rules doc) ≡ None → first_broken (energy_rules doc) ≡ None → first_broken (limits_rules doc) ≡ None → first_broken (array_rules doc) ≡ None
    → first_broken (top_rules doc) ≡ None
all_of_top doc head energy limits array =
    all_hold (head_rules doc) (after_head doc) head (all_hold (energy_rules doc) (after_energy doc) energy (all_hold (limits_rules doc) (array_rules doc) limits array))

-- ---- the whole file

-- the rules that come after the top table
abbrev pub after_top : Members → List Rule
after_top doc = section_rules_of (top_in doc) ++ tree_and_flow_rules (limits_in doc) (sections_of (top_in doc))

pub at_top : (error : ReadError) (doc : Members) → Stops error (top_rules doc) → Stops error (project_rules doc)
at_top error doc stops = stops_first error (top_rules doc) (after_top doc) stops

pub at_sections : (error : ReadError) (doc : Members) → first_broken (top_rules doc) ≡ None → Stops error (section_rules_of (top_in doc)) → Stops error (project_rules doc)
at_sections error doc top stops =
    stops_later error (top_rules doc) (after_top doc) top (stops_first error (section_rules_of (top_in doc)) (tree_and_flow_rules (limits_in doc) (sections_of (top_in doc))) stops)

-- the top table and the sections hold, so the rest decides
pub at_rest : (result : Result Project ReadError) (doc : Members) (top : TopEntry) (sections : List SectionTable)
    → unless_refused (first_broken (top_rules doc)) (top_in doc) ≡ Ok top → unless_refused (first_broken (section_rules_of top)) (sections_of top) ≡ Ok sections
    → Gives result (unless_refused (first_broken (tree_and_flow_rules top.limits sections)) (project_with top sections))
    → Gives result (unless_refused (first_broken (project_rules doc)) (project_in doc))
at_rest result doc top sections is_top are_sections gives =
    let first = given (first_broken (top_rules doc)) (top_in doc) top is_top in
    let second = read_as section_rules_of sections_of top (top_in doc) sections first.1 are_sections in
    let of_top : Gives result (unless_refused (first_broken (tree_and_flow_rules (limits_in doc) sections)) (project_with (top_in doc) sections)) =
    subst (λ (t : TopEntry). Gives result (unless_refused (first_broken (tree_and_flow_rules t.limits sections)) (project_with t sections))) first.1 gives in
    let of_both : Gives result (unless_refused (first_broken (tree_and_flow_rules (limits_in doc) (sections_of (top_in doc)))) (project_in doc)) =
    subst (λ (ss : List SectionTable). Gives result (unless_refused (first_broken (tree_and_flow_rules (limits_in doc) ss)) (project_with (top_in doc) ss))) second.1 of_top in
    gives_later result (top_rules doc) (after_top doc) (project_in doc) first.0
    (gives_later result (section_rules_of (top_in doc)) (tree_and_flow_rules (limits_in doc) (sections_of (top_in doc))) (project_in doc) second.0 of_both)

-- ---- the tree and its airflows

-- why the airflows stop, from the tree and the rows that were read
pub at_flows : (error : ReadError) (limits : SizeLimits) (sections : List SectionTable) (tree : Tree) (rows : List SectionRow) → first_broken (neighbour_and_tree_rules (tree_sections sections)) ≡ None
    → tree ≡ tree_of (tree_sections sections) → rows ≡ rows_of limits sections → Fails error (unless_refused (first_broken (flow_rules tree (airflows_of rows))) (flows_of tree (airflows_of rows)))
    → Stops error (tree_and_flow_rules limits sections)
at_flows error limits sections tree rows none is_tree are_rows fails =
    let of_rows = subst (λ (rs : List SectionRow). Stops error (flow_rules tree (airflows_of rs))) are_rows (stops_from error (flow_rules tree (airflows_of rows)) (flows_of tree (airflows_of rows)) fails) in
    stops_later error (neighbour_and_tree_rules (tree_sections sections)) (flow_rules (tree_of (tree_sections sections)) (airflows_of (rows_of limits sections))) none
    (subst (λ (t : Tree). Stops error (flow_rules t (airflows_of (rows_of limits sections)))) is_tree of_rows)

-- the project of what was read
abbrev pub project_from : TopEntry → Tree → Flows → List SectionRow → Project
project_from top tree flows rows = record {
  name = top.head.name;
  density = top.head.density;
  energy = top.energy;
  taper = top.limits.taper;
  tree = tree;
  flows = flows;
  sections = rows;
}

-- no rule is broken, and it is the project of the sections
pub all_joined : (top : TopEntry) (sections : List SectionTable) (tree : Tree) (flows : Flows) (seen rows : List SectionRow) → first_broken (neighbour_and_tree_rules (tree_sections sections)) ≡ None
    → tree ≡ tree_of (tree_sections sections) → seen ≡ rows_of top.limits sections → rows ≡ rows_of top.limits sections
    → unless_refused (first_broken (flow_rules tree (airflows_of seen))) (flows_of tree (airflows_of seen)) ≡ Ok flows
    → (first_broken (tree_and_flow_rules top.limits sections) ≡ None) × (project_with top sections ≡ project_from top tree flows rows)
all_joined top sections tree flows seen rows none is_tree are_seen are_rows are_flows =
    let in_tree = tree_of (tree_sections sections) in
    let air = airflows_of (rows_of top.limits sections) in
    let of_rows = read_as (λ (rs : List SectionRow). flow_rules tree (airflows_of rs)) (λ (rs : List SectionRow). flows_of tree (airflows_of rs)) seen (rows_of top.limits sections) flows are_seen are_flows in
    let hold : first_broken (flow_rules in_tree air) ≡ None = subst (λ (t : Tree). first_broken (flow_rules t air) ≡ None) is_tree of_rows.0 in
    let same_flows : flows ≡ flows_of in_tree air = of_rows.1 ∙ ap (λ (t : Tree). flows_of t air) is_tree in
    (all_hold (neighbour_and_tree_rules (tree_sections sections)) (flow_rules in_tree air) none hold, same tree flows rows is_tree same_flows are_rows)
  where
    same : (t : Tree) (fs : Flows) (rs : List SectionRow) → t ≡ tree_of (tree_sections sections) → fs ≡ flows_of (tree_of (tree_sections sections)) (airflows_of (rows_of top.limits sections)) → rs ≡ rows_of top.limits sections
        → project_with top sections ≡ project_from top t fs rs
    same t fs rs t_is fs_are rs_are = rw (t_is, fs_are, rs_are) refl

pub top_refused : (doc : Members) (fault : Fault) → Stops (Refused fault) (top_rules doc) → unless_refused (first_broken (top_rules doc)) (top_in doc) ≡ Err fault
top_refused doc fault stops = ap (λ o. unless_refused o (top_in doc)) stops

-- without an array of tables for the sections
pub no_array : (doc : Members) → tables_at (codes "section") doc ≡ None → first_broken (array_rules doc) ≡ Some (file_fault Field)
no_array doc none = ap (λ (o : Option (List Members)). first_broken (at_file (is_some o) Field ∷ [])) none

-- what was read of the top table is what it says
pub top_is : (doc : Members) (head : Head) (energy : Energy) (limits : SizeLimits) (sections : List Members) → IsRead (head_rules doc) (head_in doc) head → IsRead (energy_rules doc) (energy_in doc) energy
    → IsRead (limits_rules doc) (limits_in doc) limits → Some sections ≡ tables_at (codes "section") doc
    → unless_refused (first_broken (top_rules doc)) (top_in doc) ≡ Ok (top_with head energy limits sections)
top_is doc head energy limits sections of_head of_energy of_limits found =
    let array : first_broken (array_rules doc) ≡ None = ap (λ (o : Option (List Members)). first_broken (at_file (is_some o) Field ∷ [])) (sym found) in
    ap (λ o. unless_refused o (top_in doc)) (all_of_top doc of_head.0 of_energy.0 of_limits.0 array)
    ∙ ap (λ (t : TopEntry). Ok t) (same head energy limits sections of_head.1 of_energy.1 of_limits.1 (ap (λ (o : Option (List Members)). unwrap_or o []) found))
  where
    same : (h : Head) (e : Energy) (l : SizeLimits) (ss : List Members) → h ≡ head_in doc → e ≡ energy_in doc → l ≡ limits_in doc → ss ≡ section_tables doc → top_in doc ≡ top_with h e l ss
    same h e l ss h_is e_is l_is ss_are = rw (h_is, e_is, l_is, ss_are) refl
