-- A project that is changed is one, and its names join what they are to join.
use Rattle.std.proofs.Common.{◌≡◌, ◌≢◌, ℕ, zero, suc, ◌+◌, ◌<◌, ◌≤◌, List, [], ◌∷◌, All, length, Bool, true, false, not, ◌||◌, Option, Some, None, is_some, is_none, option_map, get_or, Ok, Err, refl, ap, sym, ◌∙◌, subst, inl, inr, arith}
use Rattle.std.specs.Prelude.{unwrap_or, option_and_then, if◌then◌else◌}
use Rattle.std.specs.List.{range_with_len, flat_map}
use Rattle.std.proofs.lemmas.Bool.{cases_eq}
use Rattle.std.proofs.lemmas.List.{length-set}
use Rattle.std.proofs.lemmas.List.Elements.{All-set}
use Rattle.std.proofs.lemmas.Option.{slice_get-map, slice_get-get_or, slice_get_read}
use Rattle.duct_units.specs.declared.fault.Fault.{Fault}
use Rattle.duct_units.specs.declared.fault.ReadError.{ReadError}
use Rattle.duct_units.specs.declared.fault.ReadError.TheVariants.{Refused, NoMemory}
use Rattle.duct_units.specs.declared.fault.Reason.TheVariants.{FlowMissing, FlowGiven, UnknownPreset}
use Rattle.duct_units.specs.Rules.{Rule, Fails, at_section, first_broken, or_else, section_fault, unless_refused}
use Rattle.duct_units.proofs.RuleLaws.{first_broken-append, both_none, rule_holds, none_broken}
use Rattle.duct_definitions.specs.Airflow.{Flows, bound_rules, flow, flow_rules, flows_of, given_at, leaf_rules}
use Rattle.duct_definitions.specs.Network.{AreNames}
use Rattle.duct_definitions.specs.Tree.{Tree, section_count, sections, is_leaf}
use Rattle.name_index.specs.Places.{is_among}
use Rattle.size_catalogue.specs.Catalogue.{Catalogue}
use Rattle.project_file.specs.declared.project.Project.{Project}
use Rattle.project_file.specs.declared.section_row.SectionRow.{SectionRow}
use Rattle.project_file.specs.Projects.{IsProject, IsRow, airflows_of, junction_at}
use Rattle.net_build.specs.Catalogues.{Catalogues}
use Rattle.net_build.specs.Joining.{is_joined, joining_rules, preset_of_row, rules_of_row, rules_of_section, table_of_row}
use Rattle.net_build.specs.Rows.{row_at, no_row}
use Rattle.edit_script.specs.declared.script.Change.{Change}
use Rattle.edit_script.specs.declared.script.Change.TheVariants.{Length, Device, Airflow, Preset}
use Rattle.project_edit.specs.declared.edit.Edit.{Edit}
use Rattle.edit_script.specs.Scripts.{IsChange}
use Rattle.project_edit.specs.Edits.{row_with, edited, edited_rows}
use Rattle.project_edit.specs.Refusals.{Refuses, edit_refusal, edit_rules, error_of, is_listed_in, suits_leaf, suits_list}
use Rattle.project_edit.proofs.Rows.{get-set-same, get-set-other, all-kept, row-kept, row-named, row-other, row-there, is-row}

-- where the rules of every number hold, none is broken
pub all-hold : (f : ℕ → List Rule) (a n : ℕ) → ((i : ℕ) → a ≤ i → i < a + n → first_broken (f i) ≡ None) → first_broken (flat_map f (range_with_len a n)) ≡ None
all-hold f a zero each = refl
all-hold f a (suc n) each =
    first_broken-append (f a) (flat_map f (range_with_len (a + 1) n))
    ∙ ap (λ o. or_else o (first_broken (flat_map f (range_with_len (a + 1) n)))) (each a (omega arith) (omega arith))
    ∙ all-hold f (a + 1) n (λ i low high. each i (omega arith) (omega arith))

-- ---- the airflows at the leaves

pub given-other : (p : Project) (e : Edit) (s : ℕ) → s ≢ e.section → given_at (airflows_of (edited_rows p e)).at_leaves s ≡ given_at (airflows_of p.sections).at_leaves s
given-other p e s other =
    ap (λ o. unwrap_or o None)
    (slice_get-map (λ (row : SectionRow). row.airflow) (edited_rows p e) s
    ∙ ap (option_map (λ (row : SectionRow). row.airflow)) (get-set-other p.sections e.section s (row_with e.change (row_at p e.section)) other)
    ∙ sym (slice_get-map (λ (row : SectionRow). row.airflow) p.sections s))

given-named : (p : Project) (e : Edit) → e.section < length p.sections → given_at (airflows_of (edited_rows p e)).at_leaves e.section ≡ (row_with e.change (row_at p e.section)).airflow
given-named p e less =
    ap (λ o. unwrap_or o None)
    (slice_get-map (λ (row : SectionRow). row.airflow) (edited_rows p e) e.section
    ∙ ap (option_map (λ (row : SectionRow). row.airflow)) (get-set-same p.sections e.section (row_with e.change (row_at p e.section)) less))

given-before : (p : Project) (s : ℕ) → s < length p.sections → given_at (airflows_of p.sections).at_leaves s ≡ (row_at p s).airflow
given-before p s less =
    ap (λ o. unwrap_or o None)
    (slice_get-map (λ (row : SectionRow). row.airflow) p.sections s ∙ ap (option_map (λ (row : SectionRow). row.airflow)) (row-there p s less))

-- the rules of a section with this airflow given, or none
abbrev leaf_rules_of : ℕ → Bool → Option ℕ → List Rule
leaf_rules_of n leaf given = at_section n (not leaf || is_some given) FlowMissing ∷ at_section n (leaf || is_none given) FlowGiven ∷ []

changed-leaf : (n : ℕ) (leaf : Bool) (change : Change) (row : SectionRow) → suits_leaf leaf change ≡ true → first_broken (leaf_rules_of n leaf row.airflow) ≡ None
    → first_broken (leaf_rules_of n leaf (row_with change row).airflow) ≡ None
changed-leaf n leaf (Length m) row suits none = none
changed-leaf n leaf (Device m) row suits none = none
changed-leaf n leaf (Preset name) row suits none = none
changed-leaf n true (Airflow q) row suits none = refl
changed-leaf n false (Airflow q) row suits none = absurd (cc suits)

leaf-holds : (p : Project) (e : Edit) (s : ℕ) → e.section < length p.sections → suits_leaf (is_leaf p.tree e.section) e.change ≡ true → first_broken (leaf_rules p.tree (airflows_of p.sections).at_leaves s) ≡ None
    → first_broken (leaf_rules p.tree (airflows_of (edited_rows p e)).at_leaves s) ≡ None
leaf-holds p e s less suits none =
    elim (cases_eq s e.section) [
      | inl same ↦
          (let before : first_broken (leaf_rules_of (e.section + 1) (is_leaf p.tree e.section) (row_at p e.section).airflow) ≡ None =
          ap (λ o. first_broken (leaf_rules_of (e.section + 1) (is_leaf p.tree e.section) o)) (sym (given-before p e.section less))
          ∙ ap (λ n. first_broken (leaf_rules p.tree (airflows_of p.sections).at_leaves n)) (sym same) ∙ none in
          ap (λ n. first_broken (leaf_rules p.tree (airflows_of (edited_rows p e)).at_leaves n)) same
          ∙ ap (λ o. first_broken (leaf_rules_of (e.section + 1) (is_leaf p.tree e.section) o)) (given-named p e less)
          ∙ changed-leaf (e.section + 1) (is_leaf p.tree e.section) e.change (row_at p e.section) suits before)
      | inr other ↦ ap (λ o. first_broken (leaf_rules_of (s + 1) (is_leaf p.tree s) o)) (given-other p e s other) ∙ none
    ]

abbrev pub leaves_of : Project → List Rule
leaves_of p = flat_map (leaf_rules p.tree (airflows_of p.sections).at_leaves) (sections p.tree)

abbrev pub bounds_of : Project → Edit → List Rule
bounds_of p e = flat_map (bound_rules (flow p.tree (airflows_of (edited_rows p e)))) (sections p.tree)

-- the airflows of the changed project are refused where a section carries too much
pub flows-refused : (p : Project) (e : Edit) → IsProject p → e.section < section_count p.tree → suits_leaf (is_leaf p.tree e.section) e.change ≡ true
    → first_broken (flow_rules p.tree (airflows_of (edited_rows p e))) ≡ first_broken (bounds_of p e)
flows-refused p e is within suits =
    (let less : e.section < length p.sections = subst (λ (n : ℕ). e.section < n) (sym is.count) within in
    let were = (both_none (first_broken (leaves_of p)) (first_broken (flat_map (bound_rules (flow p.tree (airflows_of p.sections))) (sections p.tree)))
    (sym (first_broken-append (leaves_of p) (flat_map (bound_rules (flow p.tree (airflows_of p.sections))) (sections p.tree))) ∙ is.airflows)).0 in
    first_broken-append (flat_map (leaf_rules p.tree (airflows_of (edited_rows p e)).at_leaves) (sections p.tree)) (bounds_of p e)
    ∙ ap (λ o. or_else o (first_broken (bounds_of p e)))
    (all-hold (leaf_rules p.tree (airflows_of (edited_rows p e)).at_leaves) 0 (section_count p.tree)
    (λ s low high. leaf-holds p e s less suits (none_broken (leaf_rules p.tree (airflows_of p.sections).at_leaves) 0 (section_count p.tree) s were low high))))

-- ---- what is refused

pub record IsAccepted (p : Project) (sizes : Catalogue) (e : Edit) : Type 0 where
  pub leaf : suits_leaf (is_leaf p.tree e.section) e.change ≡ true
  pub listed : suits_list sizes (row_at p e.section).list e.change ≡ true
  pub bounds : first_broken (bounds_of p e) ≡ None

unrefused : (o : Option Fault) → option_map (λ (fault : Fault). fault.reason) o ≡ None → o ≡ None
unrefused None e = refl
unrefused (Some fault) e = absurd (cc e)

pub is-accepted : (p : Project) (sizes : Catalogue) (e : Edit) → edit_refusal p sizes e ≡ None → IsAccepted p sizes e
is-accepted p sizes e none =
    (let first = rule_holds (suits_leaf (is_leaf p.tree e.section) e.change) _ _ (unrefused (first_broken (edit_rules p sizes e)) none) in
    let second = rule_holds (suits_list sizes (row_at p e.section).list e.change) _ _ first.1 in
    record { leaf = first.0; listed = second.0; bounds = second.1 })

-- ---- the changed project

junction-kept : (p : Project) (e : Edit) (s : ℕ) → e.section < length p.sections → junction_at (edited_rows p e) s ≡ junction_at p.sections s
junction-kept p e s less =
    elim (cases_eq s e.section) [
      | inl same ↦
          ap (junction_at (edited_rows p e)) same
          ∙ ap (option_and_then (λ (row : SectionRow). row.junction)) (get-set-same p.sections e.section (row_with e.change (row_at p e.section)) less)
          ∙ (row-kept e.change (row_at p e.section)).junction
          ∙ ap (option_and_then (λ (row : SectionRow). row.junction)) (sym (row-there p e.section less))
          ∙ ap (junction_at p.sections) (sym same)
      | inr other ↦ ap (option_and_then (λ (row : SectionRow). row.junction)) (get-set-other p.sections e.section s (row_with e.change (row_at p e.section)) other)
    ]

-- every row of the changed project is one
pub rows-are : (p : Project) (e : Edit) → IsProject p → e.section < section_count p.tree → IsChange e.change → All IsRow (edited_rows p e)
rows-are p e is within bounds =
    (let less : e.section < length p.sections = subst (λ (n : ℕ). e.section < n) (sym is.count) within in
    let there : IsRow (row_at p e.section) = subst IsRow (sym (ap (λ o. unwrap_or o no_row) (slice_get-get_or p.sections e.section no_row less))) (is.rows e.section no_row less) in
    All-set IsRow p.sections e.section (row_with e.change (row_at p e.section)) (is-row e.change (row_at p e.section) bounds there) is.rows)

pub edited-is : (p : Project) (e : Edit) → IsProject p → e.section < section_count p.tree → IsChange e.change → first_broken (flow_rules p.tree (airflows_of (edited_rows p e))) ≡ None → IsProject (edited p e)
edited-is p e is within bounds none =
    (let less : e.section < length p.sections = subst (λ (n : ℕ). e.section < n) (sym is.count) within in
    let row = row_at p e.section in
    record {
      name = is.name;
      density = is.density;
      energy = is.energy;
      tree = is.tree;
      count = length-set p.sections e.section (row_with e.change row) ∙ is.count;
      names = subst AreNames (sym (all-kept (λ row. row.name) p e less (row-kept e.change row).name)) is.names;
      rows = rows-are p e is within bounds;
      junctions = λ s below at. junction-kept p e s less ∙ is.junctions s below at;
      airflows = none;
      flows = refl;
    })

-- ---- what the call answers

-- an edit that is right for its section is refused where a section carries too much
pub right-fields : (p : Project) (sizes : Catalogue) (e : Edit) → suits_leaf (is_leaf p.tree e.section) e.change ≡ true → suits_list sizes (row_at p e.section).list e.change ≡ true
    → first_broken (edit_rules p sizes e) ≡ first_broken (bounds_of p e)
right-fields p sizes e leaf listed =
    ap (λ b. if b then (if suits_list sizes (row_at p e.section).list e.change then first_broken (bounds_of p e) else Some (section_fault (e.section + 1) UnknownPreset)) else Some (section_fault (e.section + 1) FlowGiven)) leaf
    ∙ ap (λ b. if b then first_broken (bounds_of p e) else Some (section_fault (e.section + 1) UnknownPreset)) listed

pub record IsMade (p : Project) (sizes : Catalogue) (e : Edit) (rows : List SectionRow) (flows : Flows) : Type 0 where
  pub unrefused : edit_refusal p sizes e ≡ None
  pub carried : flows ≡ flows_of p.tree (airflows_of (edited_rows p e))
  pub rules : first_broken (flow_rules p.tree (airflows_of (edited_rows p e))) ≡ None

unbroken : {Y : Type 0} (o : Option Fault) (value answer : Y) → unless_refused o value ≡ Ok answer → (o ≡ None) × (answer ≡ value)
unbroken None value answer e = (let same : value ≡ answer = cc in (refl, sym same))
unbroken (Some fault) value answer e = absurd (cc e)

pub is-made : (p : Project) (sizes : Catalogue) (e : Edit) (rows : List SectionRow) (flows : Flows) → IsProject p → e.section < section_count p.tree → rows ≡ edited_rows p e
    → suits_leaf (is_leaf p.tree e.section) e.change ≡ true → suits_list sizes (row_at p e.section).list e.change ≡ true
    → unless_refused (first_broken (flow_rules p.tree (airflows_of rows))) (flows_of p.tree (airflows_of rows)) ≡ Ok flows → IsMade p sizes e rows flows
is-made p sizes e rows flows is within are leaf listed answered =
    (let now : unless_refused (first_broken (flow_rules p.tree (airflows_of (edited_rows p e)))) (flows_of p.tree (airflows_of (edited_rows p e))) ≡ Ok flows =
    ap (λ rs. unless_refused (first_broken (flow_rules p.tree (airflows_of rs))) (flows_of p.tree (airflows_of rs))) (sym are) ∙ answered in
    let parts = unbroken (first_broken (flow_rules p.tree (airflows_of (edited_rows p e)))) (flows_of p.tree (airflows_of (edited_rows p e))) flows now in
    let none : first_broken (edit_rules p sizes e) ≡ None = right-fields p sizes e leaf listed ∙ sym (flows-refused p e is within leaf) ∙ parts.0 in
    record { unrefused = ap (option_map (λ (fault : Fault). fault.reason)) none; carried = parts.1; rules = parts.0 })

broken : {Y : Type 0} (o : Option Fault) (value : Y) (fault : Fault) → unless_refused o value ≡ Err fault → o ≡ Some fault
broken None value fault e = absurd (cc e)
broken (Some other) value fault e = (let same : other ≡ fault = cc in ap (λ f. Some f) same)

-- what the airflows are refused for, the edit is
pub is-refused : (p : Project) (sizes : Catalogue) (e : Edit) (rows : List SectionRow) (error : ReadError) → IsProject p → e.section < section_count p.tree → rows ≡ edited_rows p e
    → suits_leaf (is_leaf p.tree e.section) e.change ≡ true → suits_list sizes (row_at p e.section).list e.change ≡ true
    → Fails error (unless_refused (first_broken (flow_rules p.tree (airflows_of rows))) (flows_of p.tree (airflows_of rows))) → Refuses (error_of error) (edit_refusal p sizes e)
is-refused p sizes e rows NoMemory is within are leaf listed fails = tt
is-refused p sizes e rows (Refused fault) is within are leaf listed fails =
    ap (option_map (λ (fault : Fault). fault.reason))
    (right-fields p sizes e leaf listed ∙ sym (flows-refused p e is within leaf)
    ∙ ap (λ rs. first_broken (flow_rules p.tree (airflows_of rs))) (sym are)
    ∙ broken (first_broken (flow_rules p.tree (airflows_of rows))) (flows_of p.tree (airflows_of rows)) fault fails)

pub made-project : (p : Project) (e : Edit) (tree : Tree) (flows : Flows) (rows : List SectionRow) → tree ≡ p.tree → flows ≡ flows_of p.tree (airflows_of (edited_rows p e)) → rows ≡ edited_rows p e
    → ◌≡◌ {A = Project} (record { name = p.name; density = p.density; energy = p.energy; taper = p.taper; tree = tree; flows = flows; sections = rows }) (edited p e)
made-project p e tree flows rows trees carried are =
    ap (λ t. record { name = p.name; density = p.density; energy = p.energy; taper = p.taper; tree = t; flows = flows; sections = rows }) trees
    ∙ ap (λ f. record { name = p.name; density = p.density; energy = p.energy; taper = p.taper; tree = p.tree; flows = f; sections = rows }) carried
    ∙ ap (λ rs. record { name = p.name; density = p.density; energy = p.energy; taper = p.taper; tree = p.tree; flows = flows_of p.tree (airflows_of (edited_rows p e)); sections = rs }) are

-- ---- what its names join

changed-joins : (c : Catalogues) (n : ℕ) (change : Change) (row : SectionRow) → suits_list c.sizes row.list change ≡ true → first_broken (rules_of_row c n row) ≡ None → first_broken (rules_of_row c n (row_with change row)) ≡ None
changed-joins c n (Length m) row suits none = none
changed-joins c n (Device m) row suits none = none
changed-joins c n (Airflow q) row suits none = none
changed-joins c n (Preset name) row suits none =
    (let first = rule_holds (is_among row.list c.sizes.lists) _ _ none in
    let second = rule_holds (is_joined row.junction (table_of_row c row)) _ _ first.1 in
    holds (is_among row.list c.sizes.lists) (is_joined row.junction (table_of_row c row)) (is_joined name (preset_of_row c (row_with (Preset name) row))) _ _ _ first.0 second.0 (preset name suits))
  where
    preset : (name : Option (List ℕ)) → is_listed_in c.sizes row.list name ≡ true → is_joined name (preset_of_row c (row_with (Preset name) row)) ≡ true
    preset None e = refl
    preset (Some size) e = e

    holds : (a b d : Bool) (f g h : Fault) → a ≡ true → b ≡ true → d ≡ true → first_broken (record { holds = a; fault = f } ∷ record { holds = b; fault = g } ∷ record { holds = d; fault = h } ∷ []) ≡ None
    holds true true true f g h x y z = refl
    holds false b d f g h x y z = absurd (cc x)
    holds true false d f g h x y z = absurd (cc y)
    holds true true false f g h x y z = absurd (cc z)

pub edited-joins : (p : Project) (c : Catalogues) (e : Edit) → IsProject p → e.section < section_count p.tree → suits_list c.sizes (row_at p e.section).list e.change ≡ true → first_broken (joining_rules p c) ≡ None
    → first_broken (joining_rules (edited p e) c) ≡ None
edited-joins p c e is within suits none =
    all-hold (rules_of_section (edited p e) c) 0 (section_count p.tree)
    (λ s low high. one s (none_broken (rules_of_section p c) 0 (section_count p.tree) s none low high))
  where
    less : e.section < length p.sections
    less = subst (λ (n : ℕ). e.section < n) (sym is.count) within

    one : (s : ℕ) → first_broken (rules_of_section p c s) ≡ None → first_broken (rules_of_section (edited p e) c s) ≡ None
    one s was =
        elim (cases_eq s e.section) [
          | inl same ↦
              ap (λ n. first_broken (rules_of_section (edited p e) c n)) same
              ∙ ap (λ row. first_broken (rules_of_row c (e.section + 1) row)) (row-named p e less)
              ∙ changed-joins c (e.section + 1) e.change (row_at p e.section) suits (ap (λ n. first_broken (rules_of_section p c n)) (sym same) ∙ was)
          | inr other ↦ ap (λ row. first_broken (rules_of_row c (s + 1) row)) (row-other p e s other) ∙ was
        ]

-- the row that was read
pub row-read : (p : Project) (s : ℕ) (row : SectionRow) (rows : List SectionRow) → IsProject p → s < section_count p.tree → rows ≡ p.sections → row ≡ get_or rows s row → row_at p s ≡ row
row-read p s row rows is within are read =
    (let less : s < length p.sections = subst (λ (n : ℕ). s < n) (sym is.count) within in
    ap (λ o. unwrap_or o no_row) (slice_get_read p.sections (length p.sections) s row refl less (read ∙ ap (λ rs. get_or rs s row) are)))
