-- What an edit leaves as it was.
use Rattle.std.proofs.Common.{◌≡◌, ◌≢◌, ℕ, ◌<◌, map, length, Bool, true, false, ◌||◌, Option, Some, None, slice_index, refl, ap, sym, ◌∙◌, subst, arith}
use Rattle.std.specs.Prelude.{unwrap_or, ◌==◌}
use Rattle.std.proofs.lemmas.Bool.{eqb-true}
use Rattle.std.proofs.lemmas.List.FromFn.{get_or-map-range_with_len}
use Rattle.duct_definitions.specs.Airflow.{Flows, flow, flows_of}
use Rattle.duct_definitions.specs.Tree.{Tree, IsTree, section_count, neighbour, at_neighbour, passes}
use Rattle.duct_definitions.proofs.TreeLaws.{earlier}
use Rattle.project_file.specs.declared.project.Project.{Project}
use Rattle.project_file.specs.declared.section_row.SectionRow.{SectionRow}
use Rattle.project_file.specs.Projects.{IsProject, airflows_of}
use Rattle.net_build.specs.Catalogues.{Catalogues, numbers_named}
use Rattle.net_build.specs.Rows.{row_at}
use Rattle.net_build.specs.Sections.{flow_at, numbers_at, besides_of, section_sizes}
use Rattle.net_build.proofs.SameSections.{section-same}
use Rattle.edit_script.specs.declared.script.Change.{Change}
use Rattle.edit_script.specs.declared.script.Change.TheVariants.{Length, Device, Airflow, Preset}
use Rattle.project_edit.specs.declared.edit.Edit.{Edit}
use Rattle.project_edit.specs.Edits.{row_with, edited, edited_rows}
use Rattle.project_edit.specs.Touched.{is_on_way, is_way_next, is_changed}
use Rattle.project_edit.proofs.Rows.{all-kept, list-kept, row-kept, row-other}
use Rattle.project_edit.proofs.Ways.{off-way, passes_from, passes-first, passes-through, or-cases, or-left, or-right}
use Rattle.project_edit.proofs.EditedFlows.{DiffersAt, flow-off}
use Rattle.project_edit.proofs.EditedProjects.{given-other}

or-both : (a b : Bool) → (a || b) ≡ false → (a ≡ false) × (b ≡ false)
or-both true b e = absurd (cc e)
or-both false b e = (refl, e)

-- a section that isn't changed doesn't stand on the way of the named one
pub unchanged-off : (t : Tree) (change : Change) (x s : ℕ) → is_changed t change x s ≡ false → passes t s x ≡ false
unchanged-off t (Length n) x s off = off
unchanged-off t (Device n) x s off = off
unchanged-off t (Airflow q) x s off = (or-both (is_on_way t x s) (is_way_next t x (neighbour t s)) off).0
unchanged-off t (Preset name) x s off = off

-- ---- the airflows

air-kept : (p : Project) (e : Edit) → e.section < length p.sections → (row_with e.change (row_at p e.section)).airflow ≡ (row_at p e.section).airflow → airflows_of (edited_rows p e) ≡ airflows_of p.sections
air-kept p e less same =
    ap (λ given. record { at_leaves = given; leaks = map (λ (row : SectionRow). row.leak) (edited_rows p e) }) (all-kept (λ row. row.airflow) p e less same)
    ∙ ap (λ leaks. record { at_leaves = map (λ (row : SectionRow). row.airflow) p.sections; leaks = leaks }) (all-kept (λ row. row.leak) p e less (row-kept e.change (row_at p e.section)).leak)

flows-kept : (p : Project) (e : Edit) → IsProject p → e.section < length p.sections → (row_with e.change (row_at p e.section)).airflow ≡ (row_at p e.section).airflow → (edited p e).flows ≡ p.flows
flows-kept p e is less same = ap (flows_of p.tree) (air-kept p e less same) ∙ sym is.flows

differs : (p : Project) (e : Edit) → e.section < length p.sections → DiffersAt e.section (airflows_of p.sections) (airflows_of (edited_rows p e))
differs p e less = record {
  leaks = all-kept (λ row. row.leak) p e less (row-kept e.change (row_at p e.section)).leak;
  leaves = λ s other. ap (λ (o : Option ℕ). unwrap_or o 0) (given-other p e s other);
}

flow-kept : (p : Project) (e : Edit) (s : ℕ) → IsProject p → e.section < section_count p.tree → s < section_count p.tree → passes p.tree s e.section ≡ false → flow_at (edited p e) s ≡ flow_at p s
flow-kept p e s is named within off =
    (let less : e.section < length p.sections = subst (λ (n : ℕ). e.section < n) (sym is.count) named in
    get_or-map-range_with_len (flow p.tree (airflows_of (edited_rows p e))) 0 (section_count p.tree) s s 0 within (omega arith)
    ∙ flow-off p.tree (airflows_of p.sections) (airflows_of (edited_rows p e)) e.section s is.tree named (differs p e less) off
    ∙ sym (get_or-map-range_with_len (flow p.tree (airflows_of p.sections)) 0 (section_count p.tree) s s 0 within (omega arith))
    ∙ ap (λ (flows : Flows). slice_index flows.sections s) (sym is.flows))

next-kept : (p : Project) (e : Edit) (s : ℕ) → IsProject p → e.section < section_count p.tree → s < section_count p.tree → is_way_next p.tree e.section (neighbour p.tree s) ≡ false
    → at_neighbour (flow_at (edited p e)) (neighbour p.tree s) ≡ at_neighbour (flow_at p) (neighbour p.tree s)
next-kept p e s is named within off = by (neighbour p.tree s) refl off
  where
    by : (o : Option ℕ) → neighbour p.tree s ≡ o → is_way_next p.tree e.section o ≡ false → at_neighbour (flow_at (edited p e)) o ≡ at_neighbour (flow_at p) o
    by None at away = refl
    by (Some n) at away = (let before = earlier p.tree s n is.tree within at in flow-kept p e n is named (omega arith) away)

-- what a section and its neighbour carry
pub record CarryAsBefore (p : Project) (e : Edit) (s : ℕ) : Type 0 where
  pub own : flow_at (edited p e) s ≡ flow_at p s
  pub next : at_neighbour (flow_at (edited p e)) (neighbour p.tree s) ≡ at_neighbour (flow_at p) (neighbour p.tree s)

same-flows : (p : Project) (e : Edit) (s : ℕ) → (edited p e).flows ≡ p.flows → CarryAsBefore p e s
same-flows p e s same = record {
  own = ap (λ (flows : Flows). slice_index flows.sections s) same;
  next = ap (λ (flows : Flows). at_neighbour (λ n. slice_index flows.sections n) (neighbour p.tree s)) same;
}

carried : (p : Project) (e : Edit) (s : ℕ) (change : Change) → e.change ≡ change → IsProject p → e.section < section_count p.tree → s < section_count p.tree → is_changed p.tree change e.section s ≡ false → CarryAsBefore p e s
carried p e s (Airflow q) at is named within off =
    (let parts = or-both (is_on_way p.tree e.section s) (is_way_next p.tree e.section (neighbour p.tree s)) off in
    record { own = flow-kept p e s is named within parts.0; next = next-kept p e s is named within parts.1 })
carried p e s (Length n) at is named within off = same-flows p e s (flows-kept p e is (subst (λ (n : ℕ). e.section < n) (sym is.count) named) (ap (λ change. (row_with change (row_at p e.section)).airflow) at))
carried p e s (Device n) at is named within off = same-flows p e s (flows-kept p e is (subst (λ (n : ℕ). e.section < n) (sym is.count) named) (ap (λ change. (row_with change (row_at p e.section)).airflow) at))
carried p e s (Preset name) at is named within off = same-flows p e s (flows-kept p e is (subst (λ (n : ℕ). e.section < n) (sym is.count) named) (ap (λ change. (row_with change (row_at p e.section)).airflow) at))

-- ---- what is known of a section

pub numbers-kept : (p : Project) (c : Catalogues) (e : Edit) (s : ℕ) → e.section < length p.sections → numbers_at (edited p e) c s ≡ numbers_at p c s
numbers-kept p c e s less = ap (numbers_named c.sizes) (list-kept p e s less)

besides-kept : (p : Project) (c : Catalogues) (e : Edit) (o : Option ℕ) → e.section < length p.sections → besides_of (edited p e) c o ≡ besides_of p c o
besides-kept p c e None less = refl
besides-kept p c e (Some n) less = ap (map (λ (number : ℕ). Some number)) (numbers-kept p c e n less)

-- a section that isn't changed is as it was
pub sizes-kept : (p : Project) (c : Catalogues) (e : Edit) (s : ℕ) → IsProject p → e.section < section_count p.tree → s < section_count p.tree → is_changed p.tree e.change e.section s ≡ false → section_sizes (edited p e) c s ≡ section_sizes p c s
sizes-kept p c e s is named within off =
    (let less : e.section < length p.sections = subst (λ (n : ℕ). e.section < n) (sym is.count) named in
    let other : s ≢ e.section = off-way p.tree s e.section is.tree named (unchanged-off p.tree e.change e.section s off) in
    let flows = carried p e s e.change refl is named within off in
    section-same p (edited_rows p e) (flows_of p.tree (airflows_of (edited_rows p e))) c s flows.own flows.next (row-other p e s other) (numbers-kept p c e s less) (besides-kept p c e (neighbour p.tree s) less))

-- ---- all beyond a section

-- beyond what isn't changed nothing is
changed-beyond : (t : Tree) (change : Change) (x s y : ℕ) → IsTree t → x < section_count t → y < section_count t → passes t s y ≡ true → is_changed t change x y ≡ true → is_changed t change x s ≡ true
changed-beyond t (Length n) x s y tree named within beyond on = passes-through t s y x tree named beyond on
changed-beyond t (Device n) x s y tree named within beyond on = passes-through t s y x tree named beyond on
changed-beyond t (Preset name) x s y tree named within beyond on = passes-through t s y x tree named beyond on
changed-beyond t (Airflow q) x s y tree named within beyond on =
    or-cases (is_on_way t x y) (is_way_next t x (neighbour t y)) on
    (λ here. or-left (is_on_way t x s) (is_way_next t x (neighbour t s)) (passes-through t s y x tree named beyond here))
    (λ next. by (neighbour t y) refl next)
  where
    by : (o : Option ℕ) → neighbour t y ≡ o → is_way_next t x o ≡ true → (is_on_way t x s || is_way_next t x (neighbour t s)) ≡ true
    by None at next = absurd (cc next)
    by (Some n) at next =
        or-cases (y == s) (passes_from t s (neighbour t y)) (sym (passes-first t s y tree within) ∙ beyond)
        (λ same. (let e : y ≡ s = eqb-true y s same in
        or-right (is_on_way t x s) (is_way_next t x (neighbour t s)) (ap (λ z. is_way_next t x (neighbour t z)) (sym e) ∙ ap (is_way_next t x) at ∙ next)))
        (λ later. or-left (is_on_way t x s) (is_way_next t x (neighbour t s)) (passes-through t s n x tree named (sym (ap (passes_from t s) at) ∙ later) next))

pub unchanged-beyond : (t : Tree) (change : Change) (x s y : ℕ) → IsTree t → x < section_count t → y < section_count t → is_changed t change x s ≡ false → passes t s y ≡ true → is_changed t change x y ≡ false
unchanged-beyond t change x s y tree named within off beyond = by (is_changed t change x y) refl
  where
    by : (b : Bool) → is_changed t change x y ≡ b → b ≡ false
    by false e = refl
    by true e = (let both : true ≡ false = sym (changed-beyond t change x s y tree named within beyond e) ∙ off in absurd (cc both))
