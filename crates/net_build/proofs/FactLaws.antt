-- What the losses of a section come from lies within its bounds.
use Rattle.std.proofs.Common.{◌≡◌, ℕ, zero, suc, [], ◌∷◌, Result, Ok, Err, IfOk, ◌<◌, ◌≤◌, List, map, length, Option, Some, None, IfSome, All, slice_get, refl, ap, sym, ◌∙◌, subst, arith}
use Rattle.std.specs.Prelude.{unwrap_or, option_and_then}
use Rattle.std.specs.Option.{ForSome}
use Rattle.std.proofs.lemmas.Option.{slice_get-get_or}
use Rattle.name_index.specs.Places.{place_of}
use Rattle.duct_definitions.specs.Tree.{neighbour, section_count, at_neighbour}
use Rattle.section_loss.specs.declared.facts.SectionFacts.{SectionFacts}
use Rattle.section_loss.specs.Facts.{IsFacts, IsJoined}
use Rattle.project_file.specs.declared.project.Project.{Project}
use Rattle.project_file.specs.declared.section_row.SectionRow.{SectionRow}
use Rattle.project_file.specs.Projects.{IsProject, IsRow}
use Rattle.net_build.specs.Catalogues.{Catalogues}
use Rattle.net_build.specs.Joining.{table_of_row}
use Rattle.net_build.specs.Rows.{row_at, no_row}
use Rattle.net_build.specs.Sections.{flow_at, section_facts}
use Rattle.net_build.proofs.FlowLaws.{flow-bounds, neighbour-most, neighbour-some}

row-there : (rows : List SectionRow) (s : ℕ) → s < length rows → slice_get rows s ≡ Some (unwrap_or (slice_get rows s) no_row)
row-there rows s within = slice_get-get_or rows s no_row within ∙ ap (λ (row : SectionRow). Some row) (sym (ap (λ o. unwrap_or o no_row) (slice_get-get_or rows s no_row within)))

pub row-is : (p : Project) (s : ℕ) → IsProject p → s < section_count p.tree → IsRow (row_at p s)
row-is p s is within =
    (let n = is.count in
    subst IsRow (sym (ap (λ o. unwrap_or o no_row) (slice_get-get_or p.sections s no_row (omega arith)))) (is.rows s no_row (omega arith)))

pub facts-bounded : (p : Project) (c : Catalogues) (s : ℕ) (facts : SectionFacts) → IsProject p → s < section_count p.tree → facts ≡ section_facts p c s → IsFacts facts
facts-bounded p c s facts is within same =
    (let flow = flow-bounds p s is within in
    let beside = neighbour-most p s is within in
    let row = row-is p s is within in
    subst IsFacts (sym same) (record {
      density = (omega (arith, is.density), omega (arith, is.density));
      flow = (omega (arith, flow.some), omega (arith, flow.most));
      neighbour_flow = omega (arith, beside);
      length = omega (arith, row.length);
      local = omega (arith, row.local);
      device = omega (arith, row.device);
    }))

-- a section with a table has a neighbour
pub facts-joined : (p : Project) (c : Catalogues) (s : ℕ) (facts : SectionFacts) → IsProject p → s < section_count p.tree → facts ≡ section_facts p c s
    → IfSome facts.table (λ t. t < length c.fittings.grids) → IsJoined facts c.fittings
facts-joined p c s facts is within same grid =
    record {
      table = λ t e. at-some facts.table t grid e;
      neighbour_flow = λ t e. subst (λ (f : SectionFacts). 1 ≤ f.neighbour_flow) (sym same) (beside (neighbour p.tree s) refl t (sym (ap (λ f. f.table) same) ∙ e));
    }
  where
    at-some : (o : Option ℕ) (t : ℕ) → IfSome o (λ t. t < length c.fittings.grids) → o ≡ Some t → t < length c.fittings.grids
    at-some None t grid e = absurd (cc e)
    at-some (Some u) t grid e = (let one : u ≡ t = cc in omega arith)

    at-fan : neighbour p.tree s ≡ None → (row_at p s).junction ≡ None
    at-fan e =
        (let n = is.count in
        ap (λ (row : SectionRow). row.junction) (ap (λ o. unwrap_or o no_row) (row-there p.sections s (omega arith)))
        ∙ sym (ap (option_and_then (λ (row : SectionRow). row.junction)) (row-there p.sections s (omega arith)))
        ∙ is.junctions s within e)

    no-table : (o : Option (List ℕ)) (t : ℕ) → o ≡ None → option_and_then (λ name. place_of name c.fittings.names) o ≡ Some t → 1 ≤ 0
    no-table None t e at = absurd (cc at)
    no-table (Some name) t e at = absurd (cc e)

    beside : (o : Option ℕ) → neighbour p.tree s ≡ o → (t : ℕ) → table_of_row c (row_at p s) ≡ Some t → 1 ≤ at_neighbour (flow_at p) (neighbour p.tree s)
    beside (Some n) e t at = neighbour-some p s n is within e
    beside None e t at = absurd (let l = no-table (row_at p s).junction t (at-fan e) at in omega arith)

-- numbers within a bound are so where each is one that is there
pub within-there : {E : Type 0} (r : Result (List (Option ℕ)) E) (ns : List ℕ) (m : ℕ) → IfOk r (λ there. there ≡ map (λ (n : ℕ). Some n) ns) → All (λ n. n < m) ns → IfOk r (All (λ b. ForSome b (λ n. n < m)))
within-there (Ok there) ns m is all = subst (All (λ b. ForSome b (λ n. n < m))) (sym is) (each ns all)
  where
    each : (ns : List ℕ) → All (λ n. n < m) ns → All (λ b. ForSome b (λ n. n < m)) (map (λ (n : ℕ). Some n) ns)
    each [] all k d less = absurd (omega arith)
    each (n ∷ ns) all zero d less = λ x e. (let same : n ≡ x = cc in let l : n < m = all 0 0 (omega arith) in omega arith)
    each (n ∷ ns) all (suc k) d less = each ns (λ i e within. all (suc i) e (omega arith)) k d (omega arith)
within-there (Err e) ns m is all = is
