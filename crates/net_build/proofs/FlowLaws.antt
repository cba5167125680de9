-- The airflow of a section of a project.
use Rattle.std.proofs.Common.{◌≡◌, ℕ, zero, suc, ◌+◌, ◌*◌, ◌<◌, ◌≤◌, List, [], ◌∷◌, map, length, Bool, true, false, not, ◌||◌, cond, Option, Some, None, is_some, slice_index, IfSome, All, refl, ap, sym, ◌∙◌, subst, arith, sum_by, fold, get_or}
use Rattle.std.specs.Prelude.{unwrap_or, nat_le, nat_lt, ◌&&◌, ◌==◌}
use Rattle.std.specs.Int.{div_ceil}
use Rattle.std.specs.List.{flat_map}
use Rattle.std.proofs.lemmas.Grind.{div_ceil_times}
use Rattle.std.proofs.lemmas.Bool.Decides.{nat_tests}
use Rattle.std.proofs.lemmas.List.FromFn.{get_or-map-range_with_len, length-map-range_with_len}
use Rattle.duct_units.specs.Rules.{first_broken}
use Rattle.duct_units.proofs.RuleLaws.{first_broken-append, both_none, rule_holds, none_broken}
use Rattle.duct_definitions.specs.declared.airflow.TheConstants.{MAX_FLOW}
use Rattle.duct_definitions.specs.Airflow.{Airflows, flow, leaf_rules, bound_rules, given_at, leaf_flow, leak_at, with_leak, passing}
use Rattle.duct_definitions.specs.Tree.{Tree, neighbour, section_count, sections, children, is_leaf, at_neighbour, IsTree}
use Rattle.duct_definitions.proofs.FlowLaws.{flow_of_section, children_sections}
use Rattle.duct_definitions.proofs.SectionLists.{children_later}
use Rattle.duct_definitions.proofs.TreeLaws.{earlier}
use Rattle.project_file.specs.declared.project.Project.{Project}
use Rattle.project_file.specs.declared.section_row.SectionRow.{SectionRow}
use Rattle.project_file.specs.Projects.{IsProject, IsRow, airflows_of}
use Rattle.net_build.specs.Sections.{flow_at}

-- ---- no flow is 0

leaked : (leak q : ℕ) → 1 ≤ q → 1 ≤ with_leak leak q
leaked leak q some =
    (let t = div_ceil_times (q * (1000 + leak)) 1000 (omega arith) in
    let more : 1 ≤ q * (1000 + leak) = at-least q (1000 + leak) some (omega arith) in
    least (div_ceil (q * (1000 + leak)) 1000) (q * (1000 + leak)) more t.0)
  where
    at-least : (a b : ℕ) → 1 ≤ a → 1 ≤ b → 1 ≤ a * b
    at-least (suc a) (suc b) x y = grind arith
    at-least zero b x y = absurd (omega arith)
    at-least (suc a) zero x y = absurd (omega arith)

    least : (q n : ℕ) → 1 ≤ n → n ≤ q * 1000 → 1 ≤ q
    least zero n some most = absurd (omega arith)
    least (suc q) n some most = omega arith

-- every airflow that is given is one
abbrev pub AreSome : List (Option ℕ) → Type 0
AreSome given = (s q : ℕ) → given_at given s ≡ Some q → 1 ≤ q

some-given : (o : Option ℕ) → is_some o ≡ true → (q : ℕ) × (o ≡ Some q)
some-given None e = absurd (cc e)
some-given (Some q) e = (q, refl)

leaf-given : (leaf given : Bool) → (not leaf || given) ≡ true → leaf ≡ true → given ≡ true
leaf-given true true e l = refl
leaf-given true false e l = absurd (cc e)
leaf-given false given e l = absurd (cc l)

leaf-some : (t : Tree) (air : Airflows) (s : ℕ) → AreSome air.at_leaves → first_broken (leaf_rules t air.at_leaves s) ≡ None → is_leaf t s ≡ true → 1 ≤ leaf_flow air s
leaf-some t air s some none leaf =
    (let holds = (rule_holds (not (is_leaf t s) || is_some (given_at air.at_leaves s)) _ _ none).0 in
    let q = some-given (given_at air.at_leaves s) (leaf-given (is_leaf t s) (is_some (given_at air.at_leaves s)) holds leaf) in
    subst (λ (o : Option ℕ). 1 ≤ unwrap_or o 0) (sym q.1) (some s q.0 q.1))

first-some : (f : ℕ → ℕ) (xs : List ℕ) → 0 < length xs → All (λ x. 1 ≤ f x) xs → 1 ≤ sum_by f xs
first-some f [] there each = absurd (omega arith)
first-some f (x ∷ xs) there each = (let e : 1 ≤ f x = each 0 0 (omega arith) in let m = grows f (0 + f x) xs in omega arith)
  where
    grows : (f : ℕ → ℕ) (a : ℕ) (xs : List ℕ) → a ≤ fold (λ a x. a + f x) a xs
    grows f a [] = omega arith
    grows f a (x ∷ xs) = (let m = grows f (a + f x) xs in omega arith)

inner-children : (t : Tree) (s : ℕ) → s < section_count t → is_leaf t s ≡ false → 0 < length (children t s)
inner-children t s within inner = tested (length (children t s)) (section_count t) s within inner
  where
    tested : (n count s : ℕ) → s < count → (nat_lt s count && n == 0) ≡ false → 0 < n
    tested n count s within inner = grind (arith, nat_tests)

passing-some : (t : Tree) (air : Airflows) (f : ℕ → ℕ) (s : ℕ) → s < section_count t → AreSome air.at_leaves → first_broken (leaf_rules t air.at_leaves s) ≡ None → All (λ c. 1 ≤ f c) (children t s) → 1 ≤ passing f t air s
passing-some t air f s within some none each = by (is_leaf t s) refl
  where
    by : (b : Bool) → is_leaf t s ≡ b → 1 ≤ passing f t air s
    by true leaf = subst (λ (b : Bool). 1 ≤ cond b (leaf_flow air s) (sum_by f (children t s))) (sym leaf) (leaf-some t air s some none leaf)
    by false inner = subst (λ (b : Bool). 1 ≤ cond b (leaf_flow air s) (sum_by f (children t s))) (sym inner) (first-some f (children t s) (inner-children t s within inner) each)

flow-some : (t : Tree) (air : Airflows) (n s : ℕ) → IsTree t → AreSome air.at_leaves → ((r : ℕ) → r < section_count t → first_broken (leaf_rules t air.at_leaves r) ≡ None) → s < section_count t → section_count t ≤ s + n → 1 ≤ flow t air s
flow-some t air zero s tree some none within deep = absurd (omega arith)
flow-some t air (suc n) s tree some none within deep =
    subst (λ (q : ℕ). 1 ≤ q) (sym (flow_of_section t air tree s within))
    (leaked (leak_at air s) (passing (flow t air) t air s)
    (passing-some t air (flow t air) s within some (none s within)
    (λ i d at.
    let later : s < get_or (children t s) i d = children_later t s tree i d at in
    let below : get_or (children t s) i d < section_count t = children_sections t s i d at in
    flow-some t air n (get_or (children t s) i d) tree some none below (omega arith))))

-- ---- the flows of a project

given-some : (rows : List SectionRow) → All IsRow rows → AreSome (map (λ row. row.airflow) rows)
given-some [] are s q e = absurd (cc e)
given-some (row ∷ rows) are zero q e = (let is : IfSome row.airflow (λ q. (1 ≤ q) × (q ≤ MAX_FLOW)) = (are 0 row (omega arith)).airflow in of-row row.airflow q is e)
  where
    of-row : (o : Option ℕ) (q : ℕ) → IfSome o (λ q. (1 ≤ q) × (q ≤ MAX_FLOW)) → o ≡ Some q → 1 ≤ q
    of-row None q is e = absurd (cc e)
    of-row (Some r) q is e = (let same : r ≡ q = cc in let m = is.0 in omega arith)
given-some (row ∷ rows) are (suc s) q e = given-some rows (λ i d less. are (suc i) d (omega arith)) s q e

pub flows-count : (p : Project) → IsProject p → length p.flows.sections ≡ section_count p.tree
flows-count p is = ap (λ flows. length flows.sections) is.flows ∙ length-map-range_with_len (flow p.tree (airflows_of p.sections)) 0 (section_count p.tree)

pub flow-is : (p : Project) (s : ℕ) → IsProject p → s < section_count p.tree → flow_at p s ≡ flow p.tree (airflows_of p.sections) s
flow-is p s is within = ap (λ flows. slice_index flows.sections s) is.flows ∙ get_or-map-range_with_len (flow p.tree (airflows_of p.sections)) 0 (section_count p.tree) s s 0 within (omega arith)

rules-none : (p : Project) → IsProject p → (first_broken (flat_map (leaf_rules p.tree (airflows_of p.sections).at_leaves) (sections p.tree)) ≡ None) × (first_broken (flat_map (bound_rules (flow p.tree (airflows_of p.sections))) (sections p.tree)) ≡ None)
rules-none p is =
    both_none _ _ (sym (first_broken-append (flat_map (leaf_rules p.tree (airflows_of p.sections).at_leaves) (sections p.tree)) (flat_map (bound_rules (flow p.tree (airflows_of p.sections))) (sections p.tree))) ∙ is.airflows)

pub record HasFlow (q : ℕ) : Type 0 where
  pub some : 1 ≤ q
  pub most : q ≤ MAX_FLOW

within-bound : (a b : ℕ) → nat_le a b ≡ true → a ≤ b
within-bound a b e = grind (arith, nat_tests)

pub flow-bounds : (p : Project) (s : ℕ) → IsProject p → s < section_count p.tree → HasFlow (flow_at p s)
flow-bounds p s is within =
    (let air = airflows_of p.sections in
    let rules = rules-none p is in
    let at_least : 1 ≤ flow p.tree air s = flow-some p.tree air (section_count p.tree) s is.tree (given-some p.sections is.rows)
    (λ r below. none_broken (leaf_rules p.tree air.at_leaves) 0 (section_count p.tree) r rules.0 (omega arith) (omega arith)) within (omega arith) in
    let at_most : flow p.tree air s ≤ MAX_FLOW = within-bound (flow p.tree air s) MAX_FLOW
    (rule_holds (nat_le (flow p.tree air s) MAX_FLOW) _ _ (none_broken (bound_rules (flow p.tree air)) 0 (section_count p.tree) s rules.1 (omega arith) (omega arith))).0 in
    let same = flow-is p s is within in
    record { some = omega arith; most = omega arith })

-- the neighbour has an airflow too
pub neighbour-most : (p : Project) (s : ℕ) → IsProject p → s < section_count p.tree → at_neighbour (flow_at p) (neighbour p.tree s) ≤ MAX_FLOW
neighbour-most p s is within = of (neighbour p.tree s) refl
  where
    of : (o : Option ℕ) → neighbour p.tree s ≡ o → at_neighbour (flow_at p) o ≤ MAX_FLOW
    of None e = omega arith
    of (Some n) e = (let b = earlier p.tree s n is.tree within e in (flow-bounds p n is (omega arith)).most)

pub neighbour-some : (p : Project) (s n : ℕ) → IsProject p → s < section_count p.tree → neighbour p.tree s ≡ Some n → 1 ≤ at_neighbour (flow_at p) (neighbour p.tree s)
neighbour-some p s n is within e =
    (let b = earlier p.tree s n is.tree within e in
    subst (λ (o : Option ℕ). 1 ≤ at_neighbour (flow_at p) o) (sym e) (flow-bounds p n is (omega arith)).some)
