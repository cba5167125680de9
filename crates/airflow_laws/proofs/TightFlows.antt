-- Without leaks the airflow of a section is the sum beyond it, where a leaf weighs its airflow and nothing else weighs.
use Rattle.std.proofs.Common.{◌≡◌, ℕ, zero, suc, ◌+◌, ◌*◌, ◌<◌, ◌≤◌, Bool, true, false, ◌&&◌, cond, refl, arith, ap, sym, ◌∙◌, get_or, List, [], ◌∷◌}
use Rattle.std.specs.Prelude.{sum_by, filter}
use Rattle.std.proofs.lemmas.Grind.{div_ceil_times}
use Rattle.std.proofs.lemmas.Bool.{and_parts, eqb-true, false≢true}
use Rattle.std.proofs.lemmas.List.{nil_from_length}
use Rattle.duct_units.specs.declared.side.Side.{Side}
use Rattle.duct_units.specs.Side.{same_side}
use Rattle.duct_units.proofs.SideLaws.{same_side-same, same_side-swap}
use Rattle.design_laws.proofs.Among.{among-list_any}
use Rattle.design_laws.proofs.Beyond.{IsBeyond-way}
use Rattle.duct_definitions.specs.declared.airflow.TheConstants.{THOUSANDTHS}
use Rattle.duct_definitions.specs.Airflow.{Airflows, leaf_flow, with_leak, passing, flow, side_flow}
use Rattle.duct_definitions.specs.Dampers.{leaves_beyond}
use Rattle.duct_definitions.specs.Tree.{Tree, IsTree, section_count, sections, side, children, is_leaf, way, passes, roots, leaves}
use Rattle.duct_definitions.proofs.FlowLaws.{flow_of_section, passing-same, sum_by-same, children_sections}
use Rattle.duct_definitions.proofs.SectionLists.{children_later, chosen_below}
use Rattle.tree_sums.specs.Route.{Fan, At, same, goes_by}
use Rattle.tree_sums.specs.Sums.{total, gated, beyond}
use Rattle.tree_sums.proofs.Split.{beyond-section, beyond-fan}
use Rattle.tree_sums.proofs.Totals.{total-cong}
use Rattle.least_laws.proofs.DesignSizes.{goes_by-side}
use Rattle.least_laws.proofs.TreeLists.{children-same, roots-same}
use Rattle.least_laws.proofs.TreePlaces.{next_in, next_in-falls, passes-goes_by, sum_by-filter}
use Rattle.airflow_laws.specs.Tight.{IsTight}

-- without a leak a section carries what is to pass it
with_leak-none : (q : ℕ) → with_leak 0 q ≡ q
with_leak-none q = let times = div_ceil_times (q * (THOUSANDTHS + 0)) THOUSANDTHS (omega arith) in grind (arith, times)

-- a leaf weighs its airflow
abbrev weight : Tree → Airflows → ℕ → ℕ
weight t air s = gated (is_leaf t s) (leaf_flow air s)

-- a test that follows from two others adds nothing to them
gated-follows : (follows a b : Bool) (x : ℕ) → (a ≡ true → b ≡ true → follows ≡ true) → gated ((follows && a) && b) x ≡ gated b (gated a x)
gated-follows true true true x then = refl
gated-follows true true false x then = refl
gated-follows true false true x then = refl
gated-follows true false false x then = refl
gated-follows false true true x then = absurd (false≢true (then refl refl))
gated-follows false true false x then = refl
gated-follows false false true x then = refl
gated-follows false false false x then = refl

filter-again : (p q : ℕ → Bool) (xs : List ℕ) → filter p (filter q xs) ≡ filter (λ x. q x && p x) xs
filter-again p q [] = refl
filter-again p q (x ∷ xs) =
    elim (q x) as (λ b. filter p (cond b (x ∷ filter q xs) (filter q xs)) ≡ cond (b && p x) (x ∷ filter (λ y. q y && p y) xs) (filter (λ y. q y && p y) xs)) [
      | true ↦ ap (λ ys. cond (p x) (x ∷ ys) ys) (filter-again p q xs)
      | false ↦ filter-again p q xs
    ]

and-gated : (a b : Bool) (x : ℕ) → gated (a && b) x ≡ gated a (gated b x)
and-gated true b x = refl
and-gated false b x = refl

module _ (t : Tree) (air : Airflows) (tree : IsTree t) where
  -- what all leaves beyond a section weigh
  abbrev all_beyond : ℕ → ℕ
  all_beyond s = beyond (next_in t) (weight t air) (section_count t) (At s)

  -- a leaf whose way passes a section is of its side
  of_its_side : (s l : ℕ) → is_leaf t l ≡ true → passes t s l ≡ true → same_side (side t l) (side t s) ≡ true
  of_its_side s l leaf passed =
      ap (λ x. same_side x (side t s)) (IsBeyond-way t s l tree leaf (among-list_any s (way t l) passed)).same ∙ same_side-same (side t s)

  leaves_weigh : (s : ℕ) → sum_by (leaf_flow air) (leaves_beyond t s) ≡ all_beyond s
  leaves_weigh s =
      ap (sum_by (leaf_flow air)) (filter-again (passes t s) (λ l. same_side (side t l) (side t s) && is_leaf t l) (sections t))
      ∙ sum_by-filter (leaf_flow air) (λ l. (same_side (side t l) (side t s) && is_leaf t l) && passes t s l) (section_count t)
      ∙ total-cong (λ l. gated ((same_side (side t l) (side t s) && is_leaf t l) && passes t s l) (leaf_flow air l)) (λ l. gated (goes_by (next_in t) (At s) l) (weight t air l)) (section_count t)
      (λ l less.
      gated-follows (same_side (side t l) (side t s)) (is_leaf t l) (passes t s l) (leaf_flow air l) (of_its_side s l)
      ∙ ap (λ b. gated b (weight t air l)) (passes-goes_by t tree s l))

  -- the children of a section, weighed as the sections next to it
  children_weigh : (s : ℕ) → sum_by all_beyond (children t s) ≡ total (λ c. gated (same (next_in t c) (At s)) (all_beyond c)) (section_count t)
  children_weigh s =
      ap (sum_by all_beyond) (children-same t s)
      ∙ sum_by-filter all_beyond (λ c. same (next_in t c) (At s)) (section_count t)

  splits : (s : ℕ) → s < section_count t → all_beyond s ≡ weight t air s + sum_by all_beyond (children t s)
  splits s within =
      beyond-section (next_in t) (next_in-falls t tree) (weight t air) (section_count t) s within
      ∙ ap (λ n. weight t air s + n) (sym (children_weigh s))

  -- no child stands beyond a leaf
  leaf_alone : (s : ℕ) → is_leaf t s ≡ true → children t s ≡ []
  leaf_alone s leaf = nil_from_length (children t s) (eqb-true _ _ (and_parts _ _ leaf).1)

  passing_is : (s : ℕ) → passing all_beyond t air s ≡ weight t air s + sum_by all_beyond (children t s)
  passing_is s =
      elim (is_leaf t s) as (λ b. is_leaf t s ≡ b → cond b (leaf_flow air s) (sum_by all_beyond (children t s)) ≡ gated b (leaf_flow air s) + sum_by all_beyond (children t s)) [
        | true ↦ λ leaf.
            let none : sum_by all_beyond (children t s) ≡ 0 = ap (sum_by all_beyond) (leaf_alone s leaf) in
            omega arith
        | false ↦ λ inner. (let same : sum_by all_beyond (children t s) ≡ 0 + sum_by all_beyond (children t s) = omega arith in same)
      ] refl

  module _ (tight : IsTight t air) where
    -- as deep as there are sections beyond
    flow_within_is : (k s : ℕ) → section_count t ≤ k + s → s < section_count t → flow t air s ≡ all_beyond s
    flow_within_is zero s deep within = absurd (omega arith)
    flow_within_is (suc k) s deep within =
        flow_of_section t air tree s within
        ∙ ap (λ leak. with_leak leak (passing (flow t air) t air s)) (tight s within)
        ∙ with_leak-none (passing (flow t air) t air s)
        ∙ passing-same (flow t air) all_beyond t air s
        (λ i d at.
        let later : s < get_or (children t s) i d = children_later t s tree i d at in
        let below : get_or (children t s) i d < section_count t = children_sections t s i d at in
        flow_within_is k (get_or (children t s) i d) (omega arith) below)
        ∙ passing_is s
        ∙ sym (splits s within)

    flow_is : (s : ℕ) → s < section_count t → flow t air s ≡ all_beyond s
    flow_is s within = flow_within_is (section_count t) s (omega arith) within

    pub tight_section : (s : ℕ) → s < section_count t → flow t air s ≡ sum_by (leaf_flow air) (leaves_beyond t s)
    tight_section s within = flow_is s within ∙ sym (leaves_weigh s)

    -- what all leaves of a side weigh
    side_weighs : (x : Side) → sum_by (leaf_flow air) (leaves t x) ≡ beyond (next_in t) (weight t air) (section_count t) (Fan x)
    side_weighs x =
        sum_by-filter (leaf_flow air) (λ l. same_side (side t l) x && is_leaf t l) (section_count t)
        ∙ total-cong (λ l. gated (same_side (side t l) x && is_leaf t l) (leaf_flow air l)) (λ l. gated (goes_by (next_in t) (Fan x) l) (weight t air l)) (section_count t)
        (λ l less.
        and-gated (same_side (side t l) x) (is_leaf t l) (leaf_flow air l)
        ∙ ap (λ b. gated b (weight t air l)) (same_side-swap (side t l) x ∙ sym (goes_by-side t tree x l)))

    pub tight_side : (x : Side) → side_flow t air x ≡ sum_by (leaf_flow air) (leaves t x)
    tight_side x =
        sum_by-same (flow t air) all_beyond (roots t x) (λ i d at. flow_is (get_or (roots t x) i d) (chosen_below _ (section_count t) i d at))
        ∙ ap (sum_by all_beyond) (roots-same t x)
        ∙ sum_by-filter all_beyond (λ c. same (next_in t c) (Fan x)) (section_count t)
        ∙ sym (beyond-fan (next_in t) (next_in-falls t tree) (weight t air) (section_count t) x)
        ∙ sym (side_weighs x)
