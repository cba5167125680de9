-- What a section carries, from what its children carry.
use Rattle.std.proofs.Common.{◌≡◌, ℕ, zero, suc, ◌+◌, ◌<◌, ◌≤◌, List, [], ◌∷◌, All, sum_by, cond, get_or, refl, ap, ◌∙◌, sym, arith}
use Rattle.std.proofs.lemmas.List.Sums.{sum_by-cons}
use Rattle.duct_definitions.specs.Tree.{Tree, IsTree, section_count, children, is_leaf}
use Rattle.duct_definitions.specs.Airflow.{Airflows, leaf_flow, leak_at, with_leak, passing, flow_within, flow}
use Rattle.duct_definitions.proofs.SectionLists.{children_later, chosen_below}

-- sums of numbers that are the same at each item
pub sum_by-same : {X : Type 0} (f g : X → ℕ) (xs : List X) → All (λ x. f x ≡ g x) xs → sum_by f xs ≡ sum_by g xs
sum_by-same f g [] same = refl
sum_by-same f g (x ∷ xs) same =
    let first = same 0 x (omega arith) in
    let rest = sum_by-same f g xs (λ k d within. same (suc k) d (omega arith)) in
    let left = sum_by-cons f x xs in
    let right = sum_by-cons g x xs in
    omega arith

-- what is to pass a section, where what its children carry is the same
pub passing-same : (f g : ℕ → ℕ) (t : Tree) (air : Airflows) (s : ℕ) → All (λ c. f c ≡ g c) (children t s)
    → passing f t air s ≡ passing g t air s
passing-same f g t air s same =
    ap (λ sum. cond (is_leaf t s) (leaf_flow air s) sum) (sum_by-same f g (children t s) same)

-- children are sections
pub children_sections : (t : Tree) (s : ℕ) → All (λ c. c < section_count t) (children t s)
children_sections t s = chosen_below _ (section_count t)

-- as deep as there are sections beyond is deep enough
flow_within-same : (t : Tree) (air : Airflows) → IsTree t → (j k s : ℕ) → section_count t ≤ j + s → section_count t ≤ k + s
    → s < section_count t → flow_within j t air s ≡ flow_within k t air s
flow_within-same t air tree zero k s deep other within = absurd (omega arith)
flow_within-same t air tree (suc j) zero s deep other within = absurd (omega arith)
flow_within-same t air tree (suc j) (suc k) s deep other within =
    ap (with_leak (leak_at air s))
    (passing-same (flow_within j t air) (flow_within k t air) t air s (λ i d at.
    let later : s < get_or (children t s) i d = children_later t s tree i d at in
    let below : get_or (children t s) i d < section_count t = children_sections t s i d at in
    flow_within-same t air tree j k (get_or (children t s) i d) (omega arith) (omega arith) below))

-- what a section carries is what is to pass it, with its leak
pub flow_of_section : (t : Tree) (air : Airflows) → IsTree t → (s : ℕ) → s < section_count t
    → flow t air s ≡ with_leak (leak_at air s) (passing (flow t air) t air s)
unfolding flow
flow_of_section t air tree s within =
    let n : ℕ = section_count t in
    flow_within-same t air tree n (suc n) s (omega arith) (omega arith) within
