-- What sections carry where one leaf is given another airflow.
use Rattle.std.proofs.Common.{◌≡◌, ◌≢◌, ℕ, zero, suc, ◌<◌, Bool, true, false, cond, get_or, sum_by, refl, ap, ◌∙◌}
use Rattle.duct_definitions.specs.Airflow.{Airflows, flow, flow_within, passing, leaf_flow, leak_at, with_leak}
use Rattle.duct_definitions.specs.Tree.{Tree, IsTree, section_count, neighbour, children, is_leaf, is_number, passes}
use Rattle.duct_definitions.proofs.FlowLaws.{sum_by-same}
use Rattle.duct_definitions.proofs.SectionLists.{chosen_below, chosen_pass, is_number-some}
use Rattle.project_edit.proofs.Ways.{off-way, child-off-way}

-- airflows that differ at leaf x alone
pub record DiffersAt (x : ℕ) (air other : Airflows) : Type 0 where
  pub leaks : other.leaks ≡ air.leaks
  pub leaves : (s : ℕ) → s ≢ x → leaf_flow other s ≡ leaf_flow air s

within-off : (t : Tree) (air other : Airflows) (x : ℕ) → IsTree t → x < section_count t → DiffersAt x air other → (n s : ℕ) → passes t s x ≡ false
    → flow_within n t other s ≡ flow_within n t air s
within-off t air other x tree named differs zero s off = refl
within-off t air other x tree named differs (suc n) s off =
    ap (λ leaks. with_leak (leak_at (record { at_leaves = other.at_leaves; leaks = leaks }) s) (passing (flow_within n t other) t other s)) differs.leaks
    ∙ ap (with_leak (leak_at air s))
    (ap (λ q. cond (is_leaf t s) q (sum_by (flow_within n t other) (children t s))) (differs.leaves s (off-way t s x tree named off))
    ∙ ap (λ q. cond (is_leaf t s) (leaf_flow air s) q)
    (sum_by-same (flow_within n t other) (flow_within n t air) (children t s)
    (λ i d at.
    let test : ℕ → Bool = λ c. is_number s (neighbour t c) in
    let c : ℕ = get_or (children t s) i d in
    let below : c < section_count t = chosen_below test (section_count t) i d at in
    let is : test c ≡ true = chosen_pass test (section_count t) i d at in
    within-off t air other x tree named differs n c (child-off-way t s c x tree below named (is_number-some s (neighbour t c) is) off))))

-- a section that the way of x doesn't pass carries what it carried
pub flow-off : (t : Tree) (air other : Airflows) (x s : ℕ) → IsTree t → x < section_count t → DiffersAt x air other → passes t s x ≡ false → flow t other s ≡ flow t air s
unfolding flow
flow-off t air other x s tree named differs off = within-off t air other x tree named differs (section_count t) s off
