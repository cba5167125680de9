-- The laws of the least in a network: from its children's leasts, by the recursion, as one value.
use Rattle.std.proofs.Common.{◌≡◌, ℕ, zero, suc, ◌+◌, ◌<◌, ◌≤◌, refl, arith, ap, sym, subst, Option, Some, None}
use Rattle.duct_definitions.specs.Tree.{IsTree, section_count}
use Rattle.duct_definitions.specs.Network.{Network, columns}
use Rattle.least_laws.specs.Least.{IsLeast}
use Rattle.duct_definitions.proofs.TreeLaws.{earlier}
use Rattle.least_laws.specs.LeastFromChildren.{least_from, least_within, least_in, AreLeasts}
use Rattle.least_laws.proofs.LeastOfSection.{least-step}
use Rattle.least_laws.proofs.TreePlaces.{next_in-falls}
use Rattle.least_laws.proofs.DuctsOf.{ducts_of, beside-columns, columns-child, least-from_sum, sum_from-least_from, sums-from_leasts}

pub least_of_section : (net : Network) → IsTree net.tree → (leasts : ℕ → ℕ → ℕ → Option ℕ) (s g budget : ℕ)
    → s < section_count net.tree → g < columns net s → AreLeasts net s leasts
    → IsLeast net s g budget (least_from net leasts s g budget)
least_of_section net tree leasts s g budget within beside known =
    subst (IsLeast net s g budget) (sum_from-least_from net leasts s g budget)
    (least-from_sum net tree s g budget _
    (least-step (ducts_of net) (next_in-falls net.tree tree) leasts s within
    (sums-from_leasts net tree s leasts known) g budget (beside-columns net s g beside)))

least_within-is : (net : Network) → IsTree net.tree → (n s g budget : ℕ) → s < section_count net.tree
    → section_count net.tree ≤ s + n → g < columns net s → IsLeast net s g budget (least_within n net s g budget)
least_within-is net tree zero s g budget within enough beside = absurd (omega arith)
least_within-is net tree (suc n) s g budget within enough beside =
    least_of_section net tree (least_within n net) s g budget within beside
    (λ c k rest less child in_range.
    let before = earlier net.tree c s tree less child in
    let same = columns-child net c s child in
    least_within-is net tree n c k rest less (omega arith) (omega arith))

pub least_in-is : (net : Network) → IsTree net.tree → (s g budget : ℕ) → s < section_count net.tree → g < columns net s
    → IsLeast net s g budget (least_in net s g budget)
unfolding least_in
least_in-is net tree s g budget within beside =
    least_within-is net tree (section_count net.tree) s g budget within (omega arith) beside

-- two leasts are equal
pub least_is_one : (net : Network) (s g budget : ℕ) (x y : Option ℕ)
    → IsLeast net s g budget x → IsLeast net s g budget y → x ≡ y
least_is_one net s g budget None None one other = refl
least_is_one net s g budget None (Some v) one other = absurd (one other.reached.0 other.reached.1.0)
least_is_one net s g budget (Some v) None one other = absurd (other one.reached.0 one.reached.1.0)
least_is_one net s g budget (Some v) (Some w) one other =
    let below = one.least other.reached.0 other.reached.1.0 in
    let above = other.least one.reached.0 one.reached.1.0 in
    let first = one.reached.1.1 in
    let second = other.reached.1.1 in
    ap Some (omega arith)

-- each least is what the recursion gives
pub least_in-unique : (net : Network) → IsTree net.tree → (s g budget : ℕ) (o : Option ℕ) → s < section_count net.tree
    → g < columns net s → IsLeast net s g budget o → o ≡ least_in net s g budget
least_in-unique net tree s g budget o within beside least =
    least_is_one net s g budget o (least_in net s g budget) least (least_in-is net tree s g budget within beside)

-- the recursion gives the children's leasts
pub least_in-children : (net : Network) → IsTree net.tree → (s : ℕ) → AreLeasts net s (least_in net)
least_in-children net tree s c k rest less child in_range =
    let same = columns-child net c s child in
    least_in-is net tree c k rest less (omega arith)

-- one step of the recursion
pub least_in-step : (net : Network) → IsTree net.tree → (s g budget : ℕ) → s < section_count net.tree
    → g < columns net s → least_in net s g budget ≡ least_from net (least_in net) s g budget
least_in-step net tree s g budget within beside =
    sym (least_in-unique net tree s g budget (least_from net (least_in net) s g budget) within beside
    (least_of_section net tree (least_in net) s g budget within beside (least_in-children net tree s)))
