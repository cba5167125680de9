-- The front of a side, root by root.
use Rattle.std.proofs.Common.{◌≡◌, ℕ, ◌+◌, ◌*◌, ◌<◌, ◌≤◌, ◌^◌, true, refl, ap, sym, ◌∙◌, arith, subst, List, [], ◌∷◌, ◌++◌, Option, Some, None, length, take, get_or}
use Rattle.std.specs.Prelude.{All, is_none, nat_lt, ◌&&◌}
use Rattle.std.proofs.lemmas.Bool.{and_parts}
use Rattle.std.proofs.lemmas.List.{length-take}
use Rattle.std.proofs.lemmas.List.Elements.{All-weaker}
use Rattle.std.proofs.lemmas.List.FromFn.{length-range_with_len}
use Rattle.pareto_front.specs.declared.point.TheConstants.{COST_LIMIT}
use Rattle.pareto_front.specs.declared.point.Point.{Point}
use Rattle.pareto_front.specs.Front.{NeedsWithin, CostsWithin, cheapest}
use Rattle.duct_units.specs.declared.side.Side.{Side}
use Rattle.duct_definitions.specs.declared.limits.TheConstants.{MAX_SECTIONS}
use Rattle.duct_definitions.specs.Tree.{Tree, IsTree, section_count, sections, neighbour, side, is_root, roots}
use Rattle.duct_units.specs.Side.{same_side}
use Rattle.duct_definitions.specs.Network.{Network, IsNetwork, columns, columns_beside, cap}
use Rattle.least_laws.specs.Least.{IsLeast}
use Rattle.duct_definitions.proofs.SectionLists.{chosen_pass}
use Rattle.duct_definitions.proofs.TreeLaws.{few_sections}
use Rattle.least_laws.proofs.Leasts.{least_in-unique}
use Rattle.pareto_front.specs.FrontSum.{greatest_together, IsTotal, CostsAlike}
use Rattle.contract_join.specs.Join.{AreSumOf, AddsSection, HasRoom}
use Rattle.contract_join.proofs.Adding.{AddsSection-front, IsSumOf, IsSumOf-total}
use Rattle.contract_join.specs.SectionFronts.{SectionData, AreFrontsOf, most_beyond}
use Rattle.std.proofs.lemmas.Option.{slice_get_read}
use Rattle.contract_join.proofs.Closing.{length-filter-le}
use Rattle.contract_join.proofs.Fronts.{times-most_beyond}

none-is : (o : Option ℕ) → is_none o ≡ true → o ≡ None
none-is None is = refl
none-is (Some n) is = absurd (cc is)

-- roots stand at the fan
pub roots-at_fan : (net : Network) (x : Side) → All (λ s. neighbour net.tree s ≡ None) (roots net.tree x)
roots-at_fan net x = λ i d within.
    let r : ℕ = get_or (roots net.tree x) i d in
    let passed = chosen_pass (λ s. same_side (side net.tree s) x && is_root net.tree s) (section_count net.tree) i d within in
    let root = (and_parts (same_side (side net.tree r) x) (is_root net.tree r) passed).1 in
    none-is (neighbour net.tree r) (and_parts (nat_lt r (section_count net.tree)) (is_none (neighbour net.tree r)) root).1

pub roots-few : (t : Tree) (x : Side) → IsTree t → length (roots t x) ≤ MAX_SECTIONS
roots-few t x tree =
    let some = length-filter-le (λ s. same_side (side t s) x && is_root t s) (sections t) in
    let all = length-range_with_len 0 (section_count t) in
    let few = few_sections t tree in
    omega arith

pub side-below : (net : Network) → IsNetwork net → (x : Side) (sum : List Point) → CostsWithin (length (roots net.tree x) * most_beyond net) sum
    → All (λ point. point.cost < COST_LIMIT) sum
side-below net valid x sum costs =
    let most = times-most_beyond net valid.tree (length (roots net.tree x)) (roots-few net.tree x valid.tree) in
    All-weaker (λ point. point.cost ≤ length (roots net.tree x) * most_beyond net) (λ point. point.cost < COST_LIMIT) (λ point low. omega arith) sum costs

-- a section at the fan, and its entry
module _ (net : Network) (s : ℕ) (in_range : s < section_count net.tree) (at_fan : neighbour net.tree s ≡ None) where
  module _ (entries : List SectionData) (entry : SectionData) (are : AreFrontsOf net entries) (is : entry ≡ get_or entries s entry) where
    found : (entry.net ≡ net) × (entry.section ≡ s)
    found = let count = are.count in are.each s entry (slice_get_read entries (length entries) s entry refl (omega arith) is)

    pub root-columns : columns entry.net entry.section ≡ 1
    root-columns =
        ap (λ (n : Network). columns n entry.section) found.0 ∙ ap (columns net) found.1 ∙ ap (columns_beside net) at_fan

    pub root-costs : (front : List Point) → CostsWithin (most_beyond entry.net) front → CostsWithin (most_beyond net) front
    root-costs front costs = subst (λ (n : Network). CostsWithin (most_beyond n) front) found.0 costs

    pub root-added : IsNetwork net → (sum : List (List Point)) (front : List Point) (new : List (List Point))
        → CostsAlike (sum ++ front ∷ []) new
        → ((budget : ℕ) → budget ≤ cap entry.net → IsLeast entry.net entry.section 0 budget (cheapest front budget))
        → NeedsWithin (cap entry.net) front → CostsWithin (most_beyond entry.net) front
        → AddsSection net s 0 sum new
    root-added valid sum front new alike least needs costs =
        let one : columns net s ≡ 1 = ap (columns_beside net) at_fan in
        AddsSection-front net sum front (root-costs front costs) 0 s new alike
        (λ budget in_cap.
        least_in-unique net valid.tree s 0 budget (cheapest front budget) in_range (omega arith)
        (subst (λ (r : ℕ). IsLeast net r 0 budget (cheapest front budget)) found.1
        (subst (λ (n : Network). IsLeast n entry.section 0 budget (cheapest front budget)) found.0
        (least budget (subst (λ (n : Network). budget ≤ cap n) (sym found.0) in_cap)))))
        (subst (λ (n : Network). NeedsWithin (cap n) front) found.0 needs)

-- after the first i sections there is room for one more
pub first-room : (net : Network) → IsNetwork net → (sections : List ℕ) (i : ℕ) → length sections ≤ MAX_SECTIONS → i < length sections
    → (fronts : List (List Point)) → AreSumOf net 0 (take i sections) fronts → HasRoom net fronts
first-room net valid sections i few within fronts are =
    let most = times-most_beyond net valid.tree (length (take i sections) + 1) (let long = length-take i sections in omega arith) in
    let costs = are.costs in
    omega arith

-- what all roots cost together
module _ (net : Network) (x : Side) (t : Tree) (sections : List ℕ) (tree : t ≡ net.tree) (value : sections ≡ roots t x) where
  pub roots-are : sections ≡ roots net.tree x
  roots-are = value ∙ ap (λ (u : Tree). roots u x) tree

  module _ (fronts : List (List Point)) (are : AreSumOf net 0 sections fronts) where
    all : AreSumOf net 0 (roots net.tree x) fronts
    all = subst (λ (l : List ℕ). AreSumOf net 0 l fronts) roots-are are

    pub roots_fit : IsNetwork net → greatest_together fronts < 2 ^ 64
    roots_fit valid =
        let most = times-most_beyond net valid.tree (length (roots net.tree x)) (roots-few net.tree x valid.tree) in
        let costs = all.costs in
        omega arith

    pub roots-total : (front : List Point) → IsTotal fronts front → IsSumOf net 0 (roots net.tree x) front
    roots-total front total = IsSumOf-total net 0 (roots net.tree x) fronts front all total
