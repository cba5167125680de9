-- The fronts of a section from the sums of its children, size by size.
use Rattle.std.proofs.Common.{◌≡◌, ℕ, ◌+◌, ◌-◌, ◌*◌, ◌<◌, ◌≤◌, ◌^◌, cond, nat_le, Bool, true, false, refl, ap, sym, ◌∙◌, arith, inl, inr, subst, List, [], ◌∷◌, ◌++◌, Option, Some, None, length, get_or}
use Rattle.std.specs.Prelude.{All, filter}
use Rattle.std.proofs.lemmas.Bool.Decides.{leb_tells}
use Rattle.std.proofs.lemmas.List.{get_or_append_left, get_or_at, length_push, get_or_default}
use Rattle.std.proofs.lemmas.List.Elements.{All-push, All-weaker}
use Rattle.std.proofs.lemmas.List.FromFn.{length-range_with_len}
use Rattle.pareto_front.specs.declared.point.Point.{Point}
use Rattle.pareto_front.specs.Front.{IsFront, NeedsWithin, CostsWithin, cheapest, plus, shifted}
use Rattle.pareto_front.proofs.Points.{cheapest-need}
use Rattle.duct_definitions.specs.declared.design.Pair.{Pair}
use Rattle.duct_definitions.specs.declared.limits.TheConstants.{MAX_SECTIONS}
use Rattle.duct_definitions.specs.Tree.{Tree, IsTree, section_count, sections, children, neighbour, is_number}
use Rattle.duct_definitions.specs.Network.{Network, IsNetwork, IsBounded, size_count, columns, pair_at, cap}
use Rattle.least_laws.specs.Least.{IsLeast}
use Rattle.duct_definitions.proofs.TreeLaws.{few_sections}
use Rattle.duct_units.specs.Prices.{both_of}
use Rattle.least_laws.specs.Prices.{least_below, sum_of, with_pair}
use Rattle.least_laws.specs.LeastFromChildren.{least_in, least_with, IsExact}
use Rattle.least_laws.proofs.Bounds.{least_bounded}
use Rattle.least_laws.proofs.Leasts.{least_in-is, least_in-step}
use Rattle.contract_join.specs.SectionFronts.{front_of, most_beyond, AreExact}
use Rattle.contract_join.specs.Join.{AreSums}
use Rattle.contract_join.proofs.Fronts.{All-front_of, front_of-get_or, times-most_beyond}

-- the rest matters only within what the loss leaves of the budget
with_pair-same : (pair : Pair) (budget : ℕ) (one other : ℕ → Option ℕ)
    → ((rest : ℕ) → rest ≤ budget → one rest ≡ other rest) → with_pair (Some pair) budget one ≡ with_pair (Some pair) budget other
with_pair-same pair budget one other same =
    ap (λ o. cond (nat_le pair.loss budget) (both_of (Some pair.price) o) None) (same (budget - pair.loss) (omega arith))

plus-both : (price : ℕ) (cost : Option ℕ) → plus price cost ≡ both_of (Some price) cost
plus-both price None = refl
plus-both price (Some c) = ap Some (let same : c + price ≡ price + c = omega arith in same)

-- what a front costs with a pair's loss and price more
shifted-with_pair : (pair : Pair) (front : List Point) (budget : ℕ)
    → shifted front pair.loss pair.price budget ≡ with_pair (Some pair) budget (cheapest front)
shifted-with_pair pair front budget =
    ap (λ o. cond (nat_le pair.loss budget) o None) (plus-both pair.price (cheapest front (budget - pair.loss)))

pub length-filter-le : (test : ℕ → Bool) (xs : List ℕ) → length (filter test xs) ≤ length xs
length-filter-le test [] = omega arith
length-filter-le test (x ∷ xs) =
    let rest = length-filter-le test xs in
    elim (test x) as (λ b. length (cond b (x ∷ filter test xs) (filter test xs)) ≤ length (x ∷ xs)) [
      | true ↦ omega arith
      | false ↦ omega arith
    ]

pub children-few : (t : Tree) (s : ℕ) → IsTree t → length (children t s) ≤ MAX_SECTIONS
children-few t s tree =
    let some = length-filter-le (λ c. is_number s (neighbour t c)) (sections t) in
    let all = length-range_with_len 0 (section_count t) in
    let few = few_sections t tree in
    omega arith

module _ (net : Network) (valid : IsNetwork net) (s : ℕ) (sums : List (List Point)) (are_sums : AreSums net s sums) where
  module _ (k : ℕ) (less : k < size_count net s) where
    within : k < length sums
    within = let count = are_sums.count in omega arith

    pub sum_costs : (pair : Pair) → IsBounded (Some pair) → All (λ point. point.cost + pair.price + 1 < 2 ^ 64) (front_of sums k)
    sum_costs pair bounded =
        let most = times-most_beyond net valid.tree (length (children net.tree s)) (children-few net.tree s valid.tree) in
        let price = bounded.1 in
        All-weaker (λ point. point.cost ≤ length (children net.tree s) * most_beyond net) (λ point. point.cost + pair.price + 1 < 2 ^ 64)
        (λ point low. omega arith)
        (front_of sums k) (All-front_of (CostsWithin (length (children net.tree s) * most_beyond net)) sums k are_sums.costs within)

    -- a size that can be joined
    pub least-joined : (g budget : ℕ) (pair : Pair) → pair_at net s k g ≡ Some pair → budget ≤ cap net
        → shifted (front_of sums k) pair.loss pair.price budget ≡ least_with net (least_in net) s g budget k
    least-joined g budget pair is in_cap =
        shifted-with_pair pair (front_of sums k) budget
        ∙ with_pair-same pair budget (cheapest (front_of sums k)) (λ rest. sum_of (λ c. least_in net c k rest) (children net.tree s))
        (λ rest low. are_sums.value k rest less (omega arith))
        ∙ ap (λ o. with_pair o budget (λ rest. sum_of (λ c. least_in net c k rest) (children net.tree s))) (sym is)

    -- and one that can't
    pub least-unjoined : (g budget : ℕ) → pair_at net s k g ≡ None → least_with net (least_in net) s g budget k ≡ None
    least-unjoined g budget none = ap (λ o. with_pair o budget (λ rest. sum_of (λ c. least_in net c k rest) (children net.tree s))) none

  pub least-all : (g budget : ℕ) → g < columns net s
      → least_below (least_with net (least_in net) s g budget) (size_count net s) ≡ least_in net s g budget
  least-all g budget beside = sym (least_in-step net valid.tree s g budget are_sums.in_range beside)

-- the fronts beside the first sizes of the neighbour
pub record AreBeside (net : Network) (s : ℕ) (fronts : List (List Point)) (n : ℕ) : Type 0 where
  pub count : length fronts ≡ n
  pub rising : All IsFront fronts
  pub value : (g budget : ℕ) → g < n → budget ≤ cap net → cheapest (front_of fronts g) budget ≡ least_in net s g budget
  pub needs : All (NeedsWithin (cap net)) fronts

pub front_of-left : (fronts : List (List Point)) (front : List Point) (g : ℕ) → g < length fronts → front_of (fronts ++ front ∷ []) g ≡ front_of fronts g
front_of-left fronts front g less =
    front_of-get_or (fronts ++ front ∷ []) g ∙ get_or_append_left fronts (front ∷ []) [] g less ∙ sym (front_of-get_or fronts g)

pub front_of-last : (fronts : List (List Point)) (front : List Point) (g : ℕ) → length fronts ≡ g → front_of (fronts ++ front ∷ []) g ≡ front
front_of-last fronts front g is = front_of-get_or (fronts ++ front ∷ []) g ∙ get_or_at fronts front [] [] g is

pub AreBeside-push : (net : Network) (s : ℕ) (fronts : List (List Point)) (n : ℕ) (front : List Point) → AreBeside net s fronts n
    → IsFront front → ((budget : ℕ) → budget ≤ cap net → cheapest front budget ≡ least_in net s n budget) → NeedsWithin (cap net) front
    → AreBeside net s (fronts ++ front ∷ []) (n + 1)
AreBeside-push net s fronts n front beside is_front value needs = record {
  count = (let more = length_push fronts front in let so_far = beside.count in omega arith);
  rising = All-push IsFront fronts front beside.rising is_front;
  value = λ g budget less in_cap. elim (leb_tells n g) [
    | inl late ↦
        (let from = late.1 in
        let count = beside.count in
        let same : g ≡ n = omega arith in
        ap (λ f. cheapest f budget) (front_of-last fronts front g (omega arith)) ∙ value budget in_cap ∙ ap (λ k. least_in net s k budget) (sym same))
    | inr early ↦
        (let before = early.1 in
        let count = beside.count in
        ap (λ f. cheapest f budget) (front_of-left fronts front g (omega arith)) ∙ beside.value g budget (omega arith) in_cap)
  ];
  needs = All-push (NeedsWithin (cap net)) fronts front beside.needs needs;
}

-- the fronts beside all sizes are exact
pub AreExact-beside : (net : Network) → IsNetwork net → (s : ℕ) → s < section_count net.tree → (fronts : List (List Point))
    → AreBeside net s fronts (columns net s) → AreExact net s fronts
AreExact-beside net valid s in_range fronts beside = record {
  in_range = in_range;
  count = beside.count;
  rising = beside.rising;
  exact = exact;
  needs = beside.needs;
  costs = λ g e less.
      let count = beside.count in
      let front : List Point = get_or fronts g e in
      let is_front : IsFront front = beside.rising g e less in
      let at : front_of fronts g ≡ front = front_of-get_or fronts g ∙ get_or_default fronts g [] e less in
      λ k d inside.
      let point : Point = get_or front k d in
      let need = beside.needs g e less k d inside in
      least_bounded net valid s g point.need point.cost
      (subst (IsLeast net s g point.need) (ap (λ f. cheapest f point.need) at ∙ cheapest-need front is_front k d inside)
      (exact g point.need (omega arith) need));
} where
  exact : IsExact net s (λ g budget. cheapest (front_of fronts g) budget)
  exact g budget less in_cap =
      subst (IsLeast net s g budget) (sym (beside.value g budget less in_cap)) (least_in-is net valid.tree s g budget in_range less)
