-- The sums of a section's children, for each of its sizes.
use Rattle.std.proofs.Common.{◌≡◌, ℕ, ◌+◌, ◌*◌, ◌<◌, ◌≤◌, ◌^◌, refl, ap, sym, ◌∙◌, arith, inl, inr, subst, List, [], ◌∷◌, ◌++◌, Some, length, take, get_or, set, length-set}
use Rattle.std.specs.Prelude.{All, slice_get}
use Rattle.std.proofs.lemmas.Bool.Decides.{eqb_tells, leb_tells}
use Rattle.std.proofs.lemmas.List.{length_push, take_all, get_or-set_same, get_or-set_other, get_or_default}
use Rattle.std.proofs.lemmas.List.{length-take}
use Rattle.std.proofs.lemmas.List.Elements.{All-push}
use Rattle.std.proofs.lemmas.Option.{slice_get_within}
use Rattle.pareto_front.specs.declared.point.Point.{Point}
use Rattle.pareto_front.specs.Front.{NeedsWithin, CostsWithin, cheapest}
use Rattle.pareto_front.specs.FrontSum.{greatest_together, IsTotal, CostsAlike}
use Rattle.duct_definitions.specs.declared.limits.TheConstants.{MAX_SECTIONS}
use Rattle.duct_definitions.specs.Tree.{section_count, children}
use Rattle.duct_definitions.specs.Network.{Network, IsNetwork, size_count, columns, cap}
use Rattle.duct_units.proofs.PriceLaws.{both_of-zero}
use Rattle.least_laws.specs.Prices.{sum_of}
use Rattle.least_laws.specs.LeastFromChildren.{least_in}
use Rattle.least_laws.proofs.Leasts.{least_in-unique}
use Rattle.contract_join.specs.SectionFronts.{SectionData, AreExact, front_of, most_beyond}
use Rattle.contract_join.specs.Join.{AreSumOf, AddsSection, IsAdding, AddsChild, HaveRoom, AreTotals, AreSums}
use Rattle.contract_join.proofs.Adding.{take-none, AreSumOf-none, AreSumOf-next, IsSumOf, IsSumOf-total, child-columns}
use Rattle.contract_join.proofs.Closing.{children-few, front_of-left, front_of-last}
use Rattle.contract_join.proofs.Fronts.{front_of-get_or, times-most_beyond}

-- so many sums of no front
pub record AreEmpty (sums : List (List (List Point))) (n : ℕ) : Type 0 where
  pub count : length sums ≡ n
  pub each : All (CostsAlike []) sums

pub AreEmpty-push : (sums : List (List (List Point))) (n : ℕ) (sum : List (List Point)) → AreEmpty sums n → CostsAlike [] sum → AreEmpty (sums ++ sum ∷ []) (n + 1)
AreEmpty-push sums n sum are empty = record {
  count = (let more = length_push sums sum in let so_far = are.count in omega arith);
  each = All-push (CostsAlike []) sums sum are.each empty;
}

pub IsAdding-none : (net : Network) → IsNetwork net → (s : ℕ) → s < section_count net.tree → (sums : List (List (List Point)))
    → AreEmpty sums (size_count net s) → IsAdding net s 0 sums
IsAdding-none net valid s in_range sums are = record {
  network = valid;
  in_range = in_range;
  some_children = omega arith;
  count = are.count;
  each = λ k d less.
      subst (λ l. AreSumOf net k l (get_or sums k d)) (sym (take-none (children net.tree s)))
      (AreSumOf-none net k (get_or sums k d) (are.each k d less));
}

-- the child is added in the first n sizes
pub record IsAddedTo (net : Network) (c : ℕ) (old new : List (List (List Point))) (n : ℕ) : Type 0 where
  pub count : length new ≡ length old
  pub done : (k : ℕ) (d : List (List Point)) → k < n → k < length old
      → AddsSection net c k (get_or old k d) (get_or new k d)
  pub left : (k : ℕ) (d : List (List Point)) → n ≤ k → get_or new k d ≡ get_or old k d

pub IsAddedTo-start : (net : Network) (c : ℕ) (sums : List (List (List Point))) → IsAddedTo net c sums sums 0
IsAddedTo-start net c sums = record {
  count = refl;
  done = λ k d early less. absurd (omega arith);
  left = λ k d later. refl;
}

pub IsAddedTo-next : (net : Network) (c : ℕ) (old new : List (List (List Point))) (n : ℕ) (e sum : List (List Point)) → n < length new
    → IsAddedTo net c old new n → AddsSection net c n (get_or new n e) sum
    → IsAddedTo net c old (set new n sum) (n + 1)
IsAddedTo-next net c old new n e sum within so_far adds = record {
  count = length-set new n sum ∙ so_far.count;
  done = λ k d early less. elim (eqb_tells k n) [
    | inl same ↦
        (let was : get_or new n e ≡ get_or old k d =
        so_far.left n e (omega arith) ∙ ap (λ j. get_or old j e) (sym same.1) ∙ get_or_default old k e d less in
        let is : sum ≡ get_or (set new n sum) k d =
        sym (get_or-set_same new n sum d within) ∙ ap (λ j. get_or (set new n sum) j d) (sym same.1) in
        subst (λ (x : List (List Point)). AddsSection net c k (get_or old k d) x) is
        (subst (λ (x : List (List Point)). AddsSection net c k x sum) was
        (subst (λ j. AddsSection net c j (get_or new n e) sum) (sym same.1) adds)))
    | inr apart ↦
        subst (λ (x : List (List Point)). AddsSection net c k (get_or old k d) x) (sym (get_or-set_other new n k sum d apart.1))
        (so_far.done k d (let differ = apart.1 in omega arith) less)
  ];
  left = λ k d later. get_or-set_other new n k sum d (omega arith) ∙ so_far.left k d (omega arith);
}

pub AddsChild-all : (net : Network) (c : ℕ) (old new : List (List (List Point))) (n : ℕ) → length old ≤ n → IsAddedTo net c old new n → AddsChild net c old new
AddsChild-all net c old new n end added = record {
  count = added.count;
  each = λ k d less. added.done k d (omega arith) less;
}

-- the front of each of the first n sums
pub record AreTotalsTo (sums : List (List (List Point))) (fronts : List (List Point)) (n : ℕ) : Type 0 where
  pub count : length fronts ≡ n
  pub each : (k : ℕ) (d : List (List Point)) → k < n → k < length sums
      → IsTotal (get_or sums k d) (front_of fronts k)

pub AreTotalsTo-next : (sums : List (List (List Point))) (fronts : List (List Point)) (n : ℕ) (sum : List (List Point)) (front : List Point) → n < length sums
    → sum ≡ get_or sums n sum → AreTotalsTo sums fronts n → IsTotal sum front
    → AreTotalsTo sums (fronts ++ front ∷ []) (n + 1)
AreTotalsTo-next sums fronts n sum front within is so_far total = record {
  count = (let more = length_push fronts front in let count = so_far.count in omega arith);
  each = λ k d early less. elim (leb_tells n k) [
    | inl late ↦
        (let from = late.1 in
        let count = so_far.count in
        let same : n ≡ k = omega arith in
        let here : sum ≡ get_or sums k d = is ∙ ap (λ j. get_or sums j sum) same ∙ get_or_default sums k sum d less in
        subst (IsTotal (get_or sums k d)) (sym (front_of-last fronts front k (omega arith)))
        (subst (λ (x : List (List Point)). IsTotal x front) here total))
    | inr early_on ↦
        (let before = early_on.1 in
        let count = so_far.count in
        subst (IsTotal (get_or sums k d)) (sym (front_of-left fronts front k (omega arith))) (so_far.each k d (omega arith) less))
  ];
}

pub AreTotals-all : (sums : List (List (List Point))) (fronts : List (List Point)) (n : ℕ) → n ≡ length sums → AreTotalsTo sums fronts n → AreTotals sums fronts
AreTotals-all sums fronts n end so_far = record {
  count = so_far.count ∙ end;
  each = λ k d less. so_far.each k d (omega arith) less;
}

-- one child more
pub IsAdding-next : (net : Network) (s added c : ℕ) (sums new : List (List (List Point))) → IsAdding net s added sums
    → slice_get (children net.tree s) added ≡ Some c → AddsChild net c sums new → IsAdding net s (added + 1) new
IsAdding-next net s added c sums new are next adds = record {
  network = are.network;
  in_range = are.in_range;
  some_children = (let within = slice_get_within (children net.tree s) added c next in omega arith);
  count = adds.count ∙ are.count;
  each = λ k d less.
      let here : k < length sums = (let same = adds.count in omega arith) in
      AreSumOf-next net k (children net.tree s) added c (get_or sums k d) (get_or new k d) next
      (are.each k d here) (adds.each k d here);
}

-- while a child is left there is room for it
pub HaveRoom-next : (net : Network) (s added c : ℕ) (sums : List (List (List Point))) → IsAdding net s added sums
    → slice_get (children net.tree s) added ≡ Some c → HaveRoom net sums
HaveRoom-next net s added c sums are next = λ k d less.
    let of = are.each k d less in
    let within = slice_get_within (children net.tree s) added c next in
    let few = children-few net.tree s are.network.tree in
    let most = times-most_beyond net are.network.tree (length (take added (children net.tree s)) + 1)
    (let long = length-take added (children net.tree s) in omega arith) in
    let costs = of.costs in
    omega arith

-- the sums of all children fit
pub all_fit : (net : Network) (s added : ℕ) (sums : List (List (List Point))) → IsAdding net s added sums
    → All (λ sum. greatest_together sum < 2 ^ 64) sums
all_fit net s added sums are = λ k d less.
    let of = are.each k d less in
    let few = children-few net.tree s are.network.tree in
    let most = times-most_beyond net are.network.tree (length (take added (children net.tree s)))
    (let long = length-take added (children net.tree s) in omega arith) in
    let costs = of.costs in
    omega arith

any_of : (sums : List (List (List Point))) (k : ℕ) → k < length sums → List (List Point)
any_of [] k less = absurd (omega arith)
any_of (sum ∷ sums) k less = sum

-- the fronts of the sums of all children
pub AreSums-totals : (net : Network) (s added : ℕ) (sums : List (List (List Point))) (fronts : List (List Point)) → IsAdding net s added sums
    → added ≡ length (children net.tree s) → AreTotals sums fronts → AreSums net s fronts
AreSums-totals net s added sums fronts are all totals = record {
  network = are.network;
  in_range = are.in_range;
  count = totals.count ∙ are.count;
  value = λ k budget less in_cap. (total k (let count = are.count in omega arith)).value budget in_cap;
  needs = λ k d less. subst (NeedsWithin (cap net)) (at k d less) (total k (let count = totals.count in omega arith)).needs;
  costs = λ k d less.
      subst (CostsWithin (length (children net.tree s) * most_beyond net)) (at k d less) (total k (let count = totals.count in omega arith)).costs;
} where
  at : (k : ℕ) (d : List Point) → k < length fronts → front_of fronts k ≡ get_or fronts k d
  at k d less = front_of-get_or fronts k ∙ get_or_default fronts k [] d less

  total : (k : ℕ) → k < length sums → IsSumOf net k (children net.tree s) (front_of fronts k)
  total k less =
      let d : List (List Point) = any_of sums k less in
      subst (λ l. IsSumOf net k l (front_of fronts k)) (take_all added (children net.tree s) (omega arith))
      (IsSumOf-total net k (take added (children net.tree s)) (get_or sums k d) (front_of fronts k)
      (are.each k d less) (totals.each k d less))

-- the fronts of an only child
pub AreSums-only : (net : Network) → IsNetwork net → (s c : ℕ) → s < section_count net.tree → children net.tree s ≡ c ∷ []
    → (fronts : List (List Point)) → AreExact net c fronts → AreSums net s fronts
AreSums-only net valid s c in_range only fronts exact = record {
  network = valid;
  in_range = in_range;
  count = exact.count ∙ sizes;
  value = λ k budget less in_cap.
      let beside = sizes in
      least_in-unique net valid.tree c k budget (cheapest (front_of fronts k) budget) exact.in_range (omega arith)
      (exact.exact k budget (omega arith) in_cap)
      ∙ sym (both_of-zero (least_in net c k budget))
      ∙ ap (sum_of (λ x. least_in net x k budget)) (sym only);
  needs = exact.needs;
  costs = subst (λ n. All (CostsWithin n) fronts)
      ((let one : most_beyond net ≡ 1 * most_beyond net = omega arith in one)
      ∙ ap (λ (l : List ℕ). length l * most_beyond net) (sym only))
      exact.costs;
} where
  sizes : columns net c ≡ size_count net s
  sizes = child-columns net s 0 c (ap (λ (l : List ℕ). slice_get l 0) only)

-- a join's sums, and the next child
pub record TakesChild (net : Network) (s added : ℕ) (sums : List (List (List Point))) (child : SectionData) : Type 0 where
  pub adding : IsAdding net s added sums
  pub next : slice_get (children net.tree s) added ≡ Some child.section
  pub same_net : child.net ≡ net

module _ (net : Network) (s added : ℕ) (sums : List (List (List Point))) (child : SectionData) (takes : TakesChild net s added sums child) where
  pub next-beside : length sums ≡ columns child.net child.section
  next-beside =
      takes.adding.count ∙ sym (child-columns net s added child.section takes.next)
      ∙ ap (λ (n : Network). columns n child.section) (sym takes.same_net)

  pub next-room : HaveRoom child.net sums
  next-room = subst (λ (n : Network). HaveRoom n sums) (sym takes.same_net) (HaveRoom-next net s added child.section sums takes.adding takes.next)

  pub next-few : added < MAX_SECTIONS
  next-few =
      let within = slice_get_within (children net.tree s) added child.section takes.next in
      let few = children-few net.tree s takes.adding.network.tree in
      omega arith

  pub next-added : (new : List (List (List Point))) → AddsChild child.net child.section sums new → IsAdding net s (added + 1) new
  next-added new adds =
      IsAdding-next net s added child.section sums new takes.adding takes.next
      (subst (λ (n : Network). AddsChild n child.section sums new) takes.same_net adds)
