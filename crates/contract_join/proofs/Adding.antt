-- What sections cost together, one section more at a time, and the front of it.
use Rattle.std.proofs.Common.{◌≡◌, ℕ, ◌+◌, ◌*◌, ◌<◌, ◌≤◌, ◌^◌, true, refl, ap, sym, ◌∙◌, arith, subst, List, [], ◌∷◌, ◌++◌, Some, length, take}
use Rattle.std.specs.Prelude.{slice_get}
use Rattle.std.proofs.lemmas.List.{length_push, take_more}
use Rattle.std.proofs.lemmas.List.Elements.{All-nil, All-push, All-weaker}
use Rattle.std.proofs.lemmas.Option.{slice_get_within, get_or_from_slice_get}
use Rattle.pareto_front.specs.declared.point.Point.{Point}
use Rattle.pareto_front.specs.Front.{NeedsWithin, CostsWithin, cheapest}
use Rattle.pareto_front.specs.FrontSum.{together, greatest_together, IsTotal, CostsAlike}
use Rattle.pareto_front.proofs.Together.{together-push, greatest_together-push, greatest_cost-le}
use Rattle.duct_definitions.specs.Tree.{Tree, section_count, children, neighbour, is_number}
use Rattle.duct_definitions.proofs.SectionLists.{chosen_pass, is_number-some}
use Rattle.least_laws.proofs.DuctsOf.{columns-child}
use Rattle.duct_definitions.specs.Network.{Network, size_count, columns, cap}
use Rattle.duct_units.specs.Prices.{both_of}
use Rattle.least_laws.specs.Prices.{sum_of}
use Rattle.least_laws.specs.LeastFromChildren.{least_in}
use Rattle.least_laws.proofs.SumOf.{sum_of-last}
use Rattle.contract_join.specs.SectionFronts.{most_beyond}
use Rattle.contract_join.specs.Join.{AreSumOf, AddsSection, HasRoom}

pub take-none : (xs : List ℕ) → take 0 xs ≡ []
take-none [] = refl
take-none (x ∷ xs) = refl

-- no section is added
pub AreSumOf-none : (net : Network) (g : ℕ) (fronts : List (List Point)) → CostsAlike [] fronts → AreSumOf net g [] fronts
AreSumOf-none net g fronts none = record {
  value = λ budget in_cap. none.value budget;
  needs = none.needs (cap net) (All-nil (NeedsWithin (cap net)));
  costs = (let less = none.costs in omega arith);
}

module _ (net : Network) (fronts : List (List Point)) (front : List Point) (costs : CostsWithin (most_beyond net) front) where
  -- where there is room, one front more fits
  pub fits-room : HasRoom net fronts → greatest_together (fronts ++ front ∷ []) < 2 ^ 64
  fits-room room =
      let all = greatest_together-push fronts front in
      let most = greatest_cost-le front (most_beyond net) costs in
      omega arith

  -- the front of a section is added
  pub AddsSection-front : (g c : ℕ) (new : List (List Point)) → CostsAlike (fronts ++ front ∷ []) new
      → ((budget : ℕ) → budget ≤ cap net → cheapest front budget ≡ least_in net c g budget)
      → NeedsWithin (cap net) front → AddsSection net c g fronts new
  AddsSection-front g c new alike value needs = record {
    value = λ budget in_cap.
        alike.value budget ∙ together-push fronts front budget
        ∙ ap (both_of (together fronts budget)) (value budget in_cap);
    needs = λ low. alike.needs (cap net) (All-push (NeedsWithin (cap net)) fronts front low needs);
    costs =
        (let less = alike.costs in
        let all = greatest_together-push fronts front in
        let most = greatest_cost-le front (most_beyond net) costs in
        omega arith);
  }

-- one section more of a list
pub AreSumOf-next : (net : Network) (g : ℕ) (sections : List ℕ) (i c : ℕ) (fronts new : List (List Point)) → slice_get sections i ≡ Some c
    → AreSumOf net g (take i sections) fronts → AddsSection net c g fronts new → AreSumOf net g (take (i + 1) sections) new
AreSumOf-next net g sections i c fronts new next are adds =
    let within = slice_get_within sections i c next in
    let more : take (i + 1) sections ≡ take i sections ++ c ∷ [] =
    take_more sections i c within ∙ ap (λ x. take i sections ++ x ∷ []) (get_or_from_slice_get sections i c c next) in
    subst (λ l. AreSumOf net g l new) (sym more)
    (record {
      value = λ budget in_cap.
          adds.value budget in_cap
          ∙ ap (λ o. both_of o (least_in net c g budget)) (are.value budget in_cap)
          ∙ sym (sum_of-last (λ x. least_in net x g budget) (take i sections) c);
      needs = adds.needs are.needs;
      costs = subst (λ n. greatest_together new ≤ n * most_beyond net) (sym (length_push (take i sections) c))
          (let so_far = are.costs in let one = adds.costs in omega arith);
    })

-- the front of what sections cost together
pub record IsSumOf (net : Network) (g : ℕ) (sections : List ℕ) (front : List Point) : Type 0 where
  pub value : (budget : ℕ) → budget ≤ cap net → cheapest front budget ≡ sum_of (λ c. least_in net c g budget) sections
  pub needs : NeedsWithin (cap net) front
  pub costs : CostsWithin (length sections * most_beyond net) front

pub IsSumOf-total : (net : Network) (g : ℕ) (sections : List ℕ) (fronts : List (List Point)) (front : List Point)
    → AreSumOf net g sections fronts → IsTotal fronts front → IsSumOf net g sections front
IsSumOf-total net g sections fronts front are total = record {
  value = λ budget in_cap. total.value budget ∙ are.value budget in_cap;
  needs = total.needs (cap net) are.needs;
  costs =
      let most = are.costs in
      All-weaker (λ (p : Point). p.cost ≤ greatest_together fronts) (λ p. p.cost ≤ length sections * most_beyond net) (λ p low. omega arith)
      front total.costs;
}

-- a child's neighbour is the section
pub child-neighbour : (t : Tree) (s i c : ℕ) → slice_get (children t s) i ≡ Some c → neighbour t c ≡ Some s
child-neighbour t s i c is =
    let here = get_or_from_slice_get (children t s) i c c is in
    is_number-some s (neighbour t c)
    (subst (λ x. is_number s (neighbour t x) ≡ true) here
    (chosen_pass (λ x. is_number s (neighbour t x)) (section_count t) i c (slice_get_within (children t s) i c is)))

pub child-columns : (net : Network) (s i c : ℕ) → slice_get (children net.tree s) i ≡ Some c → columns net c ≡ size_count net s
child-columns net s i c is = columns-child net c s (child-neighbour net.tree s i c is)
