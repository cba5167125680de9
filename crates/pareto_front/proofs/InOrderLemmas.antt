-- Points in order, of which those that are cheaper than all before them are kept.
use Rattle.std.proofs.Common.{◌≡◌, ℕ, ◌+◌, ◌<◌, ◌≤◌, Bool, false, refl, ap, sym, ◌∙◌, arith, subst, List, [], ◌∷◌, ◌++◌, Option, Some, None, length, take, get_or}
use Rattle.std.specs.Prelude.{All}
use Rattle.std.specs.Option.{ForSome}
use Rattle.std.proofs.lemmas.List.{take_all, get_or_default}
use Rattle.std.proofs.lemmas.List.Elements.{All-nil, All-push, All-weaker}
use Rattle.std.specs.List.Sorted.{IsSortedBy}
use Rattle.std.specs.Ordering.{is_lt, ordering_then, nat_cmp}
use Rattle.std.proofs.lemmas.Bool.Decides.{nat_tests}
use Rattle.std.proofs.lemmas.Cmp.{nat_cmp_total, on_total, then_total}
use Rattle.std.proofs.lemmas.List.Sorted.{ranks_by, sorted_far}
use Rattle.std.proofs.lemmas.Option.{same_Some}
use Rattle.pareto_front.proofs.Points.{cheapest-need, cheapest-rise}
use Rattle.pareto_front.proofs.Prices.{cheapest-last}
use Rattle.pareto_front.specs.declared.point.Point.{Point}
use Rattle.pareto_front.specs.Front.{CostsNoMore, NeedsWithin, cheapest, price_of}
use Rattle.pareto_front.specs.Sweep.{NeedsBelow, last_cost}
use Rattle.duct_units.specs.Prices.{lesser}
use Rattle.pareto_front.specs.LaidPoints.{least_among}
use Rattle.pareto_front.specs.InOrder.{IsBehind, IsInOrder}
use Rattle.pareto_front.proofs.LeastAmong.{least_among-more, least_among-none}
use Rattle.pareto_front.proofs.Kept.{IsKept, IsKept-start, IsKept-skip, IsKept-push}

-- what is below the last cost is below a cost that the last one is not above
under_last : (last : Option ℕ) (cost more : ℕ) → CostsNoMore last (Some more) → ForSome last (λ c. cost < c) → cost < more
under_last None cost more low less = absurd (low more refl)
under_last (Some c) cost more low less =
    let at_most : c ≤ more = low more refl in
    let below : cost < c = less c refl in
    omega arith

-- the order of needs, and at one need of costs
abbrev precedes : Point → Point → Bool
precedes x y = is_lt (ordering_then (nat_cmp x.need y.need) (nat_cmp x.cost y.cost))

behind_from : (p q : Point) → precedes q p ≡ false → IsBehind p q
behind_from p q not_before = (grind (arith, nat_tests), λ less. grind (arith, nat_tests))

pub IsInOrder-sorted : (points : List Point) → IsSortedBy precedes points → IsInOrder points
IsInOrder-sorted points sorted = λ i j d less inside.
    behind_from (get_or points i d) (get_or points j d)
    (sorted_far precedes
    (ranks_by (then_total (on_total (λ (p : Point). p.need) nat_cmp_total) (on_total (λ (p : Point). p.cost) nat_cmp_total)) (λ p. p))
    points sorted i j d (omega arith) inside)

-- the first i points are read
pub record IsKeptTo (sorted points : List Point) (i : ℕ) : Type 0 where
  pub kept : IsKept (least_among (take i sorted)) points
  pub behind : (j : ℕ) (d : Point) → i ≤ j → j < length sorted → All (λ p. IsBehind p (get_or sorted j d)) points
  pub needs : (cap : ℕ) → NeedsWithin cap sorted → NeedsWithin cap points

pub IsKeptTo-start : (sorted : List Point) → IsKeptTo sorted [] 0
IsKeptTo-start sorted = record {
  kept = IsKept-start (least_among (take 0 sorted)) (least_among-none sorted);
  behind = λ j d more within. All-nil (λ p. IsBehind p (get_or sorted j d));
  needs = λ cap low. All-nil (λ p. p.need ≤ cap);
}

module _ (sorted points : List Point) (i : ℕ) (e : Point) (order : IsInOrder sorted) (within : i < length sorted) (read : IsKeptTo sorted points i) where
  -- the next point
  abbrev q : Point
  q = get_or sorted i e

  q_behind : All (λ p. IsBehind p q) points
  q_behind = read.behind i e (omega arith) within

  more : (budget : ℕ) → least_among (take (i + 1) sorted) budget ≡ lesser (least_among (take i sorted) budget) (price_of q budget)
  more budget = least_among-more sorted i e budget within

  -- a point that costs no less than the last so far
  pub IsKeptTo-skip : CostsNoMore (last_cost points) (Some q.cost) → IsKeptTo sorted points (i + 1)
  IsKeptTo-skip costs_no_more = record {
    kept = IsKept-skip (least_among (take i sorted)) (least_among (take (i + 1) sorted)) points q.need (Some q.cost) read.kept more
        (All-weaker (λ p. IsBehind p q) (λ p. p.need ≤ q.need) (λ p is. is.0) points q_behind) costs_no_more;
    behind = λ j d later inside. read.behind j d (omega arith) inside;
    needs = read.needs;
  }

  -- and one that costs less
  pub IsKeptTo-push : (point : Point) → point.need ≡ q.need → Some q.cost ≡ Some point.cost
      → ForSome (last_cost points) (λ last. point.cost < last) → IsKeptTo sorted (points ++ point ∷ []) (i + 1)
  IsKeptTo-push point need is less = record {
    kept = IsKept-push (least_among (take i sorted)) (least_among (take (i + 1) sorted)) points q.need (Some q.cost) read.kept more
        point need is below less;
    behind = λ j d later inside.
        All-push (λ p. IsBehind p (get_or sorted j d)) points point (read.behind j d (omega arith) inside)
        (subst (λ p. IsBehind p (get_or sorted j d)) (sym same)
        (subst (λ p. IsBehind p (get_or sorted j d)) (get_or_default sorted i d e within) (order i j d (omega arith) inside)));
    needs = λ cap low.
        All-push (λ p. p.need ≤ cap) points point (read.needs cap low)
        (subst (λ n. n ≤ cap) (sym need) (low i e within));
  } where
    cost_is : point.cost ≡ q.cost
    cost_is = sym (same_Some q.cost point.cost is)

    same : point ≡ q
    same =
        ap (λ n. let p : Point = record { need = n; cost = point.cost } in p) need
        ∙ ap (λ c. let p : Point = record { need = q.need; cost = c } in p) cost_is

    within_need : All (λ p. p.need ≤ q.need) points
    within_need = All-weaker (λ p. IsBehind p q) (λ p. p.need ≤ q.need) (λ p is. is.0) points q_behind

    below : NeedsBelow q.need points
    below k d inside =
        let p : Point = get_or points k d in
        let behind = q_behind k d inside in
        let costs_less : point.cost < p.cost =
        under_last (last_cost points) point.cost p.cost
        (subst (λ o. CostsNoMore o (Some p.cost)) (cheapest-last points q.need within_need)
        (subst (CostsNoMore (cheapest points q.need)) (cheapest-need points read.kept.front k d inside)
        (cheapest-rise points p.need q.need read.kept.front behind.0)))
        less in
        behind.1 (subst (λ x. x < p.cost) cost_is costs_less)

-- at the end all points are read
pub all-value : (sorted points : List Point) (i : ℕ) → length sorted ≤ i → IsKeptTo sorted points i
    → (budget : ℕ) → cheapest points budget ≡ least_among sorted budget
all-value sorted points i end read budget =
    read.kept.value budget ∙ ap (λ l. least_among l budget) (take_all i sorted end)
