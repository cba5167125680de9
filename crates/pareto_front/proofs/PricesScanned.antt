-- Prices that are read in rising need, and the points that are cheaper than all before them.
use Rattle.std.proofs.Common.{◌≡◌, ℕ, ◌+◌, ◌<◌, ◌≤◌, max, ap, sym, ◌∙◌, arith, inl, inr, subst, List, [], ◌∷◌, ◌++◌, Some, length, take, get_or}
use Rattle.std.specs.Prelude.{All}
use Rattle.std.specs.Option.{ForSome, option_or}
use Rattle.std.proofs.lemmas.Bool.{cases_lt}
use Rattle.std.proofs.lemmas.List.{take_more, length-take}
use Rattle.std.proofs.lemmas.List.Elements.{All-nil, All-push}
use Rattle.std.proofs.lemmas.Option.{none-some}
use Rattle.duct_units.specs.Prices.{lesser}
use Rattle.duct_units.proofs.PriceLaws.{lesser-none, lesser-assoc}
use Rattle.pareto_front.specs.declared.point.Point.{Point}
use Rattle.pareto_front.specs.declared.least_prices.TheConstants.{ABSENT}
use Rattle.pareto_front.specs.Front.{CostsNoMore, cheapest}
use Rattle.pareto_front.specs.Sweep.{NeedsBelow, last_cost}
use Rattle.pareto_front.specs.LaidPoints.{least_among}
use Rattle.pareto_front.specs.LeastPrices.{shown, points_from, AreBetween}
use Rattle.pareto_front.proofs.Kept.{IsKept, IsKept-start, IsKept-skip, IsKept-push, price_from}
use Rattle.pareto_front.proofs.Needs.{within_from_below, below_later}
use Rattle.pareto_front.proofs.Prices.{cheapest-append, cheapest-last, price_of-within}
use Rattle.pareto_front.proofs.PricesByNeed.{shown-there, shown-absent, least_among-with_price, points_from-absent, points_from-read, absent_after}

-- one need more at the end
least_among-push : (xs : List ℕ) (start need price b : ℕ) → need ≡ start + length xs
    → least_among (points_from start (xs ++ price ∷ [])) b ≡ lesser (least_among (points_from start xs) b) (price_from need (shown price) b)
least_among-push [] start need price b is =
    let same : start ≡ need = omega arith in
    least_among-with_price (shown price) start [] b
    ∙ lesser-none (price_from start (shown price) b)
    ∙ ap (λ n. price_from n (shown price) b) same
least_among-push (x ∷ xs) start need price b is =
    least_among-with_price (shown x) start (points_from (start + 1) (xs ++ price ∷ [])) b
    ∙ ap (lesser (price_from start (shown x) b)) (least_among-push xs (start + 1) need price b (omega arith))
    ∙ sym (lesser-assoc (price_from start (shown x) b) (least_among (points_from (start + 1) xs) b) (price_from need (shown price) b))
    ∙ ap (λ o. lesser o (price_from need (shown price) b)) (sym (least_among-with_price (shown x) start (points_from (start + 1) xs) b))

pub least-more : (prices : List ℕ) (n d b : ℕ) → n < length prices
    → least_among (points_from 0 (take (n + 1) prices)) b
    ≡ lesser (least_among (points_from 0 (take n prices)) b) (price_from n (shown (get_or prices n d)) b)
least-more prices n d b within =
    let long = length-take n prices in
    ap (λ l. least_among (points_from 0 l) b) (take_more prices n d within)
    ∙ least_among-push (take n prices) 0 n (get_or prices n d) b (omega arith)

-- the first n needs are read: what is kept, and the last cost, ABSENT of nothing
pub record IsScannedTo (prices : List ℕ) (points : List Point) (n best : ℕ) : Type 0 where
  pub kept : IsKept (least_among (points_from 0 (take n prices))) points
  pub needs : NeedsBelow n points
  pub last : last_cost points ≡ shown best
  pub low : best ≤ ABSENT

pub IsScannedTo-start : (prices : List ℕ) (kept : List Point) (from until : ℕ) → kept ≡ [] → AreBetween from until prices
    → IsScannedTo prices kept from ABSENT
IsScannedTo-start prices kept from until empty are = subst (λ l. IsScannedTo prices l from ABSENT) (sym empty) (record {
  kept = IsKept-start (least_among (points_from 0 (take from prices)))
      (λ budget. ap (λ l. least_among l budget) (points_from-absent (take from prices) 0 are.before));
  needs = All-nil (λ p. p.need < from);
  last = sym (shown-absent ABSENT (omega arith));
  low = omega arith;
})

module _ (prices : List ℕ) (kept : List Point) (n best d : ℕ) (scanned : IsScannedTo prices kept n best) (within : n < length prices) where
  pub IsScannedTo-skip : best ≤ get_or prices n d → IsScannedTo prices kept (n + 1) best
  IsScannedTo-skip high = record {
    kept = IsKept-skip (least_among (points_from 0 (take n prices))) (least_among (points_from 0 (take (n + 1) prices))) kept n (shown (get_or prices n d))
        scanned.kept (λ budget. least-more prices n d budget within) (within_from_below n n kept (omega arith) scanned.needs)
        (subst (λ o. CostsNoMore o (shown (get_or prices n d))) (sym scanned.last) (costs_no_more best (get_or prices n d) high));
    needs = below_later n (n + 1) kept (omega arith) scanned.needs;
    last = scanned.last;
    low = scanned.low;
  } where
    costs_no_more : (best cost : ℕ) → best ≤ cost → CostsNoMore (shown best) (shown cost)
    costs_no_more best cost high = elim (cases_lt cost ABSENT) [
      | inl there ↦ rw (shown-there cost there, shown-there best (omega arith)) (λ was is. let same : cost ≡ was = cc in omega arith)
      | inr absent ↦ rw (shown-absent cost absent) (λ was is. absurd (none-some was is))
    ]

  pub IsScannedTo-push : (point : Point) → point.need ≡ n → point.cost ≡ get_or prices n d → point.cost < best
      → IsScannedTo prices (kept ++ point ∷ []) (n + 1) point.cost
  IsScannedTo-push point here is less = record {
    kept = IsKept-push (least_among (points_from 0 (take n prices))) (least_among (points_from 0 (take (n + 1) prices))) kept n (shown (get_or prices n d))
        scanned.kept (λ budget. least-more prices n d budget within) point here
        (ap shown (sym is) ∙ shown-there point.cost (let most = scanned.low in omega arith)) scanned.needs
        (subst (λ o. ForSome o (λ last. point.cost < last)) (sym scanned.last) (falls best less));
    needs = under;
    last = last_is ∙ sym (shown-there point.cost (let most = scanned.low in omega arith));
    low = (let most = scanned.low in omega arith);
  } where
    falls : (best : ℕ) → point.cost < best → ForSome (shown best) (λ last. point.cost < last)
    falls best low = elim (cases_lt best ABSENT) [
      | inl is ↦ rw (shown-there best is) (λ last same. let equal : best ≡ last = cc in omega arith)
      | inr absent ↦ rw (shown-absent best absent) (λ last same. absurd (none-some last same))
    ]

    under : NeedsBelow (n + 1) (kept ++ point ∷ [])
    under = All-push (λ p. p.need < n + 1) kept point (below_later n (n + 1) kept (omega arith) scanned.needs) (omega arith)

    last_is : last_cost (kept ++ point ∷ []) ≡ Some point.cost
    last_is =
        sym (cheapest-last (kept ++ point ∷ []) n (within_from_below (n + 1) n (kept ++ point ∷ []) (omega arith) under))
        ∙ cheapest-append kept (point ∷ []) n
        ∙ ap (λ o. option_or o (cheapest kept n)) (price_of-within point n (omega arith))

-- at the end all prices are read
pub IsScannedTo-value : (prices : List ℕ) (kept : List Point) (n best from until : ℕ) → IsScannedTo prices kept n best
    → AreBetween from until prices → until ≤ n → (budget : ℕ) → cheapest kept budget ≡ least_among (points_from 0 prices) budget
IsScannedTo-value prices kept n best from until scanned are end budget =
    scanned.kept.value budget
    ∙ ap (λ l. least_among l budget) (points_from-read prices n (absent_after prices until n end are.after))

pub IsScannedTo-needs : (prices : List ℕ) (points : List Point) (n best from until : ℕ) → IsScannedTo prices points n best
    → AreBetween from until prices → n ≤ max from until → All (λ p. p.need < length prices) points
IsScannedTo-needs prices points n best from until scanned are end =
    let starts = are.starts in
    let ends = are.ends in
    below_later n (length prices) points (omega arith) scanned.needs
