-- Fronts that cost together what others do: two of them in one, and all of them in one.
use Rattle.std.proofs.Common.{◌≡◌, ℕ, ◌+◌, ◌<◌, ◌≤◌, ◌^◌, refl, ap, sym, ◌∙◌, arith, subst, List, [], ◌∷◌, ◌++◌, length, Option, Some, None}
use Rattle.std.specs.Prelude.{All, IfOk, Result, Ok, Err}
use Rattle.std.specs.Option.{ForSome}
use Rattle.std.proofs.lemmas.List.{length_push, get_or_append_left, get_or_at}
use Rattle.std.proofs.lemmas.List.Elements.{All-nil, All-cons, All-head, All-tail, All-push, All-weaker}
use Rattle.std.proofs.lemmas.List.Sums.{sum_by-append}
use Rattle.duct_units.specs.Prices.{both_of}
use Rattle.duct_units.proofs.PriceLaws.{both_of-zero, zero-both_of, both_of-assoc}
use Rattle.pareto_front.specs.declared.point.Point.{Point}
use Rattle.pareto_front.specs.CostFalls.{fronts_with}
use Rattle.pareto_front.specs.Front.{NeedsWithin, CostsWithin, cheapest}
use Rattle.pareto_front.specs.FrontSum.{together, greatest_cost, greatest_together, IsBoth, IsTotal, CostsAlike}
use Rattle.pareto_front.proofs.Bounds.{sums_fit}

together-append : (xs ys : List (List Point)) (budget : ℕ) → together (xs ++ ys) budget ≡ both_of (together xs budget) (together ys budget)
together-append [] ys budget = sym (zero-both_of (together ys budget))
together-append (x ∷ xs) ys budget =
    ap (both_of (cheapest x budget)) (together-append xs ys budget)
    ∙ sym (both_of-assoc (cheapest x budget) (together xs budget) (together ys budget))

pub together-one : (x : List Point) (budget : ℕ) → together (x ∷ []) budget ≡ cheapest x budget
together-one x budget = both_of-zero (cheapest x budget)

pub together-push : (xs : List (List Point)) (x : List Point) (budget : ℕ) → together (xs ++ x ∷ []) budget ≡ both_of (together xs budget) (cheapest x budget)
together-push xs x budget = together-append xs (x ∷ []) budget ∙ ap (both_of (together xs budget)) (together-one x budget)

pub greatest_together-push : (xs : List (List Point)) (x : List Point) → greatest_together (xs ++ x ∷ []) ≡ greatest_together xs + greatest_cost x
greatest_together-push xs x = let all = sum_by-append greatest_cost xs (x ∷ []) in omega arith

-- the greatest cost is a bound, and the least one
pub CostsWithin-greatest : (front : List Point) → CostsWithin (greatest_cost front) front
CostsWithin-greatest [] = All-nil (λ point. point.cost ≤ 0)
CostsWithin-greatest (p ∷ ps) =
    All-cons (λ point. point.cost ≤ greatest_cost (p ∷ ps)) p ps (omega arith)
    (All-weaker (λ point. point.cost ≤ greatest_cost ps) (λ point. point.cost ≤ greatest_cost (p ∷ ps)) (λ point low. omega arith)
    ps (CostsWithin-greatest ps))

pub greatest_cost-le : (front : List Point) (most : ℕ) → CostsWithin most front → greatest_cost front ≤ most
greatest_cost-le [] most costs = omega arith
greatest_cost-le (p ∷ ps) most costs =
    let first = All-head (λ point. point.cost ≤ most) p ps costs in
    let rest = greatest_cost-le ps most (All-tail (λ point. point.cost ≤ most) p ps costs) in
    omega arith

-- the sum of two fronts fits where their greatest costs do
pub both_fits : (first second : List Point) → greatest_cost first + greatest_cost second < 2 ^ 64
    → (budget : ℕ) → ForSome (both_of (cheapest first budget) (cheapest second budget)) (λ cost. cost < 2 ^ 64)
both_fits first second fits =
    sums_fit first second (greatest_cost first) (greatest_cost second) (CostsWithin-greatest first) (CostsWithin-greatest second) fits

-- what holds of all fronts holds of all but the last, and of the last
All-early : (P : List Point → Type 0) (xs : List (List Point)) (x : List Point) → All P (xs ++ x ∷ []) → All P xs
All-early P xs x all k d within =
    let more = length_push xs x in
    subst P (get_or_append_left xs (x ∷ []) d k within) (all k d (omega arith))

All-last : (P : List Point → Type 0) (xs : List (List Point)) (x : List Point) → All P (xs ++ x ∷ []) → P x
All-last P xs x all =
    let more = length_push xs x in
    subst P (get_or_at xs x [] x (length xs) refl) (all (length xs) x (omega arith))

pub CostsAlike-same : (fronts : List (List Point)) → CostsAlike fronts fronts
CostsAlike-same fronts = record {
  value = λ budget. refl;
  needs = λ most low. low;
  costs = omega arith;
}

pub CostsAlike-trans : (old now new : List (List Point)) → CostsAlike old now → CostsAlike now new → CostsAlike old new
CostsAlike-trans old now new first second = record {
  value = λ budget. second.value budget ∙ first.value budget;
  needs = λ most low. second.needs most (first.needs most low);
  costs = (let one = first.costs in let two = second.costs in omega arith);
}

-- what both fronts give together
pub IsBoth-ok : {E : Type 0} (r : Result (List Point) E) (first second : List Point)
    → IfOk r (λ both. (budget : ℕ) → cheapest both budget ≡ both_of (cheapest first budget) (cheapest second budget))
    → ((most : ℕ) → NeedsWithin most first → NeedsWithin most second → IfOk r (NeedsWithin most))
    → ((x y : ℕ) → CostsWithin x first → CostsWithin y second → IfOk r (CostsWithin (x + y))) → IfOk r (IsBoth first second)
IsBoth-ok (Ok both) first second value needs costs = record { value = value; needs = needs; costs = costs }
IsBoth-ok (Err e) first second value needs costs = tt

-- one front more at the end
pub CostsAlike-push : (old new : List (List Point)) (front : List Point) → CostsAlike old new → CostsAlike (old ++ front ∷ []) (new ++ front ∷ [])
CostsAlike-push old new front alike = record {
  value = λ budget.
      together-push new front budget
      ∙ ap (λ o. both_of o (cheapest front budget)) (alike.value budget)
      ∙ sym (together-push old front budget);
  needs = λ most low.
      All-push (NeedsWithin most) new front (alike.needs most (All-early (NeedsWithin most) old front low)) (All-last (NeedsWithin most) old front low);
  costs =
      (let less = alike.costs in
      let was = greatest_together-push old front in
      let is = greatest_together-push new front in
      omega arith);
}

both_of-comm : (x y : Option ℕ) → both_of x y ≡ both_of y x
both_of-comm None None = refl
both_of-comm None (Some y) = refl
both_of-comm (Some x) None = refl
both_of-comm (Some x) (Some y) = let same : x + y ≡ y + x = omega arith in ap Some same

-- the last two change places
CostsAlike-swapped : (rest : List (List Point)) (last front : List Point)
    → CostsAlike ((rest ++ last ∷ []) ++ front ∷ []) ((rest ++ front ∷ []) ++ last ∷ [])
CostsAlike-swapped rest last front = record {
  value = λ budget.
      let early = together rest budget in
      let x = cheapest last budget in
      let y = cheapest front budget in
      together-push (rest ++ front ∷ []) last budget
      ∙ ap (λ o. both_of o x) (together-push rest front budget)
      ∙ both_of-assoc early y x ∙ ap (both_of early) (both_of-comm y x) ∙ sym (both_of-assoc early x y)
      ∙ ap (λ o. both_of o y) (sym (together-push rest last budget))
      ∙ sym (together-push (rest ++ last ∷ []) front budget);
  needs = λ most low.
      let early = All-early (NeedsWithin most) (rest ++ last ∷ []) front low in
      All-push (NeedsWithin most) (rest ++ front ∷ []) last
      (All-push (NeedsWithin most) rest front (All-early (NeedsWithin most) rest last early) (All-last (NeedsWithin most) (rest ++ last ∷ []) front low))
      (All-last (NeedsWithin most) rest last early);
  costs =
      (let one = greatest_together-push rest last in
      let two = greatest_together-push (rest ++ last ∷ []) front in
      let other = greatest_together-push rest front in
      let both = greatest_together-push (rest ++ front ∷ []) last in
      omega arith);
}

-- one front more among the parts
pub CostsAlike-part : (parts new : List (List Point)) (sum : Option (List Point)) (front : List Point) → CostsAlike (parts ++ front ∷ []) new
    → CostsAlike (fronts_with parts sum ++ front ∷ []) (fronts_with new sum)
CostsAlike-part parts new None front alike = alike
CostsAlike-part parts new (Some sum) front alike =
    CostsAlike-trans ((parts ++ sum ∷ []) ++ front ∷ []) ((parts ++ front ∷ []) ++ sum ∷ []) (new ++ sum ∷ [])
    (CostsAlike-swapped parts sum front) (CostsAlike-push (parts ++ front ∷ []) new sum alike)

module _ (rest : List (List Point)) (last sum : List Point) where
  -- the last two fit where all do
  pub last_fit : greatest_together ((rest ++ last ∷ []) ++ sum ∷ []) < 2 ^ 64 → greatest_cost last + greatest_cost sum < 2 ^ 64
  last_fit fits =
      let one = greatest_together-push rest last in
      let two = greatest_together-push (rest ++ last ∷ []) sum in
      omega arith

  -- the last two in one
  pub CostsAlike-joined : (both : List Point) → IsBoth last sum both → CostsAlike ((rest ++ last ∷ []) ++ sum ∷ []) (rest ++ both ∷ [])
  CostsAlike-joined both joins = record {
    value = λ budget.
        together-push rest both budget
        ∙ ap (both_of (together rest budget)) (joins.value budget)
        ∙ sym (both_of-assoc (together rest budget) (cheapest last budget) (cheapest sum budget))
        ∙ ap (λ o. both_of o (cheapest sum budget)) (sym (together-push rest last budget))
        ∙ sym (together-push (rest ++ last ∷ []) sum budget);
    needs = λ most low.
        let early = All-early (NeedsWithin most) (rest ++ last ∷ []) sum low in
        All-push (NeedsWithin most) rest both (All-early (NeedsWithin most) rest last early)
        (joins.needs most (All-last (NeedsWithin most) rest last early) (All-last (NeedsWithin most) (rest ++ last ∷ []) sum low));
    costs =
        (let one = greatest_together-push rest last in
        let two = greatest_together-push (rest ++ last ∷ []) sum in
        let new = greatest_together-push rest both in
        let bound = greatest_cost-le both (greatest_cost last + greatest_cost sum)
        (joins.costs (greatest_cost last) (greatest_cost sum) (CostsWithin-greatest last) (CostsWithin-greatest sum)) in
        omega arith);
  }

-- one front that costs what all do
pub IsTotal-alike : (fronts : List (List Point)) (total : List Point) → CostsAlike fronts (total ∷ []) → IsTotal fronts total
IsTotal-alike fronts total alike = record {
  value = λ budget. sym (together-one total budget) ∙ alike.value budget;
  needs = λ most low. All-head (NeedsWithin most) total [] (alike.needs most low);
  costs =
      let bound = alike.costs in
      All-weaker (λ point. point.cost ≤ greatest_cost total) (λ point. point.cost ≤ greatest_together fronts) (λ point low. omega arith)
      total (CostsWithin-greatest total);
}
