-- A front whose points are laid by need, and the sum that it is added to.
use Rattle.std.proofs.Common.{◌≡◌, ℕ, ◌+◌, ◌-◌, ◌<◌, ◌≤◌, refl, ap, sym, ◌∙◌, arith, inl, inr, subst, List, [], ◌∷◌, Option, Some, None, length, take, drop, sum, get_or, set, length-set, get_or-take, get_or-drop, length-drop}
use Rattle.std.specs.Prelude.{All, IsSomeAnd}
use Rattle.std.specs.Option.{option_or}
use Rattle.std.proofs.lemmas.Bool.{cases_lt}
use Rattle.std.proofs.lemmas.List.{length-take, take_all, take_more, take-set-le, drop-set-lt, drop-drop, take-take, get_or_default}
use Rattle.std.proofs.lemmas.List.Elements.{All-drop, All-take, All-weaker}
use Rattle.std.proofs.lemmas.List.Sums.{sum_by-set, sum_by-take-drop, sum_by-take-le, sum_by_more_le}
use Rattle.duct_units.specs.Prices.{both_of}
use Rattle.pareto_front.specs.declared.point.Point.{Point}
use Rattle.pareto_front.specs.Front.{IsFront, NeedsWithin, cheapest}
use Rattle.pareto_front.specs.Sweep.{IsReadTo, last_cost}
use Rattle.pareto_front.specs.FrontSum.{IsBoth}
use Rattle.pareto_front.specs.CostFalls.{AreFalls, falls_to, points_of}
use Rattle.pareto_front.proofs.Bounds.{joined_needs, sum_costs}
use Rattle.pareto_front.proofs.Cuts.{needs_rise}
use Rattle.pareto_front.proofs.Falls.{cheapest-parts}
use Rattle.pareto_front.proofs.FallsByNeed.{falls-below, falls-cost, falls-front, falls_to-le}
use Rattle.pareto_front.proofs.Needs.{NeedsAbove, within_from_below, within_later}
use Rattle.pareto_front.proofs.Order.{IsFront-take}
use Rattle.pareto_front.proofs.Points.{cheapest-rise}
use Rattle.pareto_front.proofs.Prices.{cheapest-append, cheapest-last, cheapest-take, price_of-above, price_of-within}
use Rattle.pareto_front.proofs.ReadOn.{cost_read}
use Rattle.pareto_front.proofs.Summed.{last_read}

-- a fall that is laid at a need tells at that need and above
falls_to-set : (falls : List ℕ) (need fall b : ℕ) → need < length falls → need ≤ b
    → falls_to b (set falls need (get_or falls need 0 + fall)) ≡ falls_to b falls + fall
falls_to-set falls need fall b within late =
    let new = set falls need (get_or falls need 0 + fall) in
    let all = sum_by-set (λ (x : ℕ). x) falls need (get_or falls need 0 + fall) 0 within in
    let old_parts = sum_by-take-drop (λ (x : ℕ). x) falls (b + 1) in
    let new_parts = sum_by-take-drop (λ (x : ℕ). x) new (b + 1) in
    let rest : sum (drop (b + 1) new) ≡ sum (drop (b + 1) falls) =
    ap sum (drop-set-lt (b + 1) falls need (get_or falls need 0 + fall) (omega arith)) in
    omega arith

falls_to-unset : (falls : List ℕ) (need cost b : ℕ) → b < need → falls_to b (set falls need cost) ≡ falls_to b falls
falls_to-unset falls need cost b early = ap sum (take-set-le (b + 1) falls need cost (omega arith))

falls_to-all : (falls : List ℕ) (b : ℕ) → length falls ≤ b → falls_to b falls ≡ sum falls
falls_to-all falls b past = ap sum (take_all (b + 1) falls (omega arith))

-- what a later need falls by is no part of what falls before
falls_to-next : (falls : List ℕ) (need later : ℕ) → need < later → later < length falls → falls_to need falls + get_or falls later 0 ≤ sum falls
falls_to-next falls need later above within =
    let more = sum_by_more_le (λ (x : ℕ). x) falls later 0 within in
    let part = sum_by-take-le (λ (x : ℕ). x) (take later falls) (need + 1) in
    let same : sum (take (need + 1) (take later falls)) ≡ sum (take (need + 1) falls) = ap sum (take-take (need + 1) later falls (omega arith)) in
    omega arith

-- the first i points are laid, those up to the need in the first cost
pub record IsLaidFrom (old new : List ℕ) (points : List Point) (need cost i before : ℕ) : Type 0 where
  pub wide : length new ≡ length old
  pub in_range : i ≤ length points
  pub last : last_cost (take i points) ≡ Some before
  pub above : NeedsAbove need (drop i points)
  pub falls : (b price : ℕ) → need ≤ b → cheapest (take i points) b ≡ Some price → falls_to b new + price ≡ falls_to b old + cost

same_some : (x y : ℕ) (o : Option ℕ) → o ≡ Some x → o ≡ Some y → x ≡ y
same_some x y o one other = let both : Some x ≡ Some y = sym one ∙ other in cc

pub IsLaidFrom-start : (falls : List ℕ) (points part : List Point) (need cost : ℕ) → IsFront points → part ≡ take (length part) points
    → IsReadTo (need + 1) points (length part) → length part ≤ length points → cheapest points need ≡ Some cost
    → IsLaidFrom falls falls points need cost (length part) cost
IsLaidFrom-start falls points part need cost front is read bound price =
    let i : ℕ = length part in
    let last : last_cost (take i points) ≡ Some cost = cost_read points need i read ∙ price in
    record {
      wide = refl;
      in_range = bound;
      last = last;
      above = All-weaker (λ p. need + 1 ≤ p.need) (λ p. need < p.need) (λ p h. omega arith) (drop i points) read.rest;
      falls = λ b c over is_c.
          let all = cheapest-last (take i points) b (within_from_below (need + 1) b (take i points) (omega arith) read.read) in
          let same : c ≡ cost = same_some c cost (cheapest (take i points) b) is_c (all ∙ last) in
          omega arith;
    }

module _ (old new : List ℕ) (points : List Point) (need cost i before : ℕ) (front : IsFront points)
    (places : All (λ p. p.need < length old) points) (laid : IsLaidFrom old new points need cost i before) where
  -- all that is laid has fallen in the end
  fallen : sum new + before ≡ sum old + cost
  fallen =
      let far : ℕ = length old + need in
      let within : NeedsWithin far (take i points) =
      All-weaker (λ p. p.need < length old) (λ p. p.need ≤ far) (λ p h. omega arith) (take i points) (All-take (λ p. p.need < length old) i points places) in
      let same = laid.falls far before (omega arith) (cheapest-last (take i points) far within ∙ laid.last) in
      let new_all = falls_to-all new far (let wide = laid.wide in omega arith) in
      let old_all = falls_to-all old far (omega arith) in
      omega arith

  module _ (d : Point) (more : i < length points) where
    abbrev point : Point
    point = get_or points i d

    place : (get_or points i d).need < length new
    place = let wide = laid.wide in let here = places i d more in omega arith

    above_need : need < (get_or points i d).need
    above_need =
        let here = laid.above 0 d (let long = length-drop i points in omega arith) in
        subst (λ (p : Point). need < p.need) (get_or-drop i points 0 d ∙ ap (λ n. get_or points n d) (let same : i + 0 ≡ i = omega arith in same)) here

    -- all that is laid before needs no more, and costs more
    early_within : NeedsWithin (get_or points i d).need (take i points)
    early_within k e within =
        let here : k < i = omega (arith, length-take i points) in
        subst (λ (p : Point). p.need ≤ (get_or points i d).need) (sym (get_or-take i points k e here))
        (subst (λ (p : Point). (get_or points k e).need ≤ p.need) (get_or_default points i e d more)
        (needs_rise points front k i e (omega arith) more))

    early_last : (b : ℕ) → (get_or points i d).need ≤ b → cheapest (take i points) b ≡ Some before
    early_last b late = cheapest-last (take i points) b (within_later (get_or points i d).need b (take i points) late early_within) ∙ laid.last

    pub laid_less : (get_or points i d).cost < before
    laid_less =
        cheapest-parts (take i points) (point ∷ []) point.need before point.cost
        (subst IsFront (take_more points i d more) (IsFront-take points (i + 1) front))
        (early_last point.need (omega arith)) (price_of-within point point.need (omega arith))

    -- the fall at its need stays below the first cost
    pub laid_fits : (first_cost : ℕ) → sum old + cost ≤ first_cost + falls_to need old → cheapest points need ≡ Some cost
        → get_or new (get_or points i d).need 0 + before ≤ first_cost
    laid_fits first_cost room is =
        let all = fallen in
        let same = laid.falls need cost (omega arith) (cheapest-take points i need laid.above ∙ is) in
        let next = falls_to-next new need point.need above_need place in
        omega arith

    whole : (b : ℕ) → cheapest (take (i + 1) points) b ≡ option_or (cheapest (point ∷ []) b) (cheapest (take i points) b)
    whole b = ap (λ (l : List Point). cheapest l b) (take_more points i d more) ∙ cheapest-append (take i points) (point ∷ []) b

    next_falls : (b price : ℕ) → need ≤ b → cheapest (take (i + 1) points) b ≡ Some price
        → falls_to b (set new point.need (get_or new point.need 0 + (before - point.cost))) + price ≡ falls_to b old + cost
    next_falls b price over is = elim (cases_lt b point.need) [
      | inl early ↦
          (let prev : cheapest (take i points) b ≡ Some price =
          sym (whole b ∙ ap (λ o. option_or o (cheapest (take i points) b)) (price_of-above point b early)) ∙ is in
          let was = laid.falls b price over prev in
          let same = falls_to-unset new point.need (get_or new point.need 0 + (before - point.cost)) b early in
          omega arith)
      | inr late ↦
          (let same : price ≡ point.cost =
          same_some price point.cost (cheapest (take (i + 1) points) b) is
          (whole b ∙ ap (λ o. option_or o (cheapest (take i points) b)) (price_of-within point b late)) in
          let was = laid.falls b before over (early_last b late) in
          let is = falls_to-set new point.need (before - point.cost) b place late in
          let less = laid_less in
          omega arith)
    ]

    pub IsLaidFrom-next : (fall : ℕ) → fall ≡ get_or new (get_or points i d).need 0 + (before - (get_or points i d).cost)
        → IsLaidFrom old (set new (get_or points i d).need fall) points need cost (i + 1) (get_or points i d).cost
    IsLaidFrom-next fall is = record {
      wide = length-set new point.need fall ∙ laid.wide;
      in_range = omega arith;
      last =
          last_read points (i + 1) d (omega arith) (omega arith)
          ∙ ap (λ n. Some (get_or points n d).cost) (let same : i + 1 - 1 ≡ i = omega arith in same);
      above = subst (NeedsAbove need) (drop-drop 1 i points) (All-drop (λ p. need < p.need) 1 (drop i points) laid.above);
      falls =
          subst (λ f. (b price : ℕ) → need ≤ b → cheapest (take (i + 1) points) b ≡ Some price
          → falls_to b (set new point.need f) + price ≡ falls_to b old + cost) (sym is) next_falls;
    }

  pub IsLaidFrom-all : length points ≤ i → (b price : ℕ) → need ≤ b → cheapest points b ≡ Some price
      → falls_to b new + price ≡ falls_to b old + cost
  IsLaidFrom-all end b price over is =
      laid.falls b price over (ap (λ (l : List Point). cheapest l b) (take_all i points end) ∙ is)

some_cost : (o : Option ℕ) (most : ℕ) → IsSomeAnd o (λ c. c ≤ most) → (price : ℕ) × (o ≡ Some price)
some_cost None most is = absurd is
some_cost (Some price) most is = (price, refl)

-- the sum with a front whose points are laid
module _ (first : Point) (old new : List ℕ) (points : List Point) (need here cost : ℕ)
    (are : AreFalls first old) (front : IsFront points) (later : first.need ≤ need) (in_range : need < length old)
    (is : cheapest points need ≡ Some cost) (here_is : here + falls_to need old ≡ first.cost + falls_to first.need old)
    (falls : (b price : ℕ) → need ≤ b → cheapest points b ≡ Some price → falls_to b new + price ≡ falls_to b old + cost)
    (wide : length new ≡ length old) where
  abbrev sum_first : Point
  sum_first = record { need = need; cost = here + cost }

  -- from there on the front costs something
  there : (b : ℕ) → need ≤ b → (price : ℕ) × (cheapest points b ≡ Some price)
  there b over = some_cost (cheapest points b) cost (cheapest-rise points need b front over cost is)

  at_need : falls_to need new ≡ falls_to need old
  at_need = let same = falls need cost (omega arith) is in omega arith

  pub AreFalls-added : AreFalls (record { need = need; cost = here + cost }) new
  AreFalls-added =
      let (price, is_price) = there (length old) (omega arith) in
      let same = falls (length old) price (omega arith) is_price in
      let new_all = falls_to-all new (length old) (omega arith) in
      let old_all = falls_to-all old (length old) (omega arith) in
      let most = are.within in
      let first_same = at_need in
      record { in_range = omega arith; within = omega arith }

  value : ((b : ℕ) → b < need → both_of (cheapest (points_of first old) b) (cheapest points b) ≡ None)
      → (b : ℕ) → cheapest (points_of sum_first new) b ≡ both_of (cheapest (points_of first old) b) (cheapest points b)
  value start b = elim (cases_lt b need) [
    | inl below ↦ falls-below sum_first new b AreFalls-added below ∙ sym (start b below)
    | inr over ↦
        (let (price, is_price) = there b over in
        let laid = falls b price over is_price in
        let same = at_need in
        let most = are.within in
        let part = falls_to-le old b in
        let was : ℕ = first.cost + falls_to first.need old - falls_to b old in
        falls-cost sum_first new b (was + price) over (omega arith)
        ∙ sym (
        ap (λ o. both_of o (cheapest points b)) (falls-cost first old b was (omega arith) (omega arith))
        ∙ ap (both_of (Some was)) is_price))
  ]

  pub IsBoth-added : ((b : ℕ) → b < need → both_of (cheapest (points_of first old) b) (cheapest points b) ≡ None)
      → IsBoth (points_of first old) points (points_of (record { need = need; cost = here + cost }) new)
  IsBoth-added start = record {
    value = value start;
    needs = joined_needs (points_of first old) points (points_of sum_first new) (falls-front sum_first new AreFalls-added) both_of (value start);
    costs = sum_costs (points_of first old) points (points_of sum_first new) (falls-front sum_first new AreFalls-added) (value start);
  }
