-- The points that are cheaper than all before them, made in rising need. One need more is read at a time: its price is
-- left out where it is no lower than the last cost, and is a new last point where it is. So the points have, within each
-- budget, the least price of what is read.
use Rattle.std.proofs.Common.{◌≡◌, ℕ, ◌<◌, ◌≤◌, cond, nat_le, min, refl, ap, sym, ◌∙◌, arith, inl, inr, subst, List, [], ◌∷◌, ◌++◌, Option, Some, None}
use Rattle.std.specs.Option.{ForSome}
use Rattle.std.proofs.lemmas.Bool.Decides.{leb_tells}
use Rattle.pareto_front.specs.declared.point.Point.{Point}
use Rattle.pareto_front.specs.Front.{IsFront, CostsNoMore, NeedsWithin, cheapest, price_of}
use Rattle.pareto_front.specs.Sweep.{NeedsBelow, last_cost}
use Rattle.pareto_front.proofs.Falls.{cheapest-parts}
use Rattle.pareto_front.proofs.Needs.{within_from_below, within_later}
use Rattle.pareto_front.proofs.Order.{IsFront-push}
use Rattle.pareto_front.proofs.Prices.{cheapest-append, cheapest-last}
use Rattle.duct_units.specs.Prices.{lesser}
use Rattle.duct_units.proofs.PriceLaws.{lesser-none}
use Rattle.pareto_front.proofs.LeastAmong.{later_is_lesser}

-- a price that counts from the need on
abbrev pub price_from : ℕ → Option ℕ → ℕ → Option ℕ
price_from need price budget = cond (nat_le need budget) price None

-- the points are a front, and their cheapest is the least of what is read
pub record IsKept (least : ℕ → Option ℕ) (points : List Point) : Type 0 where
  pub front : IsFront points
  pub value : (budget : ℕ) → cheapest points budget ≡ least budget

pub IsKept-start : (least : ℕ → Option ℕ) → ((budget : ℕ) → least budget ≡ None) → IsKept least []
IsKept-start least none = record {
  front = tt;
  value = λ budget. sym (none budget);
}

-- the lesser of two where the second is no lower
lesser-first : (x y : Option ℕ) → CostsNoMore x y → lesser x y ≡ x
lesser-first None None low = refl
lesser-first None (Some y) low = absurd (low y refl)
lesser-first (Some x) None low = refl
lesser-first (Some x) (Some y) low = let at_most : x ≤ y = low y refl in ap Some (let same : min x y ≡ x = omega arith in same)

module _ (least next : ℕ → Option ℕ) (points : List Point) (need : ℕ) (price : Option ℕ) (kept : IsKept least points) (step : (budget : ℕ) → next budget ≡ lesser (least budget) (price_from need price budget)) where
  -- a price that is no lower than the last cost so far
  pub IsKept-skip : NeedsWithin need points → CostsNoMore (last_cost points) price → IsKept next points
  IsKept-skip within costs_no_more = record {
    front = kept.front;
    value = λ budget. elim (leb_tells need budget) [
      | inl reached ↦
          (let is = cheapest-last points budget (within_later need budget points reached.1 within) in
          sym (step budget
          ∙ ap (λ b. lesser (least budget) (cond b price None)) reached.0
          ∙ ap (λ o. lesser o price) (sym (kept.value budget) ∙ is)
          ∙ lesser-first (last_cost points) price costs_no_more
          ∙ sym is))
      | inr before ↦
          kept.value budget
          ∙ sym (step budget ∙ ap (λ b. lesser (least budget) (cond b price None)) before.0 ∙ lesser-none (least budget))
    ];
  }

  -- and one that is
  pub IsKept-push : (point : Point) → point.need ≡ need → price ≡ Some point.cost → NeedsBelow need points
      → ForSome (last_cost points) (λ last. point.cost < last) → IsKept next (points ++ point ∷ [])
  IsKept-push point here is below less = record {
    front = front;
    value = λ budget.
        cheapest-append points (point ∷ []) budget
        ∙ later_is_lesser (cheapest points budget) (price_of point budget)
        (λ c d early late. cheapest-parts points (point ∷ []) budget c d front early late)
        ∙ ap (λ o. lesser o (price_of point budget)) (kept.value budget)
        ∙ ap (λ n. lesser (least budget) (cond (nat_le n budget) (Some point.cost) None)) here
        ∙ ap (λ o. lesser (least budget) (price_from need o budget)) (sym is)
        ∙ sym (step budget);
  } where
    under : NeedsBelow point.need points
    under = subst (λ n. NeedsBelow n points) (sym here) below

    front : IsFront (points ++ point ∷ [])
    front = IsFront-push points point kept.front under
        (λ cost was. less cost
        (sym (cheapest-last points point.need (within_from_below point.need point.need points (omega arith) under)) ∙ was))
