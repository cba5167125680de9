-- One step of a sweep over the needs of two fronts.
use Rattle.std.proofs.Common.{◌≡◌, ℕ, ◌+◌, ◌<◌, ◌≤◌, List, [], ◌∷◌, ◌++◌, take, drop, Option, Some, ap, sym, ◌∙◌, arith, inl, inr}
use Rattle.std.specs.Option.{option_or}
use Rattle.std.proofs.lemmas.Bool.Decides.{leb_tells}
use Rattle.pareto_front.specs.declared.point.Point.{Point}
use Rattle.pareto_front.specs.Front.{cheapest}
use Rattle.pareto_front.specs.Sweep.{IsReadTo}
use Rattle.pareto_front.proofs.Needs.{above_from, within_from_below}
use Rattle.pareto_front.proofs.Prices.{price_of-within, price_of-above, cheapest-append, cheapest-past, cheapest-take}

-- the new points have the prices of the old below the need, and this price from there on
pub record Extends (need : ℕ) (price : Option ℕ) (old new : List Point) : Type 0 where
  pub below : (b : ℕ) → b < need → cheapest new b ≡ cheapest old b
  pub from : (b : ℕ) → need ≤ b → cheapest new b ≡ price

-- a point at the end
pub Extends-push : (ps : List Point) (q : Point) → Extends q.need (Some q.cost) ps (ps ++ q ∷ [])
Extends-push ps q = record {
  below = λ b under. cheapest-append ps (q ∷ []) b ∙ ap (λ o. option_or o (cheapest ps b)) (price_of-above q b under);
  from = λ b over. cheapest-append ps (q ∷ []) b ∙ ap (λ o. option_or o (cheapest ps b)) (price_of-within q b over);
}

-- a front that is read past one more need
pub Extends-read : (ps : List Point) (need i j : ℕ) → IsReadTo need ps i → IsReadTo (need + 1) ps j
    → Extends need (cheapest ps need) (take i ps) (take j ps)
Extends-read ps need i j before after = record {
  below = λ b under.
      cheapest-take ps j b (above_from (need + 1) b (drop j ps) (omega arith) after.rest)
      ∙ sym (cheapest-take ps i b (above_from need b (drop i ps) (omega arith) before.rest));
  from = λ b over.
      cheapest-past (take j ps) b need
      (within_from_below (need + 1) b (take j ps) (omega arith) after.read)
      (within_from_below (need + 1) need (take j ps) (omega arith) after.read)
      ∙ cheapest-take ps j need (above_from (need + 1) need (drop j ps) (omega arith) after.rest);
}

-- what joins the prices of two lists at every budget still does past one more need
pub Extends-joined : (join : Option ℕ → Option ℕ → Option ℕ) (need : ℕ) (x y : Option ℕ) (a a' b b' k k' : List Point)
    → Extends need x a a' → Extends need y b b' → Extends need (join x y) k k'
    → ((budget : ℕ) → cheapest k budget ≡ join (cheapest a budget) (cheapest b budget))
    → (budget : ℕ) → cheapest k' budget ≡ join (cheapest a' budget) (cheapest b' budget)
Extends-joined join need x y a a' b b' k k' of_a of_b of_k before budget = elim (leb_tells need budget) [
  | inl over ↦
      of_k.from budget over.1
      ∙ sym (ap (λ o. join o (cheapest b' budget)) (of_a.from budget over.1) ∙ ap (join x) (of_b.from budget over.1))
  | inr under ↦
      of_k.below budget under.1
      ∙ before budget
      ∙ sym (ap (λ o. join o (cheapest b' budget)) (of_a.below budget under.1) ∙ ap (join (cheapest a budget)) (of_b.below budget under.1))
]
