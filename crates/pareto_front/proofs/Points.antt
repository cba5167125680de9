-- What the prices of a front tell of its points.
use Rattle.std.proofs.Common.{◌≡◌, ℕ, ◌<◌, ◌≤◌, List, [], ◌∷◌, Option, Some, None, refl, ap, sym, ◌∙◌, subst, arith, inl, inr}
use Rattle.std.specs.Prelude.{All, IsSomeAnd}
use Rattle.std.specs.Option.{ForSome, option_or}
use Rattle.std.proofs.lemmas.List.Elements.{All-nil, All-cons, All-weaker}
use Rattle.std.proofs.lemmas.Option.{none-some}
use Rattle.pareto_front.specs.declared.point.Point.{Point}
use Rattle.pareto_front.specs.Front.{IsFront, CostsNoMore, cheapest, price_of}
use Rattle.pareto_front.proofs.Falls.{cheapest-All, option_or-Some, price_of-Some}
use Rattle.pareto_front.proofs.Order.{later_above, later_less}
use Rattle.pareto_front.proofs.Prices.{price_of-within, price_of-above, cheapest-above}

-- the point is the price of the list at its need, and every price below its need is above its cost
pub record IsPriced (ps : List Point) (p : Point) : Type 0 where
  pub at_need : cheapest ps p.need ≡ Some p.cost
  pub before : (b : ℕ) → b < p.need → ForSome (cheapest ps b) (λ x. p.cost < x)

-- up to the need of the first point it alone can have a price
first_decides : (p : Point) (ps : List Point) (b : ℕ) → IsFront (p ∷ ps) → b ≤ p.need → cheapest (p ∷ ps) b ≡ price_of p b
first_decides p ps b front within = ap (λ o. option_or o (price_of p b)) (cheapest-above ps b (later_above p ps b front within))

first_priced : (p : Point) (ps : List Point) → IsFront (p ∷ ps) → IsPriced (p ∷ ps) p
first_priced p ps front = record {
  at_need = first_decides p ps p.need front (omega arith) ∙ price_of-within p p.need (omega arith);
  before = λ b below x is. absurd (none-some x (sym (first_decides p ps b front (omega arith) ∙ price_of-above p b below) ∙ is));
}

later_priced : (p : Point) (ps : List Point) (q : Point) → q.cost < p.cost → IsPriced ps q → IsPriced (p ∷ ps) q
later_priced p ps q less priced = record {
  at_need = ap (λ o. option_or o (price_of p q.need)) priced.at_need;
  before = λ b below x is. elim (option_or-Some (cheapest ps b) (price_of p b) x is) [
    | inl later ↦ priced.before b below x later
    | inr first ↦ (let same = (price_of-Some p b x first).1 in omega arith)
  ];
}

-- each point of a front is the price at its need
pub front_priced : (ps : List Point) → IsFront ps → All (IsPriced ps) ps
front_priced [] front = All-nil (IsPriced [])
front_priced (p ∷ ps) front =
    All-cons (IsPriced (p ∷ ps)) p ps (first_priced p ps front)
    (λ k d within. later_priced p ps _ (later_less p ps front k d within) (front_priced ps front.1 k d within))

pub cheapest-need : (ps : List Point) → IsFront ps → All (λ p. cheapest ps p.need ≡ Some p.cost) ps
cheapest-need ps front = All-weaker (IsPriced ps) (λ p. cheapest ps p.need ≡ Some p.cost) (λ p priced. priced.at_need) ps (front_priced ps front)

-- a price never rises with the budget
pub cheapest-rise : (ps : List Point) (b c : ℕ) → IsFront ps → b ≤ c → CostsNoMore (cheapest ps c) (cheapest ps b)
cheapest-rise [] b c front more x is = absurd (none-some x is)
cheapest-rise (p ∷ ps) b c front more x is = elim (option_or-Some (cheapest ps b) (price_of p b) x is) [
  | inl later ↦ from_later (cheapest ps c) (cheapest-rise ps b c front.1 more x later)
  | inr first ↦
      (let here = price_of-Some p b x first in
      let within = here.0 in
      from_first here.1 (omega arith) (cheapest ps c) refl)
] where
  from_later : (o : Option ℕ) → IsSomeAnd o (λ y. y ≤ x) → IsSomeAnd (option_or o (price_of p c)) (λ y. y ≤ x)
  from_later None low = absurd low
  from_later (Some y) low = low

  from_first : p.cost ≡ x → p.need ≤ c → (o : Option ℕ) → cheapest ps c ≡ o → IsSomeAnd (option_or o (price_of p c)) (λ y. y ≤ x)
  from_first same within None o_is = subst (λ o. IsSomeAnd o (λ y. y ≤ x)) (sym (price_of-within p c within)) (omega arith)
  from_first same within (Some y) o_is =
      let less = cheapest-All (λ z. z < p.cost) ps c (later_less p ps front) y o_is in
      omega arith
