-- The prices of a front: when there is none, and how they fall from one part to the next.
use Rattle.std.proofs.Common.{◌≡◌, ℕ, zero, suc, ◌<◌, ◌≤◌, List, [], ◌∷◌, ◌++◌, take, drop, Option, Some, None, refl, ap, sym, ◌∙◌, subst, arith, ◌⊎◌, inl, inr}
use Rattle.std.specs.Prelude.{All, IsSomeAnd, IsNone, is_some, ◌↔◌}
use Rattle.std.specs.Option.{option_or, ForSome}
use Rattle.std.proofs.lemmas.List.{take-append-drop}
use Rattle.std.proofs.lemmas.List.Elements.{All-head, All-tail}
use Rattle.std.proofs.lemmas.Bool.Decides.{nat_tests}
use Rattle.std.proofs.lemmas.Bool.{cases_lt, false≢true}
use Rattle.pareto_front.specs.declared.point.Point.{Point}
use Rattle.pareto_front.specs.Front.{IsFront, IsBelowFirst, CostsNoMore, cheapest, price_of}
use Rattle.pareto_front.specs.Sweep.{next_need, IsReadTo}
use Rattle.pareto_front.proofs.Costs.{Cheaper}
use Rattle.pareto_front.proofs.Needs.{within_from_below}
use Rattle.pareto_front.proofs.Order.{IsFront-parts, IsFront-above}
use Rattle.pareto_front.proofs.Prices.{cheapest-above, cheapest-append, cheapest-first, cheapest-past}

pub option_or-Some : (o p : Option ℕ) (x : ℕ) → option_or o p ≡ Some x → (o ≡ Some x) ⊎ (p ≡ Some x)
option_or-Some None p x is = inr is
option_or-Some (Some y) p x is = inl is

pub price_of-Some : (p : Point) (b x : ℕ) → price_of p b ≡ Some x → (p.need ≤ b) × (p.cost ≡ x)
price_of-Some p b x is = grind (arith, nat_tests)

-- a price is the cost of a point
pub cheapest-All : (P : ℕ → Type 0) (ps : List Point) (b : ℕ) → All (λ p. P p.cost) ps → ForSome (cheapest ps b) P
cheapest-All P [] b all x is = absurd (cc)
cheapest-All P (p ∷ ps) b all x is = elim (option_or-Some (cheapest ps b) (price_of p b) x is) [
  | inl later ↦ cheapest-All P ps b (All-tail (λ q. P q.cost) p ps all) x later
  | inr here ↦ subst P (price_of-Some p b x here).1 (All-head (λ q. P q.cost) p ps all)
]

-- a later part of a front costs less than an earlier one
pub cheapest-parts : (ps qs : List Point) (b x y : ℕ) → IsFront (ps ++ qs) → cheapest ps b ≡ Some x → cheapest qs b ≡ Some y → y < x
cheapest-parts ps qs b x y front early late =
    let less = cheapest-All (λ c. All (λ q. q.cost < c) qs) ps b (IsFront-parts ps qs front) x early in
    cheapest-All (λ c. c < x) qs b less y late

-- a front has no price exactly below its first need
pub cheapest-none : (ps : List Point) (b : ℕ) → IsFront ps → IsNone (cheapest ps b) ↔ IsBelowFirst b ps
cheapest-none ps b front = (below ps, λ is. ap is_some (cheapest-above ps b (IsFront-above ps b front is))) where
  below : (ps : List Point) → IsNone (cheapest ps b) → IsBelowFirst b ps
  below [] none = tt
  below (p ∷ ps) none = elim (cases_lt b p.need) [
    | inl is ↦ is
    | inr within ↦ (let (y, some) = cheapest-first p ps b within in absurd (false≢true (sym none ∙ ap is_some some)))
  ]

-- what is left has a price at the need of its first point
rest_reached : (ps : List Point) (i need : ℕ) → next_need ps i ≡ Some need → (y : ℕ) × (cheapest (drop i ps) need ≡ Some y)
rest_reached [] i need reached = absurd (cc)
rest_reached (p ∷ ps) zero need reached = cheapest-first p ps need (let same : p.need ≡ need = cc in omega arith)
rest_reached (p ∷ ps) (suc i) need reached = rest_reached ps i need reached

-- a front at a need that the first i points are below, against these points alone at any later budget
module _ (ps : List Point) (need i b : ℕ) (front : IsFront ps) (read : IsReadTo need ps i) (over : need ≤ b) where
  at_need : cheapest (take i ps) b ≡ cheapest (take i ps) need
  at_need =
      cheapest-past (take i ps) b need
      (within_from_below need b (take i ps) (omega arith) read.read) (within_from_below need need (take i ps) (omega arith) read.read)

  whole : (x : ℕ) → cheapest (take i ps) b ≡ Some x → cheapest ps need ≡ option_or (cheapest (drop i ps) need) (Some x)
  whole x is =
      ap (λ l. cheapest l need) (sym (take-append-drop i ps))
      ∙ cheapest-append (take i ps) (drop i ps) need
      ∙ ap (option_or (cheapest (drop i ps) need)) (sym at_need ∙ is)

  rest_less : (x y : ℕ) → cheapest (take i ps) b ≡ Some x → cheapest (drop i ps) need ≡ Some y → y < x
  rest_less x y is late =
      cheapest-parts (take i ps) (drop i ps) need x y (subst IsFront (sym (take-append-drop i ps)) front) (sym at_need ∙ is) late

  -- the front is no more expensive
  pub cheapest-read : CostsNoMore (cheapest ps need) (cheapest (take i ps) b)
  cheapest-read x is = subst (λ o. IsSomeAnd o (λ y. y ≤ x)) (sym (whole x is)) (go (cheapest (drop i ps) need) refl) where
    go : (o : Option ℕ) → cheapest (drop i ps) need ≡ o → IsSomeAnd (option_or o (Some x)) (λ y. y ≤ x)
    go None none = omega arith
    go (Some y) late = let less = rest_less x y is late in omega arith

  -- and it is cheaper where its next point has that need
  pub cheapest-read_point : next_need ps i ≡ Some need → Cheaper (cheapest ps need) (cheapest (take i ps) b)
  cheapest-read_point reached x is =
      let (y, late) = rest_reached ps i need reached in
      subst (λ o. IsSomeAnd o (λ z. z < x)) (sym (whole x is ∙ ap (λ o. option_or o (Some x)) late)) (rest_less x y is late)
