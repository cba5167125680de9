-- A price is either no lower than the last cost so far, and the points stay, or it becomes a new last point.
use Rattle.std.proofs.Common.{◌≡◌, ℕ, ◌<◌, cond, refl, sym, arith, inl, inr, subst, List, [], ◌∷◌, ◌++◌, Option, Some, None}
use Rattle.std.specs.Option.{ForSome}
use Rattle.std.proofs.lemmas.Bool.Decides.{leb_tells}
use Rattle.std.proofs.lemmas.Option.{none-some, same_Some}
use Rattle.pareto_front.specs.declared.point.Point.{Point}
use Rattle.pareto_front.specs.Cheaper.{is_no_cheaper, with_cheaper}
use Rattle.pareto_front.specs.Front.{CostsNoMore}
use Rattle.pareto_front.specs.Sweep.{last_cost}

module _ (P : List Point → Type 0) (need : ℕ) (points : List Point) where
  -- a price, where the last cost is known
  either_way : (cost : ℕ) (last : Option ℕ) → (CostsNoMore last (Some cost) → P points)
      → (ForSome last (λ c. cost < c) → P (points ++ record { need = need; cost = cost } ∷ []))
      → P (cond (is_no_cheaper cost last) points (points ++ record { need = need; cost = cost } ∷ []))
  either_way cost None stays goes = goes (λ c is. absurd (none-some c is))
  either_way cost (Some last) stays goes = elim (leb_tells last cost) [
    | inl high ↦
        subst (λ b. P (cond b points (points ++ record { need = need; cost = cost } ∷ []))) (sym high.0)
        (stays (λ was is. let same : cost ≡ was = same_Some cost was is in let most = high.1 in omega arith))
    | inr low ↦
        subst (λ b. P (cond b points (points ++ record { need = need; cost = cost } ∷ []))) (sym low.0)
        (goes (λ c is. let same : last ≡ c = same_Some last c is in let less = low.1 in omega arith))
  ]

  -- what the points have, and have with the new one, what is kept has
  pub with_cheaper-cases : (price : Option ℕ) → (CostsNoMore (last_cost points) price → P points)
      → ((point : Point) → point.need ≡ need → price ≡ Some point.cost → ForSome (last_cost points) (λ last. point.cost < last) → P (points ++ point ∷ []))
      → P (with_cheaper need price points)
  with_cheaper-cases None stays goes = stays (λ was is. absurd (none-some was is))
  with_cheaper-cases (Some cost) stays goes =
      either_way cost (last_cost points) stays (goes (record { need = need; cost = cost }) refl refl)
