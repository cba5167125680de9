-- The route of a section, one step at a time, and the induction from the fan on.
use Rattle.std.proofs.Common.{◌≡◌, ℕ, zero, suc, ◌<◌, ◌≤◌, refl, arith, ap, sym, ◌∙◌, [], ◌∷◌}
use Rattle.duct_units.specs.declared.side.Side.{Side}
use Rattle.tree_sums.specs.Route.{Place, Fan, At, Falls, onward, route_within, route}

module _ (next : ℕ → Place) (falls : Falls next) where
  onward-same : (k j t : ℕ) → ((p : ℕ) → p < t → route_within next k p ≡ route_within next j p)
      → (o : Place) → next t ≡ o → onward (route_within next k) o ≡ onward (route_within next j) o
  onward-same k j t before (Fan x) is = refl
  onward-same k j t before (At p) is = before p (falls t p is)

  onward-first : (k t : ℕ) → t ≤ 0 → (o : Place) → next t ≡ o → onward (route_within next k) o ≡ o ∷ []
  onward-first k t first (Fan x) is = refl
  onward-first k t first (At p) is = let less = falls t p is in absurd (omega arith)

  -- enough steps are enough
  route_within-enough : (k j t : ℕ) → t ≤ k → t ≤ j → route_within next k t ≡ route_within next j t
  route_within-enough zero zero t one other = refl
  route_within-enough zero (suc j) t one other = ap (λ rest. At t ∷ rest) (sym (onward-first j t one (next t) refl))
  route_within-enough (suc k) zero t one other = ap (λ rest. At t ∷ rest) (onward-first k t other (next t) refl)
  route_within-enough (suc k) (suc j) t one other =
      ap (λ rest. At t ∷ rest)
      (onward-same k j t (λ p less. route_within-enough k j p (omega arith) (omega arith)) (next t) refl)

  pub route-fan : (t : ℕ) (x : Side) → next t ≡ Fan x → route next t ≡ At t ∷ Fan x ∷ []
  unfolding route
  route-fan zero x is = ap (λ o. At zero ∷ o ∷ []) is
  route-fan (suc t) x is = ap (λ o. At (suc t) ∷ onward (route_within next t) o) is

  pub route-at : (t p : ℕ) → next t ≡ At p → route next t ≡ At t ∷ route next p
  unfolding route
  route-at zero p is = let less = falls zero p is in absurd (omega arith)
  route-at (suc t) p is =
      let less = falls (suc t) p is in
      ap (λ o. At (suc t) ∷ onward (route_within next t) o) is
      ∙ ap (λ rest. At (suc t) ∷ rest) (route_within-enough t p p (omega arith) (omega arith))

  -- what holds of each section at the fan, and goes over from the next section, holds of all: for sections below k
  climb_below : (P : ℕ → Type 0) → ((t : ℕ) (x : Side) → next t ≡ Fan x → P t)
      → ((t p : ℕ) → next t ≡ At p → P p → P t) → (k t : ℕ) → t < k → P t
  climb_below P root more zero t less = absurd (omega arith)
  climb_below P root more (suc k) t less =
      elim (next t) as (λ o. next t ≡ o → P t) [
        | Fan x ↦ λ is. root t x is
        | At p ↦ λ is. more t p is (climb_below P root more k p (let before = falls t p is in omega arith))
      ] refl

  -- and for every section
  pub climb : (P : ℕ → Type 0) → ((t : ℕ) (x : Side) → next t ≡ Fan x → P t)
      → ((t p : ℕ) → next t ≡ At p → P p → P t) → (t : ℕ) → P t
  climb P root more t = climb_below P root more (suc t) t (omega arith)
