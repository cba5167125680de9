-- The order of designs is strict, so the best design is one.
use Rattle.std.proofs.Common.{◌≡◌, ℕ, inl, inr, List, [], ◌∷◌, Option, Some, None, refl, ap, sym, arith}
use Rattle.duct_definitions.specs.declared.design.Design.{Design}
use Rattle.duct_definitions.specs.Network.{Network}
use Rattle.duct_definitions.specs.Order.{Earlier, LessOr, turn_of, Before, IsBest}

-- of two lists only one is earlier
pub earlier_once : (xs ys : List ℕ) → Earlier xs ys → Earlier ys xs → ⊥
earlier_once [] ys before after = before
earlier_once (x ∷ xs) [] before after = before
earlier_once (x ∷ xs) (y ∷ ys) (inl less) (inl more) = omega arith
earlier_once (x ∷ xs) (y ∷ ys) (inl less) (inr same) = let e = same.0 in omega arith
earlier_once (x ∷ xs) (y ∷ ys) (inr same) (inl more) = let e = same.0 in omega arith
earlier_once (x ∷ xs) (y ∷ ys) (inr same) (inr again) = earlier_once xs ys same.1 again.1

-- the same of a number, where it holds of what follows
pub less_or_once : (m n : ℕ) (Then Back : Type 0) → (Then → Back → ⊥) → LessOr m n Then → LessOr n m Back → ⊥
less_or_once m n Then Back once (inl less) (inl more) = omega arith
less_or_once m n Then Back once (inl less) (inr same) = let e = same.0 in omega arith
less_or_once m n Then Back once (inr same) (inl more) = let e = same.0 in omega arith
less_or_once m n Then Back once (inr same) (inr again) = once same.1 again.1

-- of two designs only one comes before the other
pub before_once : (net : Network) (d e : Design) → Before net d e → Before net e d → ⊥
before_once net d e =
    less_or_once _ _ _ _ (less_or_once _ _ _ _ (less_or_once _ _ _ _ (less_or_once _ _ _ _
    (earlier_once d.sizes e.sizes))))

pub best_is_one : (net : Network) (d e : Design) → IsBest net d → IsBest net e → d ≡ e
best_is_one net d e best other =
    elim (best.first e other.meets) [
      | inl same ↦ sym same
      | inr before ↦ elim (other.first d best.meets) [
        | inl same ↦ same
        | inr after ↦ absurd (before_once net d e before after)
      ]
    ]

-- two return fans, or none, that have one turn are the same
pub turn_of-inj : (o p : Option ℕ) → turn_of o ≡ turn_of p → o ≡ p
turn_of-inj None None same = refl
turn_of-inj None (Some j) same = absurd (omega arith)
turn_of-inj (Some i) None same = absurd (omega arith)
turn_of-inj (Some i) (Some j) same = let e : i ≡ j = omega arith in ap Some e
