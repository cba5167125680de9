-- The order of designs is total and transitive.
use Rattle.std.proofs.Common.{◌≡◌, ℕ, ◌⊎◌, inl, inr, List, [], ◌∷◌, length, refl, ap, ◌∙◌, sym, arith}
use Rattle.std.proofs.lemmas.Bool.{cases_order}
use Rattle.duct_units.specs.declared.side.Side.TheVariants.{Supply}
use Rattle.duct_definitions.specs.declared.design.Design.{Design}
use Rattle.duct_definitions.specs.Network.{Network}
use Rattle.duct_definitions.specs.Designs.{Fits, cost, worst}
use Rattle.duct_definitions.proofs.OrderLaws.{before_once, turn_of-inj}
use Rattle.duct_definitions.specs.Order.{Earlier, LessOr, turn_of, Before}

-- the same fans and the same sizes are the same design
pub same_design : (d e : Design) → d.fan ≡ e.fan → turn_of d.back ≡ turn_of e.back → e.sizes ≡ d.sizes → e ≡ d
same_design d e fan turn sizes =
    ap (λ i. record { fan = i; back = e.back; sizes = e.sizes }) (sym fan)
    ∙ ap (λ o. record { fan = d.fan; back = o; sizes = e.sizes }) (sym (turn_of-inj d.back e.back turn))
    ∙ ap (λ ks. record { fan = d.fan; back = d.back; sizes = ks }) sizes

-- equal numbers leave the order to what follows
LessOr-total : (m n : ℕ) (Same Then Back : Type 0) → (m ≡ n → Same ⊎ (Then ⊎ Back))
    → Same ⊎ (LessOr m n Then ⊎ LessOr n m Back)
LessOr-total m n Same Then Back next =
    elim (cases_order m n) [
      | inl equal ↦ elim (next equal) [
        | inl same ↦ inl same
        | inr apart ↦ elim apart [
          | inl first ↦ inr (inl (inr (equal, first)))
          | inr later ↦ inr (inr (inr (sym equal, later)))
        ]
      ]
      | inr apart ↦ elim apart [ inl less ↦ inr (inl (inl less)) | inr more ↦ inr (inr (inl more)) ]
    ]

Earlier-total : (xs ys : List ℕ) → length xs ≡ length ys → (ys ≡ xs) ⊎ (Earlier xs ys ⊎ Earlier ys xs)
Earlier-total [] [] same = inl refl
Earlier-total [] (y ∷ ys) same = absurd (omega arith)
Earlier-total (x ∷ xs) [] same = absurd (omega arith)
Earlier-total (x ∷ xs) (y ∷ ys) same =
    LessOr-total x y (y ∷ ys ≡ x ∷ xs) (Earlier xs ys) (Earlier ys xs) λ equal.
    elim (Earlier-total xs ys (omega arith)) [
      | inl rest ↦ inl (ap (λ z. z ∷ ys) (sym equal) ∙ ap (λ zs. x ∷ zs) rest)
      | inr apart ↦ inr apart
    ]

-- of two designs that fit one comes before the other, or they are one
pub before_total : (net : Network) (d e : Design) → Fits net d → Fits net e
    → (e ≡ d) ⊎ (Before net d e ⊎ Before net e d)
before_total net d e fit other =
    LessOr-total (cost net d) (cost net e) _ _ _ λ _.
    LessOr-total d.fan e.fan _ _ _ λ fan.
    LessOr-total (turn_of d.back) (turn_of e.back) _ _ _ λ turn.
    LessOr-total (worst net d Supply) (worst net e Supply) _ _ _ λ _.
    elim (Earlier-total d.sizes e.sizes (fit.sizes ∙ sym other.sizes)) [
      | inl sizes ↦ inl (same_design d e fan turn sizes)
      | inr apart ↦ inr apart
    ]

LessOr-then : (l m n : ℕ) (First Second Both : Type 0) → (First → Second → Both)
    → LessOr l m First → LessOr m n Second → LessOr l n Both
LessOr-then l m n First Second Both next (inl less) (inl more) = inl (omega arith)
LessOr-then l m n First Second Both next (inl less) (inr same) = let e = same.0 in inl (omega arith)
LessOr-then l m n First Second Both next (inr same) (inl more) = let e = same.0 in inl (omega arith)
LessOr-then l m n First Second Both next (inr same) (inr again) = inr (same.0 ∙ again.0, next same.1 again.1)

Earlier-then : (xs ys zs : List ℕ) → Earlier xs ys → Earlier ys zs → Earlier xs zs
Earlier-then [] ys zs first second = absurd first
Earlier-then (x ∷ xs) [] zs first second = absurd first
Earlier-then (x ∷ xs) (y ∷ ys) [] first second = absurd second
Earlier-then (x ∷ xs) (y ∷ ys) (z ∷ zs) first second = LessOr-then x y z _ _ _ (Earlier-then xs ys zs) first second

-- what comes before an earlier one comes before the later one
pub before_then : (net : Network) (d e f : Design) → Before net d e → Before net e f → Before net d f
before_then net d e f =
    LessOr-then _ _ _ _ _ _ (LessOr-then _ _ _ _ _ _ (LessOr-then _ _ _ _ _ _ (LessOr-then _ _ _ _ _ _
    (Earlier-then d.sizes e.sizes f.sizes))))

pub ruleset order = (before_total, before_then, before_once)
