-- The last point of a list within a budget, and what it says of the prices.
use Rattle.std.proofs.Common.{◌≡◌, ℕ, zero, suc, ◌-◌, ◌<◌, ◌≤◌, List, [], ◌∷◌, ◌++◌, length, take, drop, Bool, true, false, Option, Some, None, refl, ap, sym, ◌∙◌, subst, arith}
use Rattle.std.specs.Prelude.{All, nat_le, if◌then◌else◌, slice_get}
use Rattle.std.specs.Option.{option_or}
use Rattle.std.proofs.lemmas.Bool.{leb-true}
use Rattle.std.proofs.lemmas.Bool.Decides.{nat_tests}
use Rattle.std.proofs.lemmas.List.{take-append-drop}
use Rattle.std.proofs.lemmas.List.Elements.{All-head, All-tail}
use Rattle.std.proofs.lemmas.Option.{none-some, same_Some, slice_get_within, get_or_from_slice_get}
use Rattle.pareto_front.specs.declared.point.Point.{Point}
use Rattle.pareto_front.specs.Front.{IsFront, cheapest, price_of}
use Rattle.pareto_front.specs.Sweep.{cost_of}
use Rattle.pareto_front.proofs.Points.{IsPriced, front_priced}
use Rattle.fan_choice.specs.OwnFans.{if_within, last_within}

-- the cheapest is the cost of the last point
pub cheapest-is : (ps : List Point) (budget : ℕ) → cheapest ps budget ≡ cost_of (last_within ps budget)
cheapest-is [] budget = refl
cheapest-is (p ∷ ps) budget =
    ap (λ o. option_or o (price_of p budget)) (cheapest-is ps budget)
    ∙ joined (last_within ps budget) (nat_le p.need budget) where
      joined : (o : Option Point) (b : Bool)
          → option_or (cost_of o) (if b then Some p.cost else None) ≡ cost_of
          (option_or o (if b then Some p else None))
      joined None true = refl
      joined None false = refl
      joined (Some q) b = refl

-- the point stands at a place, and its need is within the budget
pub record IsLast (ps : List Point) (budget : ℕ) (point : Point) : Type 0 where
  pub place : ℕ
  pub there : slice_get ps place ≡ Some point
  pub within : point.need ≤ budget

pub last_within-some : (ps : List Point) (budget : ℕ) (point : Point) → last_within ps budget ≡ Some point
    → IsLast ps budget point
last_within-some [] budget point is = absurd (none-some point is)
last_within-some (p ∷ ps) budget point is =
    go (last_within ps budget) (last_within-some ps budget point) is where
      first : (b : Bool) → nat_le p.need budget ≡ b → (if b then Some p else None) ≡ Some point
          → IsLast (p ∷ ps) budget point
      first true test here =
          subst (IsLast (p ∷ ps) budget) (same_Some p point here)
          (record { place = zero; there = refl; within = leb-true p.need budget test })
      first false test here = absurd (none-some point here)

      go : (o : Option Point) → (o ≡ Some point → IsLast ps budget point)
          → option_or o (if_within p budget) ≡ Some point
          → IsLast (p ∷ ps) budget point
      go None later here = first (nat_le p.need budget) refl here
      go (Some q) later here =
          let last = later here in
          record { place = suc last.place; there = last.there; within = last.within }

-- a price comes from the last point, which has it
pub record IsBought (ps : List Point) (budget cost : ℕ) : Type 0 where
  pub point : Point
  pub last : IsLast ps budget point
  pub is : point.cost ≡ cost

pub bought : (ps : List Point) (budget cost : ℕ) → cheapest ps budget ≡ Some cost → IsBought ps budget cost
bought ps budget cost is = go (last_within ps budget) refl (sym (cheapest-is ps budget) ∙ is) where
  go : (o : Option Point) → last_within ps budget ≡ o → cost_of o ≡ Some cost → IsBought ps budget cost
  go None none here = absurd (none-some cost here)
  go (Some point) some here =
      record { point = point; last = last_within-some ps budget point some; is = same_Some point.cost cost here }

-- a point of a front is the price at its need, and no less budget has as low a price
pub priced : (ps : List Point) (k : ℕ) (p : Point) → IsFront ps → slice_get ps k ≡ Some p → IsPriced ps p
priced ps k p front there =
    subst (IsPriced ps) (get_or_from_slice_get ps k p p there)
    (front_priced ps front k p (slice_get_within ps k p there))

option_or-none : (o : Option Point) → option_or o None ≡ o
option_or-none None = refl
option_or-none (Some p) = refl

if_within-above : (p : Point) (budget : ℕ) → budget < p.need → if_within p budget ≡ None
if_within-above p budget above = grind (arith, nat_tests)

-- points beyond the budget at the end change nothing
last_within-above : (ps : List Point) (budget : ℕ) → All (λ p. budget < p.need) ps → last_within ps budget ≡ None
last_within-above [] budget above = refl
last_within-above (p ∷ ps) budget above =
    ap (λ o. option_or o (if_within p budget))
    (last_within-above ps budget (All-tail (λ q. budget < q.need) p ps above))
    ∙ if_within-above p budget (All-head (λ q. budget < q.need) p ps above)

last_within-append : (ps qs : List Point) (budget : ℕ) → All (λ p. budget < p.need) qs
    → last_within (ps ++ qs) budget ≡ last_within ps budget
last_within-append [] qs budget above = last_within-above qs budget above
last_within-append (p ∷ ps) qs budget above = ap (λ o. option_or o (if_within p budget))
    (last_within-append ps qs budget above)

pub last_within-part : (ps part : List Point) (budget : ℕ) → part ≡ take (length part) ps
    → All (λ p. budget < p.need) (drop (length part) ps) → last_within part budget ≡ last_within ps budget
last_within-part ps part budget is above =
    ap (λ qs. last_within qs budget) is
    ∙ sym (last_within-append (take (length part) ps) (drop (length part) ps) budget above)
    ∙ ap (λ qs. last_within qs budget) (take-append-drop (length part) ps)

if_within-within : (p : Point) (budget : ℕ) → p.need ≤ budget → if_within p budget ≡ Some p
if_within-within p budget within = grind (arith, nat_tests)

-- where all points are within the budget it is the last of them
pub last_within-all : (ps : List Point) (budget : ℕ) → All (λ p. p.need ≤ budget) ps
    → last_within ps budget ≡ slice_get ps (length ps - 1)
last_within-all [] budget within = refl
last_within-all (p ∷ []) budget within = if_within-within p budget (All-head (λ q. q.need ≤ budget) p [] within)
last_within-all (p ∷ q ∷ ps) budget within =
    let rest = All-tail (λ r. r.need ≤ budget) p (q ∷ ps) within in
    let place : suc (suc (length ps)) - 1 ≡ suc (suc (length ps) - 1) = omega arith in
    decides (last_within ps budget) (if_within-within q budget (All-head (λ r. r.need ≤ budget) q ps rest))
    ∙ last_within-all (q ∷ ps) budget rest
    ∙ sym (ap (slice_get (p ∷ q ∷ ps)) place) where
      decides : (o : Option Point) → if_within q budget ≡ Some q
          → option_or (option_or o (if_within q budget)) (if_within p budget) ≡ option_or o (if_within q budget)
      decides None here = ap (λ x. option_or x (if_within p budget)) here ∙ sym here
      decides (Some r) here = refl
