-- The first point of a sum of two fronts, at the greater of their first needs.
use Rattle.std.proofs.Common.{◌≡◌, ℕ, zero, suc, ◌+◌, ◌<◌, ◌≤◌, List, [], ◌∷◌, take, drop, length, Option, Some, None, refl, sym, ap, ◌∙◌, arith, inl, inr, max}
use Rattle.std.specs.Prelude.{slice_get}
use Rattle.std.proofs.lemmas.Bool.{cases_lt}
use Rattle.std.proofs.lemmas.List.Elements.{All-head, All-nil, All-cons}
use Rattle.pareto_front.specs.declared.point.Point.{Point}
use Rattle.duct_units.specs.Prices.{both_of}
use Rattle.pareto_front.specs.Front.{IsFront, cheapest}
use Rattle.pareto_front.specs.Sweep.{IsReadTo, IsReached, NeedsBelow, last_cost}
use Rattle.pareto_front.proofs.Even.{next_need-from}
use Rattle.pareto_front.proofs.Needs.{above_from, within_from_below}
use Rattle.pareto_front.proofs.Order.{IsFront-above}
use Rattle.pareto_front.proofs.Prices.{cheapest-above, cheapest-last, cheapest-take, price_of-above, price_of-within}
use Rattle.pareto_front.proofs.Summed.{IsSummed, last_sum, read_of}

-- a front whose first point is within the need has a point that is read
some_read : (p : Point) (ps : List Point) (need i : ℕ) → p.need ≤ need → IsReadTo (need + 1) (p ∷ ps) i → 0 < i
some_read p ps need zero within read = let first = All-head (λ q. need + 1 ≤ q.need) p ps read.rest in absurd (omega arith)
some_read p ps need (suc i) within read = omega arith

-- what is read has no price below its first need, and the last cost from where all that is read is within the budget
below_first : (p : Point) (ps : List Point) (need i b : ℕ) → IsFront (p ∷ ps) → IsReadTo (need + 1) (p ∷ ps) i → b < p.need → b ≤ need
    → cheapest (take i (p ∷ ps)) b ≡ None
below_first p ps need i b front read below within =
    cheapest-take (p ∷ ps) i b (above_from (need + 1) b (drop i (p ∷ ps)) (omega arith) read.rest)
    ∙ cheapest-above (p ∷ ps) b (IsFront-above (p ∷ ps) b front below)

from_last : (ps : List Point) (need i b : ℕ) → IsReadTo (need + 1) ps i → need ≤ b → cheapest (take i ps) b ≡ last_cost (take i ps)
from_last ps need i b read over = cheapest-last (take i ps) b (within_from_below (need + 1) b (take i ps) (omega arith) read.read)

pub both_of-none : (o : Option ℕ) → both_of o None ≡ None
both_of-none None = refl
both_of-none (Some c) = refl

module _ (p q : Point) (ps qs : List Point) (need i j cost : ℕ) (left_front : IsFront (p ∷ ps)) (right_front : IsFront (q ∷ qs))
    (greater : need ≡ max p.need q.need) (left : IsReadTo (need + 1) (p ∷ ps) i) (right : IsReadTo (need + 1) (q ∷ qs) j)
    (in_left : i ≤ length (p ∷ ps)) (in_right : j ≤ length (q ∷ qs)) (is : last_sum (p ∷ ps) (q ∷ qs) i j ≡ Some cost) where
  abbrev pub first : Point
  first = record { need = need; cost = cost }

  price : (budget : ℕ) → cheapest (first ∷ []) budget ≡ both_of (cheapest (take i (p ∷ ps)) budget) (cheapest (take j (q ∷ qs)) budget)
  price budget = elim (cases_lt budget need) [
    | inl under ↦ price_of-above first budget under ∙ sym (elim (cases_lt budget p.need) [
      | inl below ↦ ap (λ o. both_of o (cheapest (take j (q ∷ qs)) budget)) (below_first p ps need i budget left_front left below (omega arith))
      | inr over ↦
          (let below : budget < q.need = omega arith in
          ap (both_of (cheapest (take i (p ∷ ps)) budget)) (below_first q qs need j budget right_front right below (omega arith))
          ∙ both_of-none (cheapest (take i (p ∷ ps)) budget))
    ])
    | inr over ↦
        price_of-within first budget over
        ∙ sym (
        ap (λ o. both_of o (cheapest (take j (q ∷ qs)) budget)) (from_last (p ∷ ps) need i budget left over)
        ∙ ap (both_of (last_cost (take i (p ∷ ps)))) (from_last (q ∷ qs) need j budget right over)
        ∙ is)
  ]

  later : (n : ℕ) → IsReached n (read_of (p ∷ ps) (q ∷ qs) i j) → NeedsBelow n (first ∷ [])
  later n reached = elim reached [
    | inl of_left ↦
        (let above : need + 1 ≤ n = next_need-from (p ∷ ps) (need + 1) i left n of_left in
        All-cons (λ r. r.need < n) first [] (omega arith) (All-nil (λ r. r.need < n)))
    | inr of_right ↦
        (let above : need + 1 ≤ n = next_need-from (q ∷ qs) (need + 1) j right n of_right in
        All-cons (λ r. r.need < n) first [] (omega arith) (All-nil (λ r. r.need < n)))
  ]

  -- the first point, at the greater of the first needs
  pub IsSummed-first : IsSummed (p ∷ ps) (q ∷ qs) i j (first ∷ [])
  IsSummed-first = record {
    even = record { need = need + 1; left_front = left_front; right_front = right_front; left = left; right = right };
    swept = record { left_points = refl; right_points = refl; front = (tt, tt); needs = later; prices = price };
    some_left = some_read p ps need i (omega arith) left;
    some_right = some_read q qs need j (omega arith) right;
    in_left = in_left;
    in_right = in_right;
  }

-- the same, of fronts by their first points
pub IsSummed-start : (a b : List Point) (p q : Point) (need i j cost : ℕ) → IsFront a → IsFront b → Some p ≡ slice_get a 0 → Some q ≡ slice_get b 0
    → need ≡ max p.need q.need → IsReadTo (need + 1) a i → IsReadTo (need + 1) b j → i ≤ length a → j ≤ length b
    → last_sum a b i j ≡ Some cost → IsSummed a b i j (record { need = need; cost = cost } ∷ [])
IsSummed-start [] b p q need i j cost left_front right_front p_first q_first greater left right in_left in_right is = absurd (cc)
IsSummed-start (r ∷ rs) [] p q need i j cost left_front right_front p_first q_first greater left right in_left in_right is = absurd (cc)
IsSummed-start (r ∷ rs) (s ∷ ss) p q need i j cost left_front right_front p_first q_first greater left right in_left in_right is =
    let same_p : p ≡ r = cc in
    let same_q : q ≡ s = cc in
    IsSummed-first r s rs ss need i j cost left_front right_front
    (greater ∙ ap (λ (t : Point). max t.need q.need) same_p ∙ ap (λ (t : Point). max r.need t.need) same_q)
    left right in_left in_right is
