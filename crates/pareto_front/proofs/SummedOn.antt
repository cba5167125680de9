-- The next point of a sum of two fronts: where both have points left, and where one is at its end.
use Rattle.std.proofs.Common.{◌≡◌, ℕ, ◌+◌, ◌-◌, ◌<◌, ◌≤◌, List, [], ◌∷◌, ◌++◌, length, get_or, Some, None, sym, ap, ◌∙◌, arith, inl, inr, min}
use Rattle.std.proofs.lemmas.Option.{none-some}
use Rattle.pareto_front.specs.declared.point.Point.{Point}
use Rattle.duct_units.specs.Prices.{lesser}
use Rattle.pareto_front.specs.Front.{IsFront}
use Rattle.pareto_front.specs.Sweep.{IsReadTo, next_need}
use Rattle.pareto_front.proofs.Even.{IsEven-reaches, Reaches}
use Rattle.pareto_front.proofs.ReadOn.{read_not_on}
use Rattle.pareto_front.proofs.Summed.{IsSummed, IsSummed-push, last_sum, next_here, next_none, no_point, read_of}

-- where both have a point left
pub next_of_both : (a b : List Point) (i j need : ℕ) → i < length a → j < length b → need ≡ min (get_or a i no_point).need (get_or b j no_point).need
    → lesser (next_need a i) (next_need b j) ≡ Some need
next_of_both a b i j need in_a in_b is =
    ap (λ o. lesser o (next_need b j)) (next_here a i no_point in_a)
    ∙ ap (lesser (Some (get_or a i no_point).need)) (next_here b j no_point in_b)
    ∙ ap Some (sym is)

-- where one has, and the other is at its end
pub next_of_left : (a b : List Point) (i j : ℕ) → i < length a → length b ≤ j → lesser (next_need a i) (next_need b j) ≡ Some (get_or a i no_point).need
next_of_left a b i j in_a past_b =
    ap (λ o. lesser o (next_need b j)) (next_here a i no_point in_a) ∙ ap (lesser (Some (get_or a i no_point).need)) (next_none b j past_b)

pub next_of_right : (a b : List Point) (i j : ℕ) → length a ≤ i → j < length b → lesser (next_need a i) (next_need b j) ≡ Some (get_or b j no_point).need
next_of_right a b i j past_a in_b =
    ap (λ o. lesser o (next_need b j)) (next_none a i past_a) ∙ ap (lesser None) (next_here b j no_point in_b)

-- a front at its end is read past any later need
pub read_at_end : (ps : List Point) (need i : ℕ) → IsFront ps → length ps ≤ i → IsReadTo need ps i → IsReadTo (need + 1) ps i
read_at_end ps need i front past before = read_not_on ps need i front before (λ here. none-some need (sym (next_none ps i past) ∙ here))

module _ (a b made : List Point) (i j : ℕ) (summed : IsSummed a b i j made) where
  pub reach_both : (need : ℕ) → i < length a → j < length b → need ≡ min (get_or a i no_point).need (get_or b j no_point).need → Reaches (read_of a b i j) need
  reach_both need in_a in_b is = IsEven-reaches (read_of a b i j) need summed.even (next_of_both a b i j need in_a in_b is)

  pub reach_left : i < length a → length b ≤ j → Reaches (read_of a b i j) (get_or a i no_point).need
  reach_left in_a past_b = IsEven-reaches (read_of a b i j) (get_or a i no_point).need summed.even (next_of_left a b i j in_a past_b)

  pub reach_right : length a ≤ i → j < length b → Reaches (read_of a b i j) (get_or b j no_point).need
  reach_right past_a in_b = IsEven-reaches (read_of a b i j) (get_or b j no_point).need summed.even (next_of_right a b i j past_a in_b)

  -- the one that is at its end stays read past the next need of the other
  pub right_at_end : i < length a → length b ≤ j → IsReadTo ((get_or a i no_point).need + 1) b j
  right_at_end in_a past_b = read_at_end b (get_or a i no_point).need j summed.even.right_front past_b (reach_left in_a past_b).right

  pub left_at_end : length a ≤ i → j < length b → IsReadTo ((get_or b j no_point).need + 1) a i
  left_at_end past_a in_b = read_at_end a (get_or b j no_point).need i summed.even.left_front past_a (reach_right past_a in_b).left

  pub push_both : (need i' j' cost : ℕ) → i < length a → j < length b → need ≡ min (get_or a i no_point).need (get_or b j no_point).need
      → IsReadTo (need + 1) a i' → IsReadTo (need + 1) b j' → i ≤ i' → j ≤ j' → i' ≤ length a → j' ≤ length b
      → last_sum a b i' j' ≡ Some cost → IsSummed a b i' j' (made ++ record { need = need; cost = cost } ∷ [])
  push_both need i' j' cost in_a in_b is = IsSummed-push a b made i j i' j' need cost summed (next_of_both a b i j need in_a in_b is)

  pub push_left : (i' cost : ℕ) → i < length a → length b ≤ j → IsReadTo ((get_or a i no_point).need + 1) a i' → i ≤ i' → i' ≤ length a
      → last_sum a b i' j ≡ Some cost → IsSummed a b i' j (made ++ record { need = (get_or a i no_point).need; cost = cost } ∷ [])
  push_left i' cost in_a past_b left on within is =
      IsSummed-push a b made i j i' j (get_or a i no_point).need cost summed (next_of_left a b i j in_a past_b)
      left (right_at_end in_a past_b) on (omega arith) within summed.in_right is

  pub push_right : (j' cost : ℕ) → length a ≤ i → j < length b → IsReadTo ((get_or b j no_point).need + 1) b j' → j ≤ j' → j' ≤ length b
      → last_sum a b i j' ≡ Some cost → IsSummed a b i j' (made ++ record { need = (get_or b j no_point).need; cost = cost } ∷ [])
  push_right j' cost past_a in_b right on within is =
      IsSummed-push a b made i j i j' (get_or b j no_point).need cost summed (next_of_right a b i j past_a in_b)
      (left_at_end past_a in_b) right (omega arith) on summed.in_left within is

-- where each of two is read on that has the next need, fewer points are left
pub fewer_left : (a b : List Point) (i j i' j' need : ℕ) → Reaches (read_of a b i j) need
    → (next_need a i ≡ Some need → i < i') → (next_need b j ≡ Some need → j < j') → i ≤ i' → j ≤ j' → i' ≤ length a → j' ≤ length b
    → (length a - i') + (length b - j') < (length a - i) + (length b - j)
fewer_left a b i j i' j' need reached left right on_left on_right in_left in_right = elim reached.one [
  | inl of_left ↦ (let more = left of_left in omega arith)
  | inr of_right ↦ (let more = right of_right in omega arith)
]
