-- Two fronts that are read to one need, and the points that they cost together so far.
use Rattle.std.proofs.Common.{◌≡◌, ℕ, ◌+◌, ◌-◌, ◌<◌, ◌≤◌, ◌^◌, List, [], ◌∷◌, ◌++◌, take, length, get_or, get_or-take, Option, Some, None, refl, sym, ap, ◌∙◌, arith}
use Rattle.std.specs.Prelude.{slice_get}
use Rattle.std.specs.Option.{ForSome, option_map}
use Rattle.std.proofs.lemmas.List.{length-take, length-take-le}
use Rattle.std.proofs.lemmas.Option.{slice_get-get_or, slice_get_past}
use Rattle.pareto_front.specs.declared.point.Point.{Point}
use Rattle.pareto_front.specs.declared.sweep.Step.{Step}
use Rattle.duct_units.specs.Prices.{lesser, both_of}
use Rattle.pareto_front.specs.Front.{cheapest}
use Rattle.pareto_front.specs.Sweep.{IsEven, IsReadTo, Progress, Steps, cost_of, last_cost, next_need}
use Rattle.pareto_front.proofs.Costs.{sum_falls}
use Rattle.pareto_front.proofs.Even.{IsEven-reaches}
use Rattle.pareto_front.proofs.ReadOn.{cost_read}
use Rattle.pareto_front.proofs.Swept.{Swept, Swept-push, left_part, right_part, left_falls, right_falls, one_falls}

-- two fronts of which the first points are read
abbrev pub read_of : List Point → List Point → ℕ → ℕ → Progress
read_of a b i j = record { left = a; right = b; left_read = i; right_read = j }

-- what the last points that are read of both cost together
abbrev pub last_sum : List Point → List Point → ℕ → ℕ → Option ℕ
last_sum a b i j = both_of (last_cost (take i a)) (last_cost (take j b))

-- the point that is read where none is
abbrev pub no_point : Point
no_point = record { need = 0; cost = 0 }

-- the last point of those that are read, by its place
pub last_read : (ps : List Point) (i : ℕ) (d : Point) → 0 < i → i ≤ length ps → last_cost (take i ps) ≡ Some (get_or ps (i - 1) d).cost
last_read ps i d some within =
    ap (λ n. cost_of (slice_get (take i ps) (n - 1))) (length-take-le i ps within)
    ∙ ap cost_of (slice_get-get_or (take i ps) (i - 1) d (omega (arith, length-take-le i ps within)))
    ∙ ap (λ (p : Point). Some p.cost) (get_or-take i ps (i - 1) d (omega arith))

-- the next point by its place, and none past the end
pub next_here : (ps : List Point) (i : ℕ) (d : Point) → i < length ps → next_need ps i ≡ Some (get_or ps i d).need
next_here ps i d within = ap (option_map (λ (p : Point). p.need)) (slice_get-get_or ps i d within)

pub next_none : (ps : List Point) (i : ℕ) → length ps ≤ i → next_need ps i ≡ None
next_none ps i past = ap (option_map (λ (p : Point). p.need)) (slice_get_past ps i past)

-- some points of both are read, and what is made has the sum of their costs
pub record IsSummed (a b : List Point) (i j : ℕ) (made : List Point) : Type 0 where
  pub even : IsEven (read_of a b i j)
  pub swept : Swept both_of a b (read_of a b i j) made
  pub some_left : 0 < i
  pub some_right : 0 < j
  pub in_left : i ≤ length a
  pub in_right : j ≤ length b

-- the last costs at a need are what both cost together there
pub last_sum-at : (a b : List Point) (need i j : ℕ) → IsReadTo (need + 1) a i → IsReadTo (need + 1) b j
    → last_sum a b i j ≡ both_of (cheapest a need) (cheapest b need)
last_sum-at a b need i j left right =
    ap (λ o. both_of o (last_cost (take j b))) (cost_read a need i left) ∙ ap (both_of (cheapest a need)) (cost_read b need j right)

-- one more point, at the lesser of the next needs
pub IsSummed-push : (a b made : List Point) (i j i' j' need cost : ℕ) → IsSummed a b i j made
    → lesser (next_need a i) (next_need b j) ≡ Some need → IsReadTo (need + 1) a i' → IsReadTo (need + 1) b j' → i ≤ i' → j ≤ j' → i' ≤ length a → j' ≤ length b
    → last_sum a b i' j' ≡ Some cost → IsSummed a b i' j' (made ++ record { need = need; cost = cost } ∷ [])
IsSummed-push a b made i j i' j' need cost summed next left right on_left on_right in_left in_right is =
    let old = read_of a b i j in
    let reached = IsEven-reaches old need summed.even next in
    let step : Step = record { need = need; left = slice_get (take i' a) (length (take i' a) - 1); right = slice_get (take j' b) (length (take j' b) - 1) } in
    let on : Steps old (read_of a b i' j') step = record {
      left_front = summed.even.left_front;
      right_front = summed.even.right_front;
      same_left = refl;
      same_right = refl;
      reached = reached.one;
      left_before = reached.left;
      right_before = reached.right;
      left_after = left;
      right_after = right;
      left_price = cost_read a need i' left;
      right_price = cost_read b need j' right;
    } in
    record {
      even = record { need = need + 1; left_front = summed.even.left_front; right_front = summed.even.right_front; left = left; right = right };
      swept = Swept-push summed.swept on (record { need = need; cost = cost }) refl is (λ was before.
          sum_falls (cost_of step.left) (cost_of step.right) (cheapest (left_part old) need) (cheapest (right_part old) need) cost was
          (left_falls summed.swept on need (omega arith)) (right_falls summed.swept on need (omega arith)) (one_falls summed.swept on need (omega arith))
          is (sym (summed.swept.prices need) ∙ before));
      some_left = (let some = summed.some_left in omega arith);
      some_right = (let some = summed.some_right in omega arith);
      in_left = in_left;
      in_right = in_right;
    }

-- the last costs fit wherever what both cost together does
pub last_sum-fits : (a b : List Point) → ((budget : ℕ) → ForSome (both_of (cheapest a budget) (cheapest b budget)) (λ cost. cost < 2 ^ 64))
    → (need i j : ℕ) → IsReadTo (need + 1) a i → IsReadTo (need + 1) b j → ForSome (last_sum a b i j) (λ cost. cost < 2 ^ 64)
last_sum-fits a b fits need i j left right cost is = fits need cost (sym (last_sum-at a b need i j left right) ∙ is)

-- a part from the front is no longer than the whole
pub part_within : (part ps : List Point) → part ≡ take (length part) ps → length part ≤ length ps
part_within part ps is = let same : length part ≡ length (take (length part) ps) = ap length is in omega (arith, length-take (length part) ps)
