-- The least cost of points within a budget: of one more point, and of the same points in another order.
use Rattle.std.proofs.Common.{◌≡◌, ℕ, ◌+◌, ◌-◌, ◌<◌, ◌≤◌, min, map, refl, ap, sym, ◌∙◌, arith, subst, List, [], ◌∷◌, ◌++◌, Option, Some, None, length, take, get_or}
use Rattle.std.specs.Prelude.{All}
use Rattle.std.specs.List.Sorted.{IsPermutation}
use Rattle.std.proofs.lemmas.List.{take_more}
use Rattle.std.proofs.lemmas.List.Elements.{All-nil, All-cons, All-head, All-tail, All-weaker}
use Rattle.std.proofs.lemmas.List.Sorted.{All-permutation, IsPermutation-sym}
use Rattle.std.proofs.lemmas.Option.{none-some}
use Rattle.pareto_front.specs.declared.point.Point.{Point}
use Rattle.std.specs.Option.{option_or}
use Rattle.pareto_front.specs.Front.{IsFront, CostsNoMore, cheapest, price_of, moved_by, shifted}
use Rattle.pareto_front.proofs.Costs.{costs_no_more_on, same_cost, lesser-left, lesser-right, lesser_falls}
use Rattle.duct_units.specs.Prices.{lesser}
use Rattle.duct_units.proofs.PriceLaws.{lesser-none, lesser-same, lesser-assoc}
use Rattle.pareto_front.specs.LaidPoints.{least_among}
use Rattle.pareto_front.proofs.Falls.{cheapest-All, price_of-Some}
use Rattle.pareto_front.proofs.Order.{later_less}
use Rattle.pareto_front.proofs.Shifts.{IsFront-moved, cheapest-moved_part}

pub least_among-append : (xs ys : List Point) (budget : ℕ)
    → least_among (xs ++ ys) budget ≡ lesser (least_among xs budget) (least_among ys budget)
least_among-append [] ys budget = refl
least_among-append (x ∷ xs) ys budget =
    ap (lesser (price_of x budget)) (least_among-append xs ys budget)
    ∙ sym (lesser-assoc (price_of x budget) (least_among xs budget) (least_among ys budget))

pub least_among-push : (xs : List Point) (x : Point) (budget : ℕ)
    → least_among (xs ++ x ∷ []) budget ≡ lesser (least_among xs budget) (price_of x budget)
least_among-push xs x budget =
    least_among-append xs (x ∷ []) budget ∙ ap (lesser (least_among xs budget)) (lesser-none (price_of x budget))

pub least_among-more : (xs : List Point) (i : ℕ) (d : Point) (budget : ℕ) → i < length xs
    → least_among (take (i + 1) xs) budget ≡ lesser (least_among (take i xs) budget) (price_of (get_or xs i d) budget)
least_among-more xs i d budget within =
    ap (λ l. least_among l budget) (take_more xs i d within) ∙ least_among-push (take i xs) (get_or xs i d) budget

pub least_among-none : (xs : List Point) (budget : ℕ) → least_among (take 0 xs) budget ≡ None
least_among-none [] budget = refl
least_among-none (x ∷ xs) budget = refl

-- the least is no more expensive than each
costs_no_more_than_each : (xs : List Point) (budget : ℕ) → All (λ p. CostsNoMore (least_among xs budget) (price_of p budget)) xs
costs_no_more_than_each [] budget = All-nil (λ p. CostsNoMore (least_among [] budget) (price_of p budget))
costs_no_more_than_each (x ∷ xs) budget =
    let first = price_of x budget in
    let rest = least_among xs budget in
    All-cons (λ p. CostsNoMore (lesser (price_of x budget) (least_among xs budget)) (price_of p budget)) x xs
    (lesser-left (price_of x budget) (least_among xs budget))
    (All-weaker (λ p. CostsNoMore (least_among xs budget) (price_of p budget))
    (λ p. CostsNoMore (lesser (price_of x budget) (least_among xs budget)) (price_of p budget))
    (λ p low. costs_no_more_on (lesser (price_of x budget) (least_among xs budget)) (least_among xs budget) (price_of p budget)
    (lesser-right (price_of x budget) (least_among xs budget)) low)
    xs (costs_no_more_than_each xs budget))

-- what is no more expensive than each is no more expensive than the least
costs_no_more_than_least : (xs : List Point) (o : Option ℕ) (budget : ℕ) → All (λ p. CostsNoMore o (price_of p budget)) xs
    → CostsNoMore o (least_among xs budget)
costs_no_more_than_least [] o budget all = λ cost is. absurd (none-some cost is)
costs_no_more_than_least (x ∷ xs) o budget all =
    subst (λ q. CostsNoMore q (lesser (price_of x budget) (least_among xs budget))) (lesser-same o)
    (lesser_falls o o (price_of x budget) (least_among xs budget)
    (All-head (λ p. CostsNoMore o (price_of p budget)) x xs all)
    (costs_no_more_than_least xs o budget (All-tail (λ p. CostsNoMore o (price_of p budget)) x xs all)))

-- the order of the points doesn't matter
pub least_among-permuted : (xs ys : List Point) (budget : ℕ) → IsPermutation xs ys → least_among ys budget ≡ least_among xs budget
least_among-permuted xs ys budget moved =
    same_cost (least_among ys budget) (least_among xs budget)
    (costs_no_more_than_least xs (least_among ys budget) budget
    (All-permutation (λ p. CostsNoMore (least_among ys budget) (price_of p budget)) ys xs (IsPermutation-sym xs ys moved)
    (costs_no_more_than_each ys budget)))
    (costs_no_more_than_least ys (least_among xs budget) budget
    (All-permutation (λ p. CostsNoMore (least_among xs budget) (price_of p budget)) xs ys moved (costs_no_more_than_each xs budget)))

-- a later point is the lesser of two costs
pub later_is_lesser : (x y : Option ℕ) → ((c d : ℕ) → x ≡ Some c → y ≡ Some d → d < c) → option_or y x ≡ lesser x y
later_is_lesser None None falls = refl
later_is_lesser None (Some d) falls = refl
later_is_lesser (Some c) None falls = refl
later_is_lesser (Some c) (Some d) falls =
    let less = falls c d refl refl in
    ap Some (let same : d ≡ min c d = omega arith in same)

-- of a front the last point within the budget is the least
pub least_among-front : (front : List Point) (budget : ℕ) → IsFront front → least_among front budget ≡ cheapest front budget
least_among-front [] budget is_front = refl
least_among-front (p ∷ ps) budget is_front =
    ap (lesser (price_of p budget)) (least_among-front ps budget is_front.1)
    ∙ sym (later_is_lesser (price_of p budget) (cheapest ps budget) (λ c d early late.
    let less = cheapest-All (λ cost. cost < p.cost) ps budget (later_less p ps is_front) d late in
    let same = (price_of-Some p budget c early).1 in
    omega arith))

-- what is laid of a front that is moved, up to the cap
pub least_among-shifted : (loss price : ℕ) (ps part : List Point) (cap room : ℕ) → loss ≤ cap → room ≡ cap - loss → IsFront part
    → ((b : ℕ) → b ≤ room → cheapest part b ≡ cheapest ps b)
    → (b : ℕ) → b ≤ cap → least_among (map (moved_by loss price) part) b ≡ shifted ps loss price b
least_among-shifted loss price ps part cap room enough is front prices b within =
    least_among-front (map (moved_by loss price) part) b (IsFront-moved loss price part front)
    ∙ cheapest-moved_part loss price ps part cap room enough is prices b within
