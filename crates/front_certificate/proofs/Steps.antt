-- Needs of a front and sums of bounds, step by step.
use Rattle.std.proofs.Common.{◌≡◌, ℕ, zero, suc, ◌+◌, ◌<◌, ◌≤◌, arith, ap, sym, ◌∙◌, refl, Option, Some, None, List, [], ◌∷◌, length, get_or, take, drop}
use Rattle.std.specs.Prelude.{All, IfSome}
use Rattle.std.proofs.lemmas.List.{take_all}
use Rattle.std.proofs.lemmas.List.Elements.{All-nil}
use Rattle.duct_units.specs.Prices.{lesser, both_of}
use Rattle.pareto_front.specs.declared.point.Point.{Point}
use Rattle.pareto_front.specs.Front.{IsFront, cheapest}
use Rattle.pareto_front.specs.Sweep.{next_need, IsReadTo}
use Rattle.pareto_front.proofs.Needs.{NeedsAbove, above_from, within_from_below}
use Rattle.pareto_front.proofs.Order.{IsFront-above}
use Rattle.pareto_front.proofs.Prices.{cheapest-take, cheapest-past}
use Rattle.least_laws.specs.Prices.{sum_of}
use Rattle.least_laws.proofs.SumOf.{sum_of-take_get_or}

-- a budget below the next need is below all that follow
above-next : (ps : List Point) (i other : ℕ) → IsFront ps → IfSome (next_need ps i) (λ need. other < need)
    → NeedsAbove other (drop i ps)
above-next [] zero other front below = All-nil (λ p. other < p.need)
above-next [] (suc i) other front below = All-nil (λ p. other < p.need)
above-next (p ∷ ps) zero other front below = IsFront-above (p ∷ ps) other front below
above-next (p ∷ ps) (suc i) other front below = above-next ps i other front.1 below

-- from the budget up to the next need a front's price stays
pub stays : (ps : List Point) (budget i : ℕ) → IsFront ps → IsReadTo (budget + 1) ps i → (other : ℕ) → budget ≤ other
    → IfSome (next_need ps i) (λ need. other < need) → cheapest ps other ≡ cheapest ps budget
stays ps budget i front read other over below =
    let within = within_from_below (budget + 1) budget (take i ps) (omega arith) read.read in
    let within_other = within_from_below (budget + 1) other (take i ps) (omega arith) read.read in
    sym (cheapest-take ps i other (above-next ps i other front below))
    ∙ cheapest-past (take i ps) other budget within_other within
    ∙ cheapest-take ps i budget (above_from (budget + 1) budget (drop i ps) (omega arith) read.rest)

-- the next need is above the budget
pub next-above : (ps : List Point) (budget i : ℕ) → IsReadTo (budget + 1) ps i
    → IfSome (next_need ps i) (λ need. budget < need)
next-above ps budget i read = go ps i read.rest where
  go : (ps : List Point) (i : ℕ) → All (λ p. budget + 1 ≤ p.need) (drop i ps) → IfSome (next_need ps i) (λ need. budget < need)
  go [] zero rest = tt
  go [] (suc i) rest = tt
  go (p ∷ ps) zero rest = let first = rest 0 p (omega arith) in omega arith
  go (p ∷ ps) (suc i) rest = go ps i rest

-- where one price is not there, the sum is not
pub sum_of-none : (price : ℕ → Option ℕ) (xs : List ℕ) (i d : ℕ) → i < length xs → price (get_or xs i d) ≡ None
    → sum_of price xs ≡ None
sum_of-none price [] i d within none = absurd (omega arith)
sum_of-none price (x ∷ xs) zero d within none = ap (λ o. both_of o (sum_of price xs)) none
sum_of-none price (x ∷ xs) (suc i) d within none =
    ap (both_of (price x)) (sum_of-none price xs i d (omega arith) none) ∙ both_of-none (price x) where
      both_of-none : (o : Option ℕ) → both_of o None ≡ None
      both_of-none None = refl
      both_of-none (Some x) = refl

-- below the lesser of two is below both
pub below-lesser : (x y : Option ℕ) (b : ℕ) → IfSome (lesser x y) (λ need. b < need)
    → IfSome x (λ need. b < need) × IfSome y (λ need. b < need)
below-lesser None None b below = (tt, tt)
below-lesser None (Some y) b below = (tt, below)
below-lesser (Some x) None b below = (below, tt)
below-lesser (Some x) (Some y) b below = (omega arith, omega arith)

pub lesser-above : (x y : Option ℕ) (b : ℕ) → IfSome x (λ need. b < need) → IfSome y (λ need. b < need)
    → IfSome (lesser x y) (λ need. b < need)
lesser-above None None b one other = tt
lesser-above None (Some y) b one other = other
lesser-above (Some x) None b one other = one
lesser-above (Some x) (Some y) b one other = omega arith

-- one price more of a sum that is there
pub sum_of-step : (price : ℕ → Option ℕ) (xs : List ℕ) (i sum cost : ℕ) → i < length xs
    → sum_of price (take i xs) ≡ Some sum → price (get_or xs i 0) ≡ Some cost
    → sum_of price (take (i + 1) xs) ≡ Some (sum + cost)
sum_of-step price xs i sum cost within so_far next =
    sum_of-take_get_or price xs i 0 within
    ∙ ap (λ o. both_of o (price (get_or xs i 0))) so_far
    ∙ ap (both_of (Some sum)) next

-- one price more that stays
pub sum_of-same-step : (one other : ℕ → Option ℕ) (xs : List ℕ) (i : ℕ) → i < length xs
    → sum_of one (take i xs) ≡ sum_of other (take i xs) → one (get_or xs i 0) ≡ other (get_or xs i 0)
    → sum_of one (take (i + 1) xs) ≡ sum_of other (take (i + 1) xs)
sum_of-same-step one other xs i within so_far next =
    sum_of-take_get_or one xs i 0 within
    ∙ ap (λ o. both_of o (one (get_or xs i 0))) so_far
    ∙ ap (both_of (sum_of other (take i xs))) next
    ∙ sym (sum_of-take_get_or other xs i 0 within)

pub sum_of-all : (price : ℕ → Option ℕ) (xs : List ℕ) (n : ℕ) → length xs ≤ n
    → sum_of price (take n xs) ≡ sum_of price xs
sum_of-all price xs n all = ap (sum_of price) (take_all n xs all)
