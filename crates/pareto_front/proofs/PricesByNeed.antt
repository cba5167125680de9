-- Prices by need: those that are there and those that are absent, and the points that they stand for.
use Rattle.std.proofs.Common.{◌≡◌, ℕ, ◌+◌, ◌-◌, ◌<◌, ◌≤◌, cond, nat_le, true, false, refl, ap, sym, ◌∙◌, arith, subst, List, [], ◌∷◌, ◌++◌, Option, Some, None, length, take, drop, append-nil}
use Rattle.std.proofs.lemmas.Bool.Decides.{nat_tests}
use Rattle.std.proofs.lemmas.List.{take_all, take-append-drop, take-take, drop-drop, drop_all}
use Rattle.std.proofs.lemmas.List.Elements.{All-head, All-tail, All-take, All-drop, All-same, All-append}
use Rattle.duct_units.specs.Prices.{lesser}
use Rattle.pareto_front.specs.declared.point.Point.{Point}
use Rattle.pareto_front.specs.declared.least_prices.TheConstants.{ABSENT}
use Rattle.pareto_front.specs.LaidPoints.{least_among}
use Rattle.pareto_front.specs.LeastPrices.{shown, with_price, points_from, AreAbsent}
use Rattle.pareto_front.proofs.Kept.{price_from}

pub shown-there : (price : ℕ) → price < ABSENT → shown price ≡ Some price
shown-there price there = grind (arith, nat_tests)

pub shown-absent : (price : ℕ) → ABSENT ≤ price → shown price ≡ None
shown-absent price absent = grind (arith, nat_tests)

pub price_from-none : (need b : ℕ) → price_from need None b ≡ None
price_from-none need b = elim (nat_le need b) as (λ t. cond {A = Option ℕ} t None None ≡ None) [
  | true ↦ refl
  | false ↦ refl
]

pub price_from-lesser : (need b : ℕ) (x y : Option ℕ) → price_from need (lesser x y) b ≡ lesser (price_from need x b) (price_from need y b)
price_from-lesser need b x y = elim (nat_le need b) as (λ t. cond t (lesser x y) None ≡ lesser (cond t x None) (cond t y None)) [
  | true ↦ refl
  | false ↦ refl
]

-- the points with one more price
pub least_among-with_price : (price : Option ℕ) (need : ℕ) (points : List Point) (b : ℕ)
    → least_among (with_price price need points) b ≡ lesser (price_from need price b) (least_among points b)
least_among-with_price None need points b = sym (ap (λ o. lesser o (least_among points b)) (price_from-none need b))
least_among-with_price (Some price) need points b = refl

-- needs without a price have no point
pub points_from-absent : (prices : List ℕ) (start : ℕ) → AreAbsent prices → points_from start prices ≡ []
points_from-absent [] start absent = refl
points_from-absent (p ∷ ps) start absent =
    ap (λ o. with_price o start (points_from (start + 1) ps)) (shown-absent p (All-head (λ price. ABSENT ≤ price) p ps absent))
    ∙ points_from-absent ps (start + 1) (All-tail (λ price. ABSENT ≤ price) p ps absent)

-- and may be left out at the end
points_from-cut : (xs ys : List ℕ) (start : ℕ) → AreAbsent ys → points_from start (xs ++ ys) ≡ points_from start xs
points_from-cut [] ys start absent = points_from-absent ys start absent
points_from-cut (x ∷ xs) ys start absent = ap (with_price (shown x) start) (points_from-cut xs ys (start + 1) absent)

pub points_from-read : (prices : List ℕ) (n : ℕ) → AreAbsent (drop n prices) → points_from 0 (take n prices) ≡ points_from 0 prices
points_from-read prices n absent =
    sym (points_from-cut (take n prices) (drop n prices) 0 absent) ∙ ap (points_from 0) (take-append-drop n prices)

pub absent_before : (prices : List ℕ) (from less : ℕ) → less ≤ from → AreAbsent (take from prices) → AreAbsent (take less prices)
absent_before prices from less fewer absent =
    All-same (λ price. ABSENT ≤ price) (take less prices) (take less (take from prices)) (sym (take-take less from prices fewer))
    (All-take (λ price. ABSENT ≤ price) less (take from prices) absent)

pub absent_after : (prices : List ℕ) (until more : ℕ) → until ≤ more → AreAbsent (drop until prices) → AreAbsent (drop more prices)
absent_after prices until more later absent =
    let same : until + (more - until) ≡ more = omega arith in
    subst (λ n. AreAbsent (drop n prices)) same
    (All-same (λ price. ABSENT ≤ price) (drop (until + (more - until)) prices) (drop (more - until) (drop until prices)) (sym (drop-drop (more - until) until prices))
    (All-drop (λ price. ABSENT ≤ price) (more - until) (drop until prices) absent))

-- a vector whose items were lent and written
pub written : (new old : List ℕ) (len : ℕ) → len ≡ length old → length new ≡ length old → take len (new ++ drop (length new) old) ≡ new
written new old len all same =
    ap (λ l. take len (new ++ l)) (drop_all (length new) old (omega arith))
    ∙ ap (take len) (append-nil new)
    ∙ take_all len new (omega arith)

pub absent_all : (prices : List ℕ) (n : ℕ) → AreAbsent (take n prices) → AreAbsent (drop n prices) → AreAbsent prices
absent_all prices n early late =
    subst AreAbsent (take-append-drop n prices) (All-append (λ price. ABSENT ≤ price) (take n prices) (drop n prices) early late)
