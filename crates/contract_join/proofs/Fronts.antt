-- Lists of fronts, and bounds on their costs.
use Rattle.std.proofs.Common.{◌≡◌, ℕ, ◌*◌, ◌<◌, ◌≤◌, refl, sym, ◌∙◌, arith, subst, List, [], ◌∷◌, Option, Some, None, length, get_or, max}
use Rattle.duct_definitions.specs.declared.design.NetFan.{NetFan}
use Rattle.std.specs.Prelude.{All, IfSome, fold, map}
use Rattle.std.specs.Option.{ForSome}
use Rattle.std.proofs.lemmas.List.{get_or_default}
use Rattle.std.proofs.lemmas.List.Elements.{All-head, All-tail, All-map, All-weaker}
use Rattle.std.proofs.lemmas.Option.{unwrap_or-slice_get}
use Rattle.std.proofs.Math.Nat.{mul-le-mul_right}
use Rattle.pareto_front.specs.declared.point.Point.{Point}
use Rattle.pareto_front.specs.Front.{CostsWithin, cheapest}
use Rattle.pareto_front.proofs.Falls.{cheapest-All}
use Rattle.duct_definitions.specs.declared.limits.TheConstants.{MAX_SECTIONS, MAX_PRICE, MAX_PRESSURE}
use Rattle.duct_definitions.specs.Tree.{IsTree}
use Rattle.duct_definitions.specs.Network.{Network, IsNetwork, IsFan, cap}
use Rattle.duct_definitions.proofs.TreeLaws.{few_sections}
use Rattle.contract_join.specs.SectionFronts.{front_of, most_beyond}

pub front_of-get_or : (fronts : List (List Point)) (g : ℕ) → front_of fronts g ≡ get_or fronts g []
front_of-get_or fronts g = unwrap_or-slice_get fronts g []

pub front_of-read : (fronts : List (List Point)) (g : ℕ) (front : List Point) → g < length fronts → front ≡ get_or fronts g front → front_of fronts g ≡ front
front_of-read fronts g front within is = front_of-get_or fronts g ∙ get_or_default fronts g [] front within ∙ sym is

-- what holds of each front holds of the one at a place
pub All-front_of : (P : List Point → Type 0) (fronts : List (List Point)) (g : ℕ) → All P fronts → g < length fronts → P (front_of fronts g)
All-front_of P fronts g all within = subst P (sym (front_of-get_or fronts g)) (all g [] within)

if_some : (o : Option ℕ) (P : ℕ → Type 0) → ForSome o P → IfSome o P
if_some None P each = tt
if_some (Some x) P each = each x refl

pub cheapest-most : (front : List Point) (budget most : ℕ) → CostsWithin most front → IfSome (cheapest front budget) (λ cost. cost ≤ most)
cheapest-most front budget most costs =
    if_some (cheapest front budget) (λ cost. cost ≤ most) (cheapest-All (λ cost. cost ≤ most) front budget costs)

pub most_beyond-le : (net : Network) → IsTree net.tree → most_beyond net ≤ MAX_SECTIONS * MAX_PRICE
most_beyond-le net tree = let few = few_sections net.tree tree in omega arith

pub times-most_beyond : (net : Network) → IsTree net.tree → (n : ℕ) → n ≤ MAX_SECTIONS → n * most_beyond net ≤ MAX_SECTIONS * (MAX_SECTIONS * MAX_PRICE)
times-most_beyond net tree n few =
    let one = mul-le-mul_right (most_beyond net) few in
    let most = most_beyond-le net tree in
    omega arith

fold_max-le : (xs : List ℕ) (a most : ℕ) → a ≤ most → All (λ x. x ≤ most) xs → fold max a xs ≤ most
fold_max-le [] a most low all = low
fold_max-le (x ∷ xs) a most low all =
    let first = All-head (λ y. y ≤ most) x xs all in
    fold_max-le xs (max a x) most (omega arith) (All-tail (λ y. y ≤ most) x xs all)

pressures-le : (fans : List NetFan) → All IsFan fans → fold max 0 (map (λ fan. fan.pressure) fans) ≤ MAX_PRESSURE
pressures-le fans are =
    fold_max-le (map (λ fan. fan.pressure) fans) 0 MAX_PRESSURE (omega arith)
    (All-map (λ x. x ≤ MAX_PRESSURE) (λ fan. fan.pressure) fans
    (All-weaker IsFan (λ fan. fan.pressure ≤ MAX_PRESSURE) (λ fan is. is.pressure) fans are))

pub cap-le : (net : Network) → IsNetwork net → cap net ≤ MAX_PRESSURE
cap-le net valid =
    let first = pressures-le net.fans valid.fans.bounds in
    let second = pressures-le net.return_fans valid.return_fans.bounds in
    omega arith
