-- The cheapest of a list of points at a budget: joined lists, parts, and budgets past every need.
use Rattle.std.proofs.Common.{◌≡◌, ℕ, suc, ◌-◌, ◌<◌, ◌≤◌, List, [], ◌∷◌, ◌++◌, take, drop, length, Option, Some, None, refl, ap, sym, ◌∙◌, arith}
use Rattle.std.specs.Prelude.{slice_get}
use Rattle.std.specs.Option.{option_or}
use Rattle.std.proofs.lemmas.List.{take-append-drop}
use Rattle.std.proofs.lemmas.List.Elements.{All-head, All-tail}
use Rattle.std.proofs.lemmas.Bool.Decides.{nat_tests}
use Rattle.pareto_front.specs.declared.point.Point.{Point}
use Rattle.pareto_front.specs.Front.{cheapest, price_of, NeedsWithin}
use Rattle.pareto_front.specs.Sweep.{cost_of, last_cost}
use Rattle.pareto_front.proofs.Needs.{NeedsAbove}

pub price_of-within : (p : Point) (b : ℕ) → p.need ≤ b → price_of p b ≡ Some p.cost
price_of-within p b within = grind (arith, nat_tests)

pub price_of-above : (p : Point) (b : ℕ) → b < p.need → price_of p b ≡ None
price_of-above p b above = grind (arith, nat_tests)

option_or-none : (x : Option ℕ) → option_or x None ≡ x
option_or-none None = refl
option_or-none (Some c) = refl

option_or-assoc : (x y z : Option ℕ) → option_or (option_or x y) z ≡ option_or x (option_or y z)
option_or-assoc None y z = refl
option_or-assoc (Some c) y z = refl

-- of joined lists the later one decides, where it has a price
pub cheapest-append : (ps qs : List Point) (b : ℕ) → cheapest (ps ++ qs) b ≡ option_or (cheapest qs b) (cheapest ps b)
cheapest-append [] qs b = sym (option_or-none (cheapest qs b))
cheapest-append (p ∷ ps) qs b =
    ap (λ o. option_or o (price_of p b)) (cheapest-append ps qs b)
    ∙ option_or-assoc (cheapest qs b) (cheapest ps b) (price_of p b)

-- a list whose every need is above the budget has no price
pub cheapest-above : (ps : List Point) (b : ℕ) → NeedsAbove b ps → cheapest ps b ≡ None
cheapest-above [] b above = refl
cheapest-above (p ∷ ps) b above =
    ap (λ o. option_or o (price_of p b)) (cheapest-above ps b (All-tail (λ q. b < q.need) p ps above))
    ∙ price_of-above p b (All-head (λ q. b < q.need) p ps above)

-- past every need the budget does not matter
pub cheapest-past : (ps : List Point) (b c : ℕ) → NeedsWithin b ps → NeedsWithin c ps → cheapest ps b ≡ cheapest ps c
cheapest-past [] b c within_b within_c = refl
cheapest-past (p ∷ ps) b c within_b within_c =
    let at_b = price_of-within p b (All-head (λ q. q.need ≤ b) p ps within_b) in
    let at_c = price_of-within p c (All-head (λ q. q.need ≤ c) p ps within_c) in
    let later = cheapest-past ps b c (All-tail (λ q. q.need ≤ b) p ps within_b) (All-tail (λ q. q.need ≤ c) p ps within_c) in
    ap (λ o. option_or o (price_of p b)) later ∙ ap (option_or (cheapest ps c)) (at_b ∙ sym at_c)

-- what lies above the budget may be cut off
pub cheapest-take : (ps : List Point) (i b : ℕ) → NeedsAbove b (drop i ps) → cheapest (take i ps) b ≡ cheapest ps b
cheapest-take ps i b above =
    sym (
    ap (λ l. cheapest l b) (sym (take-append-drop i ps))
    ∙ cheapest-append (take i ps) (drop i ps) b
    ∙ ap (λ o. option_or o (cheapest (take i ps) b)) (cheapest-above (drop i ps) b above))

-- a list whose first point is within the budget has a price
pub cheapest-first : (p : Point) (ps : List Point) (b : ℕ) → p.need ≤ b → (x : ℕ) × (cheapest (p ∷ ps) b ≡ Some x)
cheapest-first p ps b within = go (cheapest ps b) where
  go : (o : Option ℕ) → (x : ℕ) × (option_or o (price_of p b) ≡ Some x)
  go None = (p.cost, price_of-within p b within)
  go (Some x) = (x, refl)

later_decides : (o p : Option ℕ) (x : ℕ) → o ≡ Some x → option_or o p ≡ o
later_decides None p x is = absurd (cc)
later_decides (Some y) p x is = refl

last-cons : (p q : Point) (ps : List Point) → last_cost (p ∷ q ∷ ps) ≡ last_cost (q ∷ ps)
last-cons p q ps =
    let place : suc (suc (length ps)) - 1 ≡ suc (suc (length ps) - 1) = omega arith in
    ap (λ i. cost_of (slice_get (p ∷ q ∷ ps) i)) place

-- where every need is within the budget, the last point has the price
pub cheapest-last : (ps : List Point) (b : ℕ) → NeedsWithin b ps → cheapest ps b ≡ last_cost ps
cheapest-last [] b within = refl
cheapest-last (p ∷ []) b within = price_of-within p b (All-head (λ q. q.need ≤ b) p [] within)
cheapest-last (p ∷ q ∷ ps) b within =
    let rest = All-tail (λ r. r.need ≤ b) p (q ∷ ps) within in
    let (x, is) = cheapest-first q ps b (All-head (λ r. r.need ≤ b) q ps rest) in
    later_decides (cheapest (q ∷ ps) b) (price_of p b) x is
    ∙ cheapest-last (q ∷ ps) b rest
    ∙ sym (last-cons p q ps)
