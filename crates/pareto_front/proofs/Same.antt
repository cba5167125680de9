-- A front is its prices.
use Rattle.std.proofs.Common.{◌≡◌, ℕ, ◌<◌, ◌≤◌, List, [], ◌∷◌, Option, Some, None, refl, ap, sym, ◌∙◌, subst, arith, inl, inr, max}
use Rattle.std.specs.Option.{option_or}
use Rattle.std.proofs.lemmas.Bool.{cases_lt}
use Rattle.std.proofs.lemmas.List.Elements.{All-nil, All-cons, All-head, All-tail}
use Rattle.std.proofs.lemmas.Option.{same_Some, none-some}
use Rattle.pareto_front.specs.declared.point.Point.{Point}
use Rattle.pareto_front.specs.Front.{IsFront, cheapest, price_of, NeedsWithin}
use Rattle.pareto_front.proofs.Falls.{cheapest-All, price_of-Some}
use Rattle.pareto_front.proofs.Needs.{within_later}
use Rattle.pareto_front.proofs.Order.{IsFront-above, later_less}
use Rattle.pareto_front.proofs.Points.{cheapest-need}
use Rattle.pareto_front.proofs.Prices.{cheapest-above, cheapest-first}

point_of : ℕ → ℕ → Point
point_of need cost = record { need = need; cost = cost }

pub same_point : (p q : Point) → p.need ≡ q.need → p.cost ≡ q.cost → p ≡ q
unfolding point_of
same_point p q needs costs = ap (λ n. point_of n p.cost) needs ∙ ap (point_of q.need) costs

-- where two fronts have one price at the first need of the first, the second begins no later
not_before : (p q : Point) (ps qs : List Point) → IsFront (q ∷ qs) → cheapest (p ∷ ps) p.need ≡ cheapest (q ∷ qs) p.need → q.need ≤ p.need
not_before p q ps qs front same = elim (cases_lt p.need q.need) [
  | inl before ↦
      (let (y, is) = cheapest-first p ps p.need (omega arith) in
      let none = cheapest-above (q ∷ qs) p.need (IsFront-above (q ∷ qs) p.need front before) in
      absurd (none-some y (sym none ∙ sym same ∙ is)))
  | inr after ↦ after
]

-- without the first point that they share, two fronts still have the same price
later_same : (p : Point) (ps qs : List Point) (b : ℕ) → IsFront (p ∷ ps) → IsFront (p ∷ qs)
    → cheapest (p ∷ ps) b ≡ cheapest (p ∷ qs) b → cheapest ps b ≡ cheapest qs b
later_same p ps qs b ps_front qs_front same = go (cheapest ps b) (cheapest qs b) refl refl same where
  less : (ls : List Point) (x : ℕ) → IsFront (p ∷ ls) → cheapest ls b ≡ Some x → x < p.cost
  less ls x front is = cheapest-All (λ z. z < p.cost) ls b (later_less p ls front) x is

  go : (x y : Option ℕ) → cheapest ps b ≡ x → cheapest qs b ≡ y → option_or x (price_of p b) ≡ option_or y (price_of p b) → x ≡ y
  go None None x_is y_is same = refl
  go (Some x) (Some y) x_is y_is same = same
  go (Some x) None x_is y_is same =
      let below = less ps x ps_front x_is in
      let cost = (price_of-Some p b x (sym same)).1 in
      absurd (omega arith)
  go None (Some y) x_is y_is same =
      let below = less qs y qs_front y_is in
      let cost = (price_of-Some p b y same).1 in
      absurd (omega arith)

abbrev SameUpTo : ℕ → List Point → List Point → Type 0
SameUpTo cap ps qs = (b : ℕ) → b ≤ cap → cheapest ps b ≡ cheapest qs b

-- two fronts with the same prices up to a cap that is above both first needs begin with the same point
first_same : (p q : Point) (ps qs : List Point) (cap : ℕ) → IsFront (p ∷ ps) → IsFront (q ∷ qs) → p.need ≤ cap → q.need ≤ cap
    → SameUpTo cap (p ∷ ps) (q ∷ qs) → q ≡ p
first_same p q ps qs cap ps_front qs_front p_within q_within same =
    let low = not_before p q ps qs qs_front (same p.need p_within) in
    let high = not_before q p qs ps ps_front (sym (same q.need q_within)) in
    let need : q.need ≡ p.need = omega arith in
    let of_p = All-head (λ r. cheapest (p ∷ ps) r.need ≡ Some r.cost) p ps (cheapest-need (p ∷ ps) ps_front) in
    let of_q = All-head (λ r. cheapest (q ∷ qs) r.need ≡ Some r.cost) q qs (cheapest-need (q ∷ qs) qs_front) in
    let cost = same_Some q.cost p.cost (sym of_q ∙ sym (same q.need q_within) ∙ ap (cheapest (p ∷ ps)) need ∙ of_p) in
    same_point q p need cost

-- two fronts without a need above the cap that have the same prices up to it are one
pub same_up_to : (ps qs : List Point) (cap : ℕ) → IsFront ps → IsFront qs → NeedsWithin cap ps → NeedsWithin cap qs
    → ((b : ℕ) → b ≤ cap → cheapest ps b ≡ cheapest qs b) → ps ≡ qs
same_up_to [] [] cap ps_front qs_front ps_within qs_within same = refl
same_up_to [] (q ∷ qs) cap ps_front qs_front ps_within qs_within same =
    let (y, is) = cheapest-first q qs q.need (omega arith) in
    absurd (none-some y (same q.need (All-head (λ p. p.need ≤ cap) q qs qs_within) ∙ is))
same_up_to (p ∷ ps) [] cap ps_front qs_front ps_within qs_within same =
    let (x, is) = cheapest-first p ps p.need (omega arith) in
    absurd (none-some x (sym (same p.need (All-head (λ q. q.need ≤ cap) p ps ps_within)) ∙ is))
same_up_to (p ∷ ps) (q ∷ qs) cap ps_front qs_front ps_within qs_within same =
    let p_within = All-head (λ r. r.need ≤ cap) p ps ps_within in
    let q_within = All-head (λ r. r.need ≤ cap) q qs qs_within in
    let first = first_same p q ps qs cap ps_front qs_front p_within q_within same in
    let qs_front' = subst (λ r. IsFront (r ∷ qs)) first qs_front in
    let later = same_up_to ps qs cap ps_front.1 qs_front'.1 (All-tail (λ r. r.need ≤ cap) p ps ps_within) (All-tail (λ r. r.need ≤ cap) q qs qs_within)
    (λ b within. later_same p ps qs b ps_front qs_front' (same b within ∙ ap (λ r. cheapest (r ∷ qs) b) first)) in
    ap (λ l. p ∷ l) later ∙ ap (λ r. r ∷ qs) (sym first)

-- some number is above each need
cap_of : (ps : List Point) → (cap : ℕ) × NeedsWithin cap ps
cap_of [] = (0, All-nil (λ p. p.need ≤ 0))
cap_of (p ∷ ps) =
    let (cap, within) = cap_of ps in
    (max p.need cap, All-cons (λ q. q.need ≤ max p.need cap) p ps (omega arith) (within_later cap (max p.need cap) ps (omega arith) within))

-- two fronts that have the same price at every budget are one
pub same_prices : (ps qs : List Point) → IsFront ps → IsFront qs → ((b : ℕ) → cheapest ps b ≡ cheapest qs b) → ps ≡ qs
same_prices ps qs ps_front qs_front same =
    let (m, ps_within) = cap_of ps in
    let (n, qs_within) = cap_of qs in
    same_up_to ps qs (max m n) ps_front qs_front
    (within_later m (max m n) ps (omega arith) ps_within) (within_later n (max m n) qs (omega arith) qs_within)
    (λ b within. same b)
