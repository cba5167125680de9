-- The order of a front's points: what follows a point, its parts, and a point at its end.
use Rattle.std.proofs.Common.{ℕ, zero, suc, ◌<◌, ◌≤◌, List, [], ◌∷◌, ◌++◌, take, drop, length, refl, ap, sym, arith}
use Rattle.std.specs.Prelude.{All}
use Rattle.std.specs.Option.{option_or, ForSome}
use Rattle.std.proofs.lemmas.List.{drop_at}
use Rattle.std.proofs.lemmas.List.Elements.{All-head, All-tail, All-cons, All-nil, All-weaker, All-drop, All-same}
use Rattle.pareto_front.specs.declared.point.Point.{Point}
use Rattle.pareto_front.specs.Front.{IsBefore, IsFront, IsBelowFirst, cheapest, price_of}
use Rattle.pareto_front.specs.Sweep.{NeedsBelow}
use Rattle.pareto_front.proofs.Needs.{NeedsAbove}
use Rattle.pareto_front.proofs.Prices.{price_of-within}

-- q needs more and costs less than p
abbrev pub Follows : Point → Point → Type 0
Follows p q = (p.need < q.need) × (q.cost < p.cost)

follows_on : (p q r : Point) → Follows p q → Follows q r → Follows p r
follows_on p q r (more, less) (still_more, still_less) = (omega arith, omega arith)

-- each later point of a front follows its first
pub IsFront-first : (p : Point) (ps : List Point) → IsFront (p ∷ ps) → All (Follows p) ps
IsFront-first p [] front = All-nil (Follows p)
IsFront-first p (q ∷ qs) front =
    All-cons (Follows p) q qs front.0 (All-weaker (Follows q) (Follows p) (λ r. follows_on p q r front.0) qs (IsFront-first q qs front.1))

-- each later point needs more than what the first needs
pub later_above : (p : Point) (ps : List Point) (b : ℕ) → IsFront (p ∷ ps) → b ≤ p.need → NeedsAbove b ps
later_above p ps b front within =
    All-weaker (Follows p) (λ q. b < q.need) (λ q follows. let more = follows.0 in omega arith) ps (IsFront-first p ps front)

-- each later point costs less than the first
pub later_less : (p : Point) (ps : List Point) → IsFront (p ∷ ps) → All (λ q. q.cost < p.cost) ps
later_less p ps front = All-weaker (Follows p) (λ q. q.cost < p.cost) (λ q follows. follows.1) ps (IsFront-first p ps front)

-- every need of a front is above a budget that is below its first need
pub IsFront-above : (ps : List Point) (b : ℕ) → IsFront ps → IsBelowFirst b ps → NeedsAbove b ps
IsFront-above [] b front below = All-nil (λ p. b < p.need)
IsFront-above (p ∷ ps) b front below = All-cons (λ q. b < q.need) p ps below (later_above p ps b front (omega arith))

-- each point of a later part costs less than each of an earlier one
pub IsFront-parts : (ps qs : List Point) → IsFront (ps ++ qs) → All (λ p. All (λ q. q.cost < p.cost) qs) ps
IsFront-parts [] qs front = All-nil (λ p. All (λ q. q.cost < p.cost) qs)
IsFront-parts (p ∷ ps) qs front =
    let of_p = All-drop (λ q. q.cost < p.cost) (length ps) (ps ++ qs) (later_less p (ps ++ qs) front) in
    All-cons (λ p. All (λ q. q.cost < p.cost) qs) p ps
    (All-same (λ q. q.cost < p.cost) qs (drop (length ps) (ps ++ qs)) (sym (drop_at ps qs (length ps) refl)) of_p)
    (IsFront-parts ps qs front.1)

IsBefore-take : (p : Point) (ps : List Point) (i : ℕ) → IsBefore p ps → IsBefore p (take i ps)
IsBefore-take p [] zero before = tt
IsBefore-take p [] (suc i) before = tt
IsBefore-take p (q ∷ ps) zero before = tt
IsBefore-take p (q ∷ ps) (suc i) before = before

-- the first points of a front are a front
pub IsFront-take : (ps : List Point) (i : ℕ) → IsFront ps → IsFront (take i ps)
IsFront-take [] zero front = tt
IsFront-take [] (suc i) front = tt
IsFront-take (p ∷ ps) zero front = tt
IsFront-take (p ∷ ps) (suc i) front = (IsBefore-take p ps i front.0, IsFront-take ps i front.1)

-- a point above every need, and below the price there, goes to the end of a front
pub IsFront-push : (ps : List Point) (q : Point) → IsFront ps → NeedsBelow q.need ps
    → ForSome (cheapest ps q.need) (λ cost. q.cost < cost) → IsFront (ps ++ q ∷ [])
IsFront-push [] q front needs costs = (tt, tt)
IsFront-push (p ∷ []) q front needs costs =
    let more = All-head (λ r. r.need < q.need) p [] needs in
    ((more, costs p.cost (price_of-within p q.need (omega arith))), (tt, tt))
IsFront-push (p ∷ p' ∷ ps) q front needs costs =
    let later = All-tail (λ r. r.need < q.need) p (p' ∷ ps) needs in
    (front.0, IsFront-push (p' ∷ ps) q front.1 later (λ x is. costs x (ap (λ o. option_or o (price_of p q.need)) is)))
