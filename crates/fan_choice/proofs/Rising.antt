-- The needs of a front rise.
use Rattle.std.proofs.Common.{◌≡◌, ℕ, ◌-◌, ◌<◌, ◌≤◌, List, length, take, get_or, get_or-take, length-take, arith}
use Rattle.std.specs.Prelude.{All, Some, slice_get}
use Rattle.std.proofs.lemmas.List.Elements.{All-from_get_or}
use Rattle.std.proofs.lemmas.Option.{slice_get_within, get_or_from_slice_get}
use Rattle.pareto_front.specs.declared.point.Point.{Point}
use Rattle.pareto_front.specs.Front.{IsFront}
use Rattle.pareto_front.proofs.Cuts.{needs_rise}

-- a point at a later place needs no less
pub later_needs_more : (ps : List Point) (i k : ℕ) (p q : Point) → IsFront ps → i ≤ k
    → slice_get ps i ≡ Some p → slice_get ps k ≡ Some q → p.need ≤ q.need
later_needs_more ps i k p q front later at_i at_k =
    let rises = needs_rise ps front i k p later (slice_get_within ps k q at_k) in
    let of_p = get_or_from_slice_get ps i p p at_i in
    let of_q = get_or_from_slice_get ps k q p at_k in
    rw (of_p, of_q) at rises

-- where the last of the first points is within a need, all of them are
pub first_within : (ps : List Point) (count need : ℕ) (d : Point) → IsFront ps → 0 < count → count ≤ length ps
    → (get_or ps (count - 1) d).need ≤ need → All (λ p. p.need ≤ need) (take count ps)
first_within ps count need d front some few last =
    All-from_get_or (λ p. p.need ≤ need) (take count ps) d (λ i before.
    let here : i < count = omega (arith, length-take count ps) in
    let rises = needs_rise ps front i (count - 1) d (omega arith) (omega arith) in
    rw get_or-take (omega (arith, rises, last)))
