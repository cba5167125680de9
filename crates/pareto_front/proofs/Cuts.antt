-- Where the needs within a budget end, by a search for the place.
use Rattle.std.proofs.Common.{◌≡◌, ℕ, zero, suc, ◌+◌, ◌<◌, ◌≤◌, List, [], ◌∷◌, length, get_or, leb, true, false, arith, get_or-take, get_or-drop, length-take, length-drop, add-one}
use Rattle.std.specs.List.Sorted.{IsNonDecreasingBy, IsPartitionPoint}
use Rattle.std.proofs.lemmas.List.Sorted.{IsNonDecreasingBy-from_all_adjacent}
use Rattle.std.proofs.lemmas.Bool.Decides.{nat_tests}
use Rattle.pareto_front.specs.declared.point.Point.{Point}
use Rattle.pareto_front.specs.Front.{IsFront}
use Rattle.pareto_front.specs.Sweep.{IsReadTo}

-- each point of a front needs no more than the next
next_needs_more : (ps : List Point) (k : ℕ) (d : Point) → IsFront ps → suc k < length ps → (get_or ps k d).need ≤ (get_or ps (suc k) d).need
next_needs_more [] k d front within = absurd (omega arith)
next_needs_more (p ∷ []) k d front within = absurd (omega arith)
next_needs_more (p ∷ q ∷ ps) zero d front within = let more = front.0 in omega arith
next_needs_more (p ∷ q ∷ ps) (suc k) d front within = next_needs_more (q ∷ ps) k d front.1 (omega arith)

pub needs_rise : (ps : List Point) → IsFront ps → IsNonDecreasingBy (λ (p : Point). p.need) ps
needs_rise ps front =
    IsNonDecreasingBy-from_all_adjacent (λ (p : Point). p.need) ps
    (λ k d within. rw add-one (next_needs_more ps k d front (omega arith)))

-- the place that a binary search for the budget finds
pub read_from_point : (ps : List Point) (budget i : ℕ) → i ≤ length ps
    → IsPartitionPoint (λ p. leb p.need budget ≡ true) (λ p. leb p.need budget ≡ false) ps i → IsReadTo (budget + 1) ps i
read_from_point ps budget i bound point = record {
  read = λ k d within.
      let here : k < i = omega (arith, length-take i ps) in
      let test = point.0 k d (omega arith) here in
      rw get_or-take (grind (arith, nat_tests));
  rest = λ k d within.
      let past : i + k < length ps = omega (arith, length-drop i ps) in
      let test = point.1 (i + k) d (omega arith) past in
      rw get_or-drop (grind (arith, nat_tests));
}
