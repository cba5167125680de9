-- A front that is read past one more need.
use Rattle.std.proofs.Common.{◌≡◌, ℕ, zero, suc, ◌+◌, ◌<◌, ◌≤◌, List, [], ◌∷◌, take, drop, Option, Some, None, ap, sym, subst, ◌∙◌, arith, add-one, ◌≢◌, nat_eq, true, false}
use Rattle.std.specs.Option.{option_eq}
use Rattle.std.proofs.lemmas.Bool.Decides.{nat_tests}
use Rattle.std.proofs.lemmas.List.Elements.{All-head, All-tail, All-nil, All-cons}
use Rattle.pareto_front.specs.declared.point.Point.{Point}
use Rattle.pareto_front.specs.Front.{IsFront, cheapest}
use Rattle.pareto_front.specs.Sweep.{NeedsFrom, next_need, last_cost, IsReadTo}
use Rattle.pareto_front.proofs.Needs.{above_from, below_later, from_above, within_from_below}
use Rattle.pareto_front.proofs.Order.{IsFront-above, later_above}
use Rattle.pareto_front.proofs.Prices.{cheapest-last, cheapest-take}

-- where the next point has the need, it is read, and the others need more
pub read_on : (ps : List Point) (need i : ℕ) → IsFront ps → IsReadTo need ps i → next_need ps i ≡ Some need → IsReadTo (need + 1) ps (i + 1)
read_on ps need i front before next = subst (IsReadTo (need + 1) ps) (sym (add-one i)) (go ps i front before next) where
  go : (ps : List Point) (i : ℕ) → IsFront ps → IsReadTo need ps i → next_need ps i ≡ Some need → IsReadTo (need + 1) ps (suc i)
  go [] i front before next = absurd (cc)
  go (p ∷ ps) zero front before next =
      let same : p.need ≡ need = cc in
      record {
        read = All-cons (λ q. q.need < need + 1) p [] (omega arith) (All-nil (λ q. q.need < need + 1));
        rest = from_above need (need + 1) ps (omega arith) (later_above p ps need front (omega arith));
      }
  go (p ∷ ps) (suc i) front before next =
      let first = All-head (λ q. q.need < need) p (take i ps) before.read in
      let tail : IsReadTo need ps i = record { read = All-tail (λ q. q.need < need) p (take i ps) before.read; rest = before.rest } in
      let later = go ps i front.1 tail next in
      record { read = All-cons (λ q. q.need < need + 1) p (take (suc i) ps) (omega arith) later.read; rest = later.rest }

-- where it has another need, all that are left need more
pub read_not_on : (ps : List Point) (need i : ℕ) → IsFront ps → IsReadTo need ps i → next_need ps i ≢ Some need → IsReadTo (need + 1) ps i
read_not_on ps need i front before other = record {
  read = below_later need (need + 1) (take i ps) (omega arith) before.read;
  rest = rest ps i front before.rest other;
} where
  rest : (ps : List Point) (i : ℕ) → IsFront ps → NeedsFrom need (drop i ps) → next_need ps i ≢ Some need → NeedsFrom (need + 1) (drop i ps)
  rest [] zero front from other = All-nil (λ q. need + 1 ≤ q.need)
  rest [] (suc i) front from other = All-nil (λ q. need + 1 ≤ q.need)
  rest (p ∷ ps) zero front from other =
      let first = All-head (λ q. need ≤ q.need) p ps from in
      let differs : p.need ≢ need = λ same. other (ap Some same) in
      from_above need (need + 1) (p ∷ ps) (omega arith) (IsFront-above (p ∷ ps) need front (omega arith))
  rest (p ∷ ps) (suc i) front from other = rest ps i front.1 from other

-- the last point that is read has the price
pub cost_read : (ps : List Point) (need i : ℕ) → IsReadTo (need + 1) ps i → last_cost (take i ps) ≡ cheapest ps need
cost_read ps need i read =
    sym (cheapest-last (take i ps) need (within_from_below (need + 1) need (take i ps) (omega arith) read.read))
    ∙ cheapest-take ps i need (above_from (need + 1) need (drop i ps) (omega arith) read.rest)

-- what a test of the next need tells
pub same_need : (o : Option ℕ) (n : ℕ) → option_eq nat_eq o (Some n) ≡ true → o ≡ Some n
same_need None n is = absurd (cc)
same_need (Some x) n is = grind (arith, nat_tests)

pub other_need : (o : Option ℕ) (n : ℕ) → option_eq nat_eq o (Some n) ≡ false → o ≢ Some n
other_need None n is = λ e. cc
other_need (Some x) n is = λ e. let same : x ≡ n = cc in grind (arith, nat_tests)
