-- The next need of two fronts that are read up to one need.
use Rattle.std.proofs.Common.{◌≡◌, ℕ, zero, suc, ◌≤◌, List, [], ◌∷◌, take, drop, Option, Some, None, refl, ap, arith, inl, inr, ◌⊎◌, min}
use Rattle.std.specs.Option.{ForSome}
use Rattle.std.proofs.lemmas.Bool.{cases_lt}
use Rattle.std.proofs.lemmas.List.Elements.{All-nil, All-cons, All-head}
use Rattle.pareto_front.specs.declared.point.Point.{Point}
use Rattle.duct_units.specs.Prices.{lesser}
use Rattle.pareto_front.specs.Front.{IsFront}
use Rattle.pareto_front.specs.Sweep.{NeedsFrom, IsReached, Progress, IsEven, IsReadTo, next_need}
use Rattle.pareto_front.proofs.Needs.{below_later, from_above}
use Rattle.pareto_front.proofs.Order.{later_above}

-- the lesser of two is above neither, and is one of them
pub record IsLesser (x y : Option ℕ) (n : ℕ) : Type 0 where
  pub x_over : ForSome x (λ m. n ≤ m)
  pub y_over : ForSome y (λ m. n ≤ m)
  pub one : (x ≡ Some n) ⊎ (y ≡ Some n)

pub lesser-Some : (x y : Option ℕ) (n : ℕ) → lesser x y ≡ Some n → IsLesser x y n
lesser-Some None y n is = record {
  x_over = λ m e. absurd (cc);
  y_over = λ m e. (let same : m ≡ n = cc in omega arith);
  one = inr is;
}
lesser-Some (Some x) None n is = record {
  x_over = λ m e. (let same : m ≡ n = cc in omega arith);
  y_over = λ m e. absurd (cc);
  one = inl is;
}
lesser-Some (Some x) (Some y) n is =
    let least : min x y ≡ n = cc in
    record {
      x_over = λ m e. (let same : x ≡ m = cc in omega arith);
      y_over = λ m e. (let same : y ≡ m = cc in omega arith);
      one = elim (cases_lt x y) [
        | inl less ↦ (let same : x ≡ n = omega arith in inl (ap Some same))
        | inr more ↦ (let same : y ≡ n = omega arith in inr (ap Some same))
      ];
    }

-- a front that is read up to a need is read up to any later one that its next point doesn't come before
pub read_up_to : (ps : List Point) (from need i : ℕ) → IsFront ps → IsReadTo from ps i → from ≤ need
    → ForSome (next_need ps i) (λ m. need ≤ m) → IsReadTo need ps i
read_up_to ps from need i front before later over = record {
  read = below_later from need (take i ps) (omega arith) before.read;
  rest = rest ps i front over;
} where
  rest : (ps : List Point) (i : ℕ) → IsFront ps → ForSome (next_need ps i) (λ m. need ≤ m) → NeedsFrom need (drop i ps)
  rest [] zero front over = All-nil (λ p. need ≤ p.need)
  rest [] (suc i) front over = All-nil (λ p. need ≤ p.need)
  rest (p ∷ ps) zero front over =
      let first = over p.need refl in
      All-cons (λ q. need ≤ q.need) p ps first (from_above p.need need ps (omega arith) (later_above p ps p.need front (omega arith)))
  rest (p ∷ ps) (suc i) front over = rest ps i front.1 over

-- the next point of a front that is read up to a need doesn't come before it
pub next_need-from : (ps : List Point) (from i : ℕ) → IsReadTo from ps i → ForSome (next_need ps i) (λ m. from ≤ m)
next_need-from ps from i before m is = go ps i before.rest is where
  go : (ps : List Point) (i : ℕ) → NeedsFrom from (drop i ps) → next_need ps i ≡ Some m → from ≤ m
  go [] i rest is = absurd (cc)
  go (p ∷ ps) zero rest is =
      let first = All-head (λ q. from ≤ q.need) p ps rest in
      let same : p.need ≡ m = cc in
      omega arith
  go (p ∷ ps) (suc i) rest is = go ps i rest is

-- both are read up to the lesser of their next needs, and one of them has it
pub record Reaches (at : Progress) (need : ℕ) : Type 0 where
  pub left : IsReadTo need at.left at.left_read
  pub right : IsReadTo need at.right at.right_read
  pub one : IsReached need at

pub IsEven-reaches : (at : Progress) (need : ℕ) → IsEven at
    → lesser (next_need at.left at.left_read) (next_need at.right at.right_read) ≡ Some need → Reaches at need
IsEven-reaches at need even is =
    let next = lesser-Some (next_need at.left at.left_read) (next_need at.right at.right_read) need is in
    let later : even.need ≤ need = elim next.one [
      | inl first ↦ next_need-from at.left even.need at.left_read even.left need first
      | inr second ↦ next_need-from at.right even.need at.right_read even.right need second
    ] in
    record {
      left = read_up_to at.left even.need need at.left_read even.left_front even.left later next.x_over;
      right = read_up_to at.right even.need need at.right_read even.right_front even.right later next.y_over;
      one = next.one;
    }
