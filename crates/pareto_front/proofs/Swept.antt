-- What a sweep over two fronts keeps of what it has made: at every budget, what is made so far has the joined price of
-- what is read of the two. A step reads both past the next need, so it changes prices from that need on only, and there
-- both have the price that they offer. So what is made stays right if it gets that joined price from that need on.
use Rattle.std.proofs.Common.{◌≡◌, ℕ, ◌+◌, ◌<◌, ◌≤◌, List, [], ◌∷◌, ◌++◌, take, Option, Some, None, refl, ap, sym, ◌∙◌, subst, arith, inl, inr, ◌⊎◌}
use Rattle.std.specs.Option.{ForSome}
use Rattle.std.proofs.lemmas.List.{take_all}
use Rattle.std.proofs.lemmas.List.Elements.{All-nil, All-push}
use Rattle.pareto_front.specs.declared.point.Point.{Point}
use Rattle.pareto_front.specs.declared.sweep.Step.{Step}
use Rattle.pareto_front.specs.Front.{IsFront, CostsNoMore, cheapest}
use Rattle.pareto_front.specs.Sweep.{IsReached, IsReadTo, NeedsBelow, Progress, Steps, cost_of, points_left}
use Rattle.pareto_front.proofs.Costs.{Cheaper}
use Rattle.pareto_front.proofs.Even.{next_need-from}
use Rattle.pareto_front.proofs.Falls.{cheapest-read, cheapest-read_point}
use Rattle.pareto_front.proofs.Needs.{below_later}
use Rattle.pareto_front.proofs.Order.{IsFront-push}
use Rattle.pareto_front.proofs.Steps.{Extends, Extends-push, Extends-read, Extends-joined}

-- what is read of the left and of the right front
abbrev pub left_part : Progress → List Point
left_part at = take at.left_read at.left

abbrev pub right_part : Progress → List Point
right_part at = take at.right_read at.right

-- the points that are made are a front before the next need, and join the prices of what is read
pub record Swept (join : Option ℕ → Option ℕ → Option ℕ) (a b : List Point) (at : Progress) (made : List Point) : Type 0 where
  pub left_points : at.left ≡ a
  pub right_points : at.right ≡ b
  pub front : IsFront made
  pub needs : (need : ℕ) → IsReached need at → NeedsBelow need made
  pub prices : (budget : ℕ) → cheapest made budget ≡ join (cheapest (left_part at) budget) (cheapest (right_part at) budget)

-- at the start nothing is read
pub Swept-start : (join : Option ℕ → Option ℕ → Option ℕ) (a b : List Point) → join None None ≡ None
    → Swept join a b (record { left = a; right = b; left_read = 0; right_read = 0 }) []
Swept-start join a b none = record {
  left_points = refl;
  right_points = refl;
  front = tt;
  needs = λ need next. All-nil (λ p. p.need < need);
  prices = λ budget. sym none;
}

-- at the end all is read
pub Swept-end : {join : Option ℕ → Option ℕ → Option ℕ} {a b : List Point} {at : Progress} {made : List Point}
    → Swept join a b at made → points_left at ≡ 0 → (budget : ℕ) → cheapest made budget ≡ join (cheapest a budget) (cheapest b budget)
Swept-end {join} {a} {b} {at} swept none budget =
    swept.prices budget
    ∙ ap (λ l. join (cheapest l budget) (cheapest (right_part at) budget)) (take_all at.left_read at.left (omega arith) ∙ swept.left_points)
    ∙ ap (λ l. join (cheapest a budget) (cheapest l budget)) (take_all at.right_read at.right (omega arith) ∙ swept.right_points)

module _ {join : Option ℕ → Option ℕ → Option ℕ} {a b : List Point} {old new : Progress} {made : List Point} {next : Step} (swept : Swept join a b old made) (on : Steps old new next) where
  -- what both offer, joined
  pub offer_is : join (cost_of next.left) (cost_of next.right) ≡ join (cheapest old.left next.need) (cheapest old.right next.need)
  offer_is = ap (λ o. join o (cost_of next.right)) on.left_price ∙ ap (join (cheapest old.left next.need)) on.right_price

  -- the next need is above all that is made
  pub made_below : NeedsBelow next.need made
  made_below = swept.needs next.need on.reached

  reads : (ps ps' : List Point) (i j : ℕ) → ps' ≡ ps → IsReadTo next.need ps i → IsReadTo (next.need + 1) ps' j
      → Extends next.need (cheapest ps next.need) (take i ps) (take j ps')
  reads ps ps' i j same before after =
      subst (λ l. Extends next.need (cheapest ps next.need) (take i ps) (take j l)) (sym same)
      (Extends-read ps next.need i j before (subst (λ l. IsReadTo (next.need + 1) l j) same after))

  left_on : Extends next.need (cheapest old.left next.need) (left_part old) (left_part new)
  left_on = reads old.left new.left old.left_read new.left_read on.same_left on.left_before on.left_after

  right_on : Extends next.need (cheapest old.right next.need) (right_part old) (right_part new)
  right_on = reads old.right new.right old.right_read new.right_read on.same_right on.right_before on.right_after

  later_need : (need : ℕ) → IsReached need new → next.need + 1 ≤ need
  later_need need reached = elim reached [
    | inl of_left ↦ next_need-from new.left (next.need + 1) new.left_read on.left_after need of_left
    | inr of_right ↦ next_need-from new.right (next.need + 1) new.right_read on.right_after need of_right
  ]

  -- a front that takes the joined price from the next need on
  Swept-on : (made' : List Point) → Extends next.need (join (cost_of next.left) (cost_of next.right)) made made' → IsFront made' → NeedsBelow (next.need + 1) made'
      → Swept join a b new made'
  Swept-on made' extends front needs = record {
    left_points = on.same_left ∙ swept.left_points;
    right_points = on.same_right ∙ swept.right_points;
    front = front;
    needs = λ need reached. below_later (next.need + 1) need made' (later_need need reached) needs;
    prices = Extends-joined join next.need (cheapest old.left next.need) (cheapest old.right next.need)
        (left_part old) (left_part new) (right_part old) (right_part new) made made' left_on right_on
        (subst (λ o. Extends next.need o made made') offer_is extends) swept.prices;
  }

  -- a point of the joined price at the next need goes to the end, where it is below the price so far
  pub Swept-push : (point : Point) → point.need ≡ next.need → join (cost_of next.left) (cost_of next.right) ≡ Some point.cost
      → ForSome (cheapest made next.need) (λ cost. point.cost < cost) → Swept join a b new (made ++ point ∷ [])
  Swept-push point here offer falls =
      let pushed = subst (λ n. Extends n (Some point.cost) made (made ++ point ∷ [])) here (Extends-push made point) in
      Swept-on (made ++ point ∷ [])
      (subst (λ o. Extends next.need o made (made ++ point ∷ [])) (sym offer) pushed)
      (IsFront-push made point swept.front (below_later next.need point.need made (omega arith) made_below)
      (subst (λ n. ForSome (cheapest made n) (λ cost. point.cost < cost)) (sym here) falls))
      (All-push (λ p. p.need < next.need + 1) made point (below_later next.need (next.need + 1) made (omega arith) made_below) (omega arith))

  -- no point is made where the joined price stays
  pub Swept-skip : ((budget : ℕ) → next.need ≤ budget → cheapest made budget ≡ join (cost_of next.left) (cost_of next.right)) → Swept join a b new made
  Swept-skip stays =
      Swept-on made (record { below = λ budget under. refl; from = stays }) swept.front
      (below_later next.need (next.need + 1) made (omega arith) made_below)

  -- what a front offers is no more expensive than what is read of it
  pub left_falls : (budget : ℕ) → next.need ≤ budget → CostsNoMore (cost_of next.left) (cheapest (left_part old) budget)
  left_falls budget over =
      subst (λ o. CostsNoMore o (cheapest (left_part old) budget)) (sym on.left_price)
      (cheapest-read old.left next.need old.left_read budget on.left_front on.left_before over)

  pub right_falls : (budget : ℕ) → next.need ≤ budget → CostsNoMore (cost_of next.right) (cheapest (right_part old) budget)
  right_falls budget over =
      subst (λ o. CostsNoMore o (cheapest (right_part old) budget)) (sym on.right_price)
      (cheapest-read old.right next.need old.right_read budget on.right_front on.right_before over)

  -- and one of them is cheaper
  pub one_falls : (budget : ℕ) → next.need ≤ budget
      → Cheaper (cost_of next.left) (cheapest (left_part old) budget) ⊎ Cheaper (cost_of next.right) (cheapest (right_part old) budget)
  one_falls budget over = elim on.reached [
    | inl of_left ↦ inl (subst (λ o. Cheaper o (cheapest (left_part old) budget)) (sym on.left_price)
        (cheapest-read_point old.left next.need old.left_read budget on.left_front on.left_before over of_left))
    | inr of_right ↦ inr (subst (λ o. Cheaper o (cheapest (right_part old) budget)) (sym on.right_price)
        (cheapest-read_point old.right next.need old.right_read budget on.right_front on.right_before over of_right))
  ]
