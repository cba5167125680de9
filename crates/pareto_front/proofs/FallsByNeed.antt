-- What falls by need stand for: what the sum costs within each budget, and that its points are a front.
use Rattle.std.proofs.Common.{◌≡◌, ℕ, zero, suc, ◌+◌, ◌-◌, ◌<◌, ◌≤◌, refl, ap, sym, ◌∙◌, arith, inl, inr, subst, List, [], ◌∷◌, Some, None, take, drop, sum}
use Rattle.std.specs.Prelude.{All}
use Rattle.std.specs.Option.{option_or}
use Rattle.std.proofs.lemmas.Bool.{cases_lt}
use Rattle.std.proofs.lemmas.Bool.Decides.{nat_tests}
use Rattle.std.proofs.lemmas.List.{drop-take, take-take}
use Rattle.std.proofs.lemmas.List.Elements.{All-nil, All-cons, All-head, All-tail}
use Rattle.std.proofs.lemmas.List.Sums.{sum_by-cons, sum_by-take-drop, sum_by-take-le}
use Rattle.pareto_front.specs.declared.point.Point.{Point}
use Rattle.pareto_front.specs.Front.{IsFront, cheapest}
use Rattle.pareto_front.specs.CostFalls.{AreFalls, falls_to, points_after, points_of, with_fall}
use Rattle.pareto_front.proofs.Needs.{NeedsAbove}
use Rattle.pareto_front.proofs.Order.{IsFront-above}
use Rattle.pareto_front.proofs.Prices.{cheapest-above, price_of-within}

with_fall-some : (fall : ℕ) (p : Point) (ps : List Point) → 0 < fall → with_fall fall p ps ≡ p ∷ ps
with_fall-some fall p ps some = grind (arith, nat_tests)

with_fall-none : (fall : ℕ) (p : Point) (ps : List Point) → fall ≤ 0 → with_fall fall p ps ≡ ps
with_fall-none fall p ps none = grind (arith, nat_tests)

-- a need without a fall has no point, and one with a fall has
pub after-none : (n c fall : ℕ) (fs : List ℕ) → fall ≤ 0 → points_after n c (fall ∷ fs) ≡ points_after (n + 1) c fs
after-none n c fall fs none =
    let same : c - fall ≡ c = omega arith in
    with_fall-none fall (record { need = n; cost = c - fall }) (points_after (n + 1) (c - fall) fs) none
    ∙ ap (λ k. points_after (n + 1) k fs) same

pub after-some : (n c fall : ℕ) (fs : List ℕ) → 0 < fall
    → points_after n c (fall ∷ fs) ≡ record { need = n; cost = c - fall } ∷ points_after (n + 1) (c - fall) fs
after-some n c fall fs some = with_fall-some fall (record { need = n; cost = c - fall }) (points_after (n + 1) (c - fall) fs) some

-- where nothing falls there is no later point
pub after-level : (n c : ℕ) (fs : List ℕ) → All (λ fall. fall ≤ 0) fs → points_after n c fs ≡ []
after-level n c [] level = refl
after-level n c (fall ∷ fs) level =
    after-none n c fall fs (All-head (λ f. f ≤ 0) fall fs level) ∙ after-level (n + 1) c fs (All-tail (λ f. f ≤ 0) fall fs level)

-- what falls up to a later need: up to the earlier one, and between
pub falls_to-later : (falls : List ℕ) (early late : ℕ) → early ≤ late
    → falls_to late falls ≡ falls_to early falls + sum (take (late - early) (drop (early + 1) falls))
falls_to-later falls early late later =
    let parts = sum_by-take-drop (λ (x : ℕ). x) (take (late + 1) falls) (early + 1) in
    let first : sum (take (early + 1) (take (late + 1) falls)) ≡ sum (take (early + 1) falls) =
    ap sum (take-take (early + 1) (late + 1) falls (omega arith)) in
    let width : late + 1 ≡ (early + 1) + (late - early) = omega arith in
    let rest : sum (drop (early + 1) (take (late + 1) falls)) ≡ sum (take (late - early) (drop (early + 1) falls)) =
    ap (λ n. sum (drop (early + 1) (take n falls))) width ∙ ap sum (drop-take (early + 1) (late - early) falls) in
    omega arith

pub falls_to-le : (falls : List ℕ) (need : ℕ) → falls_to need falls ≤ sum falls
falls_to-le falls need = sum_by-take-le (λ (x : ℕ). x) falls (need + 1)

-- no point is below the first need
after-above : (n c : ℕ) (fs : List ℕ) (b : ℕ) → b < n → NeedsAbove b (points_after n c fs)
after-above n c [] b below = All-nil (λ p. b < p.need)
after-above n c (fall ∷ fs) b below =
    let later = after-above (n + 1) (c - fall) fs b (omega arith) in
    elim (cases_lt 0 fall) [
      | inl some ↦
          subst (NeedsAbove b) (sym (after-some n c fall fs some))
          (All-cons (λ p. b < p.need) (record { need = n; cost = c - fall }) (points_after (n + 1) (c - fall) fs) below later)
      | inr none ↦
          subst (NeedsAbove b) (sym (with_fall-none fall (record { need = n; cost = c - fall }) (points_after (n + 1) (c - fall) fs) none)) later
    ]

sum-take_none : (fs : List ℕ) → sum (take 0 fs) ≡ 0
sum-take_none [] = refl
sum-take_none (f ∷ fs) = refl

-- the last point within the budget, or the cost before the first
after-cost : (n c m : ℕ) (fs : List ℕ) (b : ℕ) → b + 1 ≡ n + m → option_or (cheapest (points_after n c fs) b) (Some c) ≡ Some (c - sum (take m fs))
after-cost n c zero fs b is =
    let none = sum-take_none fs in
    let same : c ≡ c - sum (take 0 fs) = omega arith in
    ap (λ o. option_or o (Some c)) (cheapest-above (points_after n c fs) b (after-above n c fs b (omega arith))) ∙ ap Some same
after-cost n c (suc m) [] b is = let same : c ≡ c - 0 = omega arith in ap Some same
after-cost n c (suc m) (fall ∷ fs) b is =
    let point : Point = record { need = n; cost = c - fall } in
    let later : List Point = points_after (n + 1) (c - fall) fs in
    let rest : option_or (cheapest later b) (Some (c - fall)) ≡ Some ((c - fall) - sum (take m fs)) = after-cost (n + 1) (c - fall) m fs b (omega arith) in
    let all = sum_by-cons (λ (x : ℕ). x) fall (take m fs) in
    let end : (c - fall) - sum (take m fs) ≡ c - sum (fall ∷ take m fs) = omega arith in
    elim (cases_lt 0 fall) [
      | inl some ↦
          ap (λ (l : List Point). option_or (cheapest l b) (Some c)) (after-some n c fall fs some)
          ∙ ap (λ o. option_or (option_or (cheapest later b) o) (Some c)) (price_of-within point b (omega arith))
          ∙ ap (λ o. option_or o (Some c)) rest
          ∙ ap Some end
      | inr none ↦
          (let same : c ≡ c - fall = omega arith in
          ap (λ (l : List Point). option_or (cheapest l b) (Some c)) (with_fall-none fall point later none)
          ∙ ap (λ k. option_or (cheapest later b) (Some k)) same
          ∙ rest
          ∙ ap Some end)
    ]

-- the points are a front
after-front : (p : Point) (n : ℕ) (fs : List ℕ) → p.need < n → sum fs ≤ p.cost → IsFront (p ∷ points_after n p.cost fs)
after-front p n [] later within = (tt, tt)
after-front p n (fall ∷ fs) later within =
    let point : Point = record { need = n; cost = p.cost - fall } in
    let all = sum_by-cons (λ (x : ℕ). x) fall fs in
    elim (cases_lt 0 fall) [
      | inl some ↦
          subst (λ (l : List Point). IsFront (p ∷ l)) (sym (after-some n p.cost fall fs some))
          ((later, omega arith), after-front point (n + 1) fs (omega arith) (omega arith))
      | inr none ↦
          subst (λ (l : List Point). IsFront (p ∷ l)) (sym (after-none n p.cost fall fs none))
          (after-front p (n + 1) fs (omega arith) (omega arith))
    ]

module _ (first : Point) (falls : List ℕ) where
  pub falls-front : AreFalls first falls → IsFront (points_of first falls)
  falls-front are =
      let parts = sum_by-take-drop (λ (x : ℕ). x) falls (first.need + 1) in
      let most = are.within in
      after-front first (first.need + 1) (drop (first.need + 1) falls) (omega arith) (omega arith)

  -- what the sum costs from the first point on, and that it costs nothing yet below
  pub falls-cost : (b x : ℕ) → first.need ≤ b → x + falls_to b falls ≡ first.cost + falls_to first.need falls
      → cheapest (points_of first falls) b ≡ Some x
  falls-cost b x within is =
      let late : List ℕ = drop (first.need + 1) falls in
      let between = falls_to-later falls first.need b within in
      let end : first.cost - sum (take (b - first.need) late) ≡ x = omega arith in
      ap (option_or (cheapest (points_after (first.need + 1) first.cost late) b)) (price_of-within first b within)
      ∙ after-cost (first.need + 1) first.cost (b - first.need) late b (omega arith)
      ∙ ap Some end

  pub falls-below : (b : ℕ) → AreFalls first falls → b < first.need → cheapest (points_of first falls) b ≡ None
  falls-below b are below = cheapest-above (points_of first falls) b (IsFront-above (points_of first falls) b (falls-front are) below)
