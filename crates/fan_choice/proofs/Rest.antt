-- The first points of a list that are within a need, and what is left of the return points for the supply points that
-- are still to come.
use Rattle.std.proofs.Common.{◌≡◌, ℕ, ◌+◌, ◌-◌, ◌<◌, ◌≤◌, List, length, take, drop, get_or, get_or-drop, length-drop, ap, sym, ◌∙◌, subst, arith}
use Rattle.std.specs.Prelude.{All}
use Rattle.std.proofs.lemmas.List.{drop_more}
use Rattle.std.proofs.lemmas.List.Elements.{All-head, All-from_get_or, All-weaker, All-same, All-take}
use Rattle.pareto_front.specs.declared.point.Point.{Point}
use Rattle.pareto_front.specs.Front.{IsFront, cheapest}
use Rattle.pareto_front.proofs.Cuts.{needs_rise}
use Rattle.pareto_front.proofs.Order.{IsFront-take}
use Rattle.pareto_front.proofs.Prices.{cheapest-take}

-- the rest has the prices of all within what the point leaves of the pressure
abbrev pub Serves : List Point → List Point → ℕ → Point → Type 0
Serves rest back pressure point =
    (budget : ℕ) → budget ≤ pressure - point.need → cheapest rest budget ≡ cheapest back budget

module _ (all part : List Point) (is : part ≡ take (length part) all) where
  pub part_front : IsFront all → IsFront part
  part_front front = subst IsFront (sym is) (IsFront-take all (length part) front)

  pub part_all : (P : Point → Type 0) → All P all → All P part
  part_all P each = All-same P part (take (length part) all) is (All-take P (length part) all each)

  -- what is left out is beyond each budget within the need
  pub part_prices : (need budget : ℕ) → All (λ point. need < point.need) (drop (length part) all) → budget ≤ need
      → cheapest part budget ≡ cheapest all budget
  part_prices need budget beyond within =
      ap (λ ps. cheapest ps budget) is
      ∙ cheapest-take all (length part) budget
      (All-weaker (λ p. need < p.need) (λ p. budget < p.need) (λ p h. omega arith) (drop (length part) all) beyond)

module _ (supply back rest part : List Point) (pressure i : ℕ) (d : Point) (there : i < length supply)
    (serves : All (Serves rest back pressure) (drop i supply)) (is : part ≡ take (length part) rest)
    (beyond : All (λ point. pressure - (get_or supply i d).need < point.need) (drop (length part) rest)) where
  -- what is left for a point serves it
  pub serves_now : Serves part back pressure (get_or supply i d)
  serves_now budget within =
      part_prices rest part is (pressure - (get_or supply i d).need) budget beyond within
      ∙ All-head (Serves rest back pressure) (get_or supply i d) (drop (i + 1) supply)
      (subst (All (Serves rest back pressure)) (drop_more supply i d there) serves) budget within

  -- and each later point
  pub serves_later : IsFront supply → All (Serves part back pressure) (drop (i + 1) supply)
  serves_later front =
      All-from_get_or (Serves part back pressure) (drop (i + 1) supply) d (λ k before budget within.
      let later : i + 1 + k < length supply = omega (arith, length-drop (i + 1) supply) in
      let rises = needs_rise supply front i (i + 1 + k) d (omega arith) later in
      let is_there = get_or-drop (i + 1) supply k d in
      let left : budget ≤ pressure - (get_or supply (i + 1 + k) d).need = subst (λ p. budget ≤ pressure - p.need)
      is_there within in
      serves_now budget (omega (arith, rises, left)))
