-- The shares of one fan.
use Rattle.std.proofs.Common.{◌≡◌, ℕ, ◌+◌, ◌-◌, ◌<◌, ◌≤◌, List, length, take, drop, get_or, get_or-take, get_or-drop, length-take, length-drop, Option, Some, None, refl, ap, sym, ◌∙◌, subst, arith, inl, inr, leb}
use Rattle.std.specs.Prelude.{All, slice_get}
use Rattle.std.specs.Option.{option_and_then}
use Rattle.std.proofs.lemmas.Bool.{cond-true, cond-false, le-leb, lt-leb, cases_lt}
use Rattle.std.proofs.lemmas.Option.{none-some, slice_get-get_or, slice_get_past}
use Rattle.duct_definitions.specs.declared.design.NetFan.{NetFan}
use Rattle.pareto_front.specs.declared.point.Point.{Point}
use Rattle.pareto_front.specs.Front.{cheapest}
use Rattle.pareto_front.specs.Sweep.{last_cost}
use Rattle.pareto_front.proofs.Prices.{cheapest-last}
use Rattle.fan_choice.specs.declared.choice.Choice.{Choice}
use Rattle.fan_choice.specs.FirstCheapest.{first_cheapest}
use Rattle.fan_choice.specs.Sharing.{share, share_at, shares, best_shared}
use Rattle.fan_choice.proofs.FirstCheapest.{first_cheapest-alike, first_cheapest-end}
use Rattle.fan_choice.proofs.Rest.{Serves}

abbrev pub price : Choice → ℕ
price choice = choice.cost

abbrev no_point : Point
no_point = record { need = 0; cost = 0 }

module _ (number : ℕ) (fan : NetFan) (back : List Point) where
  pub share_at-covered : (point : Point) → point.need ≤ fan.pressure
      → share_at number fan back point ≡ share number fan point (cheapest back (fan.pressure - point.need))
  share_at-covered point within = cond-true (leb point.need fan.pressure) _ _ (le-leb point.need fan.pressure within)

  share_at-over : (point : Point) → fan.pressure < point.need → share_at number fan back point ≡ None
  share_at-over point over = cond-false (leb point.need fan.pressure) _ _ (lt-leb point.need fan.pressure over)

  -- the share of a point, where what is left serves the point and is all within the rest of the pressure
  pub share-left : (supply part : List Point) (i : ℕ) (d : Point) → i < length supply
      → (get_or supply i d).need ≤ fan.pressure → Serves part back fan.pressure (get_or supply i d)
      → All (λ p. p.need ≤ fan.pressure - (get_or supply i d).need) part
      → shares number fan supply back i ≡ share number fan (get_or supply i d) (last_cost part)
  share-left supply part i d there within serves left =
      let point = get_or supply i d in
      let rest = fan.pressure - point.need in
      ap (option_and_then (share_at number fan back)) (slice_get-get_or supply i d there)
      ∙ share_at-covered point within
      ∙ ap (share number fan point) (sym (serves rest (omega arith)) ∙ cheapest-last part rest left)

  pub best_shared-is : (supply : List Point)
      → first_cheapest price (shares number fan supply back) (length supply) ≡ best_shared number fan supply back
  unfolding best_shared
  best_shared-is supply = refl

  -- supply points beyond the pressure have no share
  pub best_shared-part : (supply part : List Point) → part ≡ take (length part) supply
      → All (λ p. fan.pressure < p.need) (drop (length part) supply)
      → best_shared number fan part back ≡ best_shared number fan supply back
  unfolding best_shared
  best_shared-part supply part is beyond =
      first_cheapest-alike price (shares number fan part back) (shares number fan supply back) (length part)
      (λ k below.
      ap (option_and_then (share_at number fan back)) (same_place k below))
      ∙ sym (first_cheapest-end price (shares number fan supply back) (length part) (length supply) few none) where
        few : length part ≤ length supply
        few = omega (arith, length-take (length part) supply, ap length is)

        same_place : (k : ℕ) → k < length part → slice_get part k ≡ slice_get supply k
        same_place k below =
            slice_get-get_or part k no_point below
            ∙ ap Some (ap (λ ps. get_or ps k no_point) is ∙ get_or-take (length part) supply k no_point below)
            ∙ sym (slice_get-get_or supply k no_point (omega (arith, few)))

        none : (k : ℕ) → length part ≤ k → shares number fan supply back k ≡ None
        none k past = elim (cases_lt k (length supply)) [
          | inl there ↦
              (let over = beyond (k - length part) no_point (omega (arith, length-drop (length part) supply)) in
              let place : length part + (k - length part) ≡ k = omega arith in
              let at = get_or-drop (length part) supply (k - length part) no_point ∙ ap
              (λ i. get_or supply i no_point) place in
              ap (option_and_then (share_at number fan back)) (slice_get-get_or supply k no_point there)
              ∙ share_at-over (get_or supply k no_point) (subst (λ p. fan.pressure < p.need) at over))
          | inr end ↦ ap (option_and_then (share_at number fan back)) (slice_get_past supply k end)
        ]

  -- what a share is: the point's need and cost, and the rest of the pressure with what it buys
  pub record IsShare (supply : List Point) (k : ℕ) (choice : Choice) : Type 0 where
    pub point : Point
    pub there : slice_get supply k ≡ Some point
    pub within : point.need ≤ fan.pressure
    pub rest : ℕ
    pub bought : cheapest back (fan.pressure - point.need) ≡ Some rest
    pub is : share number fan point (Some rest) ≡ Some choice

  pub shares-some : (supply : List Point) (k : ℕ) (choice : Choice) → shares number fan supply back k ≡ Some choice
      → IsShare supply k choice
  shares-some supply k choice is = of_place (slice_get supply k) refl is where
    of_rest : (point : Point) → slice_get supply k ≡ Some point → point.need ≤ fan.pressure → (rest : Option ℕ)
        → cheapest back (fan.pressure - point.need) ≡ rest → share number fan point rest ≡ Some choice
        → IsShare supply k choice
    of_rest point there within None bought is = absurd (none-some choice is)
    of_rest point there within (Some rest) bought is =
        record { point = point; there = there; within = within; rest = rest; bought = bought; is = is }

    of_place : (o : Option Point) → slice_get supply k ≡ o
        → option_and_then (share_at number fan back) o ≡ Some choice
        → IsShare supply k choice
    of_place None there is = absurd (none-some choice is)
    of_place (Some point) there is = elim (cases_lt fan.pressure point.need) [
      | inl over ↦ absurd (none-some choice (sym (share_at-over point over) ∙ is))
      | inr within ↦
          of_rest point there within (cheapest back (fan.pressure - point.need)) refl
          (sym (share_at-covered point within) ∙ is)
    ]

  pub shares-there : (supply : List Point) (k : ℕ) (point : Point) (rest : ℕ) → slice_get supply k ≡ Some point
      → point.need ≤ fan.pressure → cheapest back (fan.pressure - point.need) ≡ Some rest
      → shares number fan supply back k ≡ share number fan point (Some rest)
  shares-there supply k point rest there within bought =
      ap (option_and_then (share_at number fan back)) there
      ∙ share_at-covered point within
      ∙ ap (share number fan point) bought
