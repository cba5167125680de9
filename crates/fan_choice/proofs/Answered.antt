-- What the first cheapest of the fans' best choices says, as a choice that may not be there.
use Rattle.std.proofs.Common.{◌≡◌, List, length, Option, Some, None, refl}
use Rattle.std.specs.Prelude.{IfSome, IfNone, IsNone, ◌↔◌}
use Rattle.std.proofs.lemmas.Bool.{true≢false}
use Rattle.duct_definitions.specs.Network.{Network}
use Rattle.pareto_front.specs.declared.point.Point.{Point}
use Rattle.pareto_front.specs.Front.{IsFront}
use Rattle.fan_choice.specs.declared.choice.Choice.{Choice}
use Rattle.fan_choice.specs.Choice.{IsChoiceOf, NoFanCovers, NoneIsPriced}
use Rattle.fan_choice.specs.FirstCheapest.{first_cheapest}
use Rattle.fan_choice.proofs.Chosen.{bests, is_choice, none_priced}
use Rattle.fan_choice.proofs.Covering.{none_covers, some_covers}
use Rattle.fan_choice.proofs.Shares.{price}

module _ (net : Network) (supply back : List Point) (supply_front : IsFront supply) (back_front : IsFront back) where
  abbrev chosen : Option Choice
  chosen = first_cheapest price (bests net supply back) (length net.fans)

  pub answer-some : (answer : Option Choice) → chosen ≡ answer
      → IfSome answer (λ choice. IsChoiceOf net supply back choice)
  answer-some None is = tt
  answer-some (Some choice) is = is_choice net supply back supply_front back_front choice is

  pub answer-unpriced : (answer : Option Choice) → chosen ≡ answer → IfNone answer (NoneIsPriced net supply back)
  answer-unpriced None is = none_priced net supply back supply_front back_front is
  answer-unpriced (Some choice) is = tt

  pub answer-none : (answer : Option Choice) → chosen ≡ answer → IsNone answer ↔ NoFanCovers net supply back
  answer-none None is =
      (λ none. none_covers net supply back supply_front back_front (answer-unpriced None is), λ covers. refl)
  answer-none (Some choice) is = (
    λ none. absurd (true≢false none),
    λ covers. absurd
        (some_covers net supply back choice (answer-some (Some choice) is) covers),
  )
