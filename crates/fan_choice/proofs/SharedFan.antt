-- The first cheapest share of a fan is the best of all supply budgets within its pressure.
use Rattle.std.proofs.Common.{◌≡◌, ℕ, ◌+◌, ◌-◌, ◌<◌, ◌≤◌, List, length, Option, Some, None, refl, ap, sym, ◌∙◌, subst, arith, inl, inr}
use Rattle.std.specs.Prelude.{slice_get, IsSomeAnd}
use Rattle.std.proofs.lemmas.Bool.{cases_lt}
use Rattle.std.proofs.lemmas.Option.{none-some, same_Some, slice_get_within}
use Rattle.duct_definitions.specs.Network.{Network, fan_at}
use Rattle.pareto_front.specs.declared.point.Point.{Point}
use Rattle.pareto_front.specs.Front.{IsFront, cheapest}
use Rattle.pareto_front.proofs.Points.{cheapest-rise}
use Rattle.least_laws.specs.Choosing.{cost_at}
use Rattle.fan_choice.specs.declared.choice.Choice.{Choice}
use Rattle.fan_choice.specs.Sharing.{shares, best_shared}
use Rattle.fan_choice.proofs.FirstCheapest.{IsFirstCheapest, first_cheapest-some, first_cheapest-none}
use Rattle.fan_choice.proofs.LastWithin.{IsBought, bought, priced}
use Rattle.fan_choice.proofs.OneFan.{IsBestWith, Answers, NoneWith, Shared}
use Rattle.fan_choice.proofs.Paid.{IsPaid, paid, pays}
use Rattle.fan_choice.proofs.Rising.{later_needs_more}
use Rattle.fan_choice.proofs.Shares.{price, shares-some, shares-there}

module _ (net : Network) (supply back : List Point) (i : ℕ) (inside : i < length net.fans)
    (supply_front : IsFront supply) (back_front : IsFront back) where
  abbrev pressure : ℕ
  pressure = (fan_at net i).pressure

  abbrev offer : ℕ → Option Choice
  offer = shares i (fan_at net i) supply back

  abbrev cost : ℕ → Option ℕ
  cost b = cost_at net (cheapest supply) (cheapest back) i None b

  -- the share of a point within the budget costs no more
  record IsNoMore (b c : ℕ) : Type 0 where
    pub place : ℕ
    pub point : Point
    pub there : slice_get supply place ≡ Some point
    pub within : point.need ≤ b
    pub choice : Choice
    pub offered : offer place ≡ Some choice
    pub cheap : choice.cost ≤ c

  no_more : (b c : ℕ) → b ≤ pressure → cost b ≡ Some c → IsNoMore b c
  no_more b c fits is =
      let all = paid net supply back i None b c is in
      let p = bought supply b all.of_supply all.supply_is in
      let within = p.last.within in
      go all p (cheapest back (pressure - p.point.need)) refl
      (cheapest-rise back (pressure - b) (pressure - p.point.need) back_front (omega arith) all.of_back
      all.back_is) where
        go : (all : IsPaid net supply back i None b c) (p : IsBought supply b all.of_supply) (rest : Option ℕ)
            → cheapest back (pressure - p.point.need) ≡ rest → IsSomeAnd rest (λ y. y ≤ all.of_back) → IsNoMore b c
        go all p None is less = absurd less
        go all p (Some y) is less =
            let within = p.last.within in
            let supply_cost = p.is in
            let sum = all.is in
            record {
              place = p.last.place;
              point = p.point;
              there = p.last.there;
              within = within;
              choice = record {
                fan = i;
                back = None;
                cost = (fan_at net i).cost + (p.point.cost + y);
                supply_budget = p.point.need;
                return_budget = pressure - p.point.need;
              };
              offered = shares-there i (fan_at net i) back supply p.last.place p.point y p.last.there (omega arith)
                  is;
              cheap = omega arith;
            }

  none_shared : ((k : ℕ) → k < length supply → offer k ≡ None) → NoneWith Shared net supply back i
  none_shared none o b c own offered at =
      let less = no_more b c offered.within (subst
      (λ p. cost_at net (cheapest supply) (cheapest back) i p b ≡ Some c) own at) in
      absurd (none-some less.choice
      (sym (none less.place (slice_get_within supply less.place less.point less.there)) ∙ less.offered))

  best_share : (choice : Choice) → IsFirstCheapest price offer (length supply) choice
      → IsBestWith Shared net supply back i choice
  best_share choice first =
      let at = shares-some i (fan_at net i) back supply first.at choice first.is in
      let same = same_Some _ choice at.is in
      let is_priced = priced supply first.at at.point supply_front at.there in
      let sum : (fan_at net i).cost + 0 + (at.point.cost + at.rest) ≡ (fan_at net i).cost +
      (at.point.cost + at.rest) = omega arith in
      subst (IsBestWith Shared net supply back i) same (record {
        fan = refl;
        own = refl;
        return_budget = refl;
        offered = record { in_range = inside; back = tt; within = at.within };
        reached = pays net supply back i None at.point.need at.point.cost at.rest is_priced.at_need at.bought ∙ ap
            Some sum;
        least = λ o b c own offered is.
            (let less = no_more b c offered.within (subst
            (λ p. cost_at net (cheapest supply) (cheapest back) i p b ≡ Some c) own is) in
            let low = first.least less.place (slice_get_within supply less.place less.point less.there) less.choice
            less.offered in
            let cost = ap (λ d. d.cost) same in
            let cheap = less.cheap in
            omega arith);
        first_back = λ o b own earlier. absurd (omega arith);
        least_budget = λ b below is.
            (let within = at.within in
            let less = no_more b _ (omega arith) is in
            let cost = ap (λ d. d.cost) same in
            let cheap = less.cheap in
            let need = less.within in
            elim (cases_lt less.place first.at) [
              | inl before ↦ (let more = first.first less.place before less.choice less.offered in omega arith)
              | inr later ↦
                  (let more = later_needs_more supply first.at less.place at.point less.point supply_front later
                  at.there less.there in
                  omega arith)
            ]);
      })

  pub share_answers : Answers Shared net supply back i (best_shared i (fan_at net i) supply back)
  unfolding best_shared
  share_answers = go (best_shared i (fan_at net i) supply back) refl where
    go : (o : Option Choice) → best_shared i (fan_at net i) supply back ≡ o → Answers Shared net supply back i o
    go None none = none_shared (first_cheapest-none price offer (length supply) none)
    go (Some choice) is = best_share choice (first_cheapest-some price offer (length supply) choice is)
