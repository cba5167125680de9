-- The best with one fan: of all ways to let it serve both sides, or the supply side beside a return fan.
use Rattle.std.proofs.Common.{◌≡◌, ◌≢◌, ℕ, ◌<◌, ◌≤◌, List, Option, Some, None, refl, subst, arith}
use Rattle.std.specs.Prelude.{⊤}
use Rattle.duct_definitions.specs.Network.{Network}
use Rattle.duct_definitions.specs.Order.{turn_of}
use Rattle.pareto_front.specs.declared.point.Point.{Point}
use Rattle.pareto_front.specs.Front.{cheapest}
use Rattle.least_laws.specs.Choosing.{return_budget, cost_at, IsOffered}
use Rattle.fan_choice.specs.declared.choice.Choice.{Choice}
use Rattle.fan_choice.specs.FirstCheapest.{cheaper}
use Rattle.fan_choice.proofs.FirstCheapest.{cheaper-cases, both-none}
use Rattle.fan_choice.proofs.Shares.{price}

-- the best choice with fan i, of those whose return fan, or none, is among these
pub record IsBestWith (Own : Option ℕ → Type 0) (net : Network) (supply back : List Point) (i : ℕ) (choice : Choice)
    : Type 0 where
  pub fan : choice.fan ≡ i
  pub own : Own choice.back
  pub return_budget : choice.return_budget ≡ return_budget net i choice.back choice.supply_budget
  pub offered : IsOffered net i choice.back choice.supply_budget
  pub reached : cost_at net (cheapest supply) (cheapest back) i choice.back choice.supply_budget ≡ Some choice.cost
  pub least : (o : Option ℕ) (b c : ℕ) → Own o → IsOffered net i o b
      → cost_at net (cheapest supply) (cheapest back) i o b ≡ Some c → choice.cost ≤ c
  pub first_back : (o : Option ℕ) (b : ℕ) → Own o → turn_of o < turn_of choice.back → IsOffered net i o b
      → cost_at net (cheapest supply) (cheapest back) i o b ≢ Some choice.cost
  pub least_budget : (b : ℕ) → b < choice.supply_budget
      → cost_at net (cheapest supply) (cheapest back) i choice.back b ≢ Some choice.cost

-- none of these has a cost with fan i
abbrev pub NoneWith : (Option ℕ → Type 0) → Network → List Point → List Point → ℕ → Type 0
NoneWith Own net supply back i =
    (o : Option ℕ) (b c : ℕ) → Own o → IsOffered net i o b
    → cost_at net (cheapest supply) (cheapest back) i o b ≢ Some c

-- the answer is the best of these, or none of them has a cost
abbrev pub Answers : (Option ℕ → Type 0) → Network → List Point → List Point → ℕ → Option Choice → Type 0
Answers Own net supply back i None = NoneWith Own net supply back i
Answers Own net supply back i (Some choice) = IsBestWith Own net supply back i choice

-- no return fan, one, and either
abbrev pub Shared : Option ℕ → Type 0
Shared o = o ≡ None

abbrev pub Beside : Option ℕ → Type 0
Beside None = ⊥
Beside (Some j) = ⊤

abbrev pub Either : Option ℕ → Type 0
Either o = ⊤

module _ (net : Network) (supply back : List Point) (i : ℕ) where
  -- none comes before a fan that serves both sides
  shared_first : (choice : Choice) → IsBestWith Shared net supply back i choice
      → ((o : Option ℕ) (b c : ℕ) → Beside o → IsOffered net i o b
      → cost_at net (cheapest supply) (cheapest back) i o b ≡ Some c → choice.cost ≤ c)
      → IsBestWith Either net supply back i choice
  shared_first choice best more = record {
    fan = best.fan;
    own = tt;
    return_budget = best.return_budget;
    offered = best.offered;
    reached = best.reached;
    least = λ o b c own. low o b c;
    first_back = λ o b own earlier. absurd (let none = best.own in first o
        (subst (λ p. turn_of o < turn_of p) none earlier));
    least_budget = best.least_budget;
  } where
    low : (o : Option ℕ) (b c : ℕ) → IsOffered net i o b
        → cost_at net (cheapest supply) (cheapest back) i o b ≡ Some c → choice.cost ≤ c
    low None b c = best.least None b c refl
    low (Some j) b c = more (Some j) b c tt

    first : (o : Option ℕ) → turn_of o < 0 → ⊥
    first o less = omega arith

  -- a fan beside a return fan is the best where a fan for both sides costs more
  beside_less : (choice : Choice) → IsBestWith Beside net supply back i choice
      → ((b c : ℕ) → IsOffered net i None b → cost_at net (cheapest supply) (cheapest back) i None b ≡ Some c
      → choice.cost < c)
      → IsBestWith Either net supply back i choice
  beside_less choice best less = record {
    fan = best.fan;
    own = tt;
    return_budget = best.return_budget;
    offered = best.offered;
    reached = best.reached;
    least = λ o b c own. low o b c;
    first_back = λ o b own. first o b;
    least_budget = best.least_budget;
  } where
    low : (o : Option ℕ) (b c : ℕ) → IsOffered net i o b
        → cost_at net (cheapest supply) (cheapest back) i o b ≡ Some c → choice.cost ≤ c
    low None b c offered at = let under = less b c offered at in omega arith
    low (Some j) b c offered at = best.least (Some j) b c tt offered at

    first : (o : Option ℕ) (b : ℕ) → turn_of o < turn_of choice.back → IsOffered net i o b
        → cost_at net (cheapest supply) (cheapest back) i o b ≢ Some choice.cost
    first None b earlier offered at = let under = less b choice.cost offered at in omega arith
    first (Some j) b earlier offered at = best.first_back (Some j) b tt earlier offered at

  -- where the other kind has no better answer
  no_less : (shared : Option Choice) (choice : Choice) → Answers Shared net supply back i shared
      → ((s : Choice) → shared ≡ Some s → choice.cost < s.cost) → (b c : ℕ) → IsOffered net i None b
      → cost_at net (cheapest supply) (cheapest back) i None b ≡ Some c → choice.cost < c
  no_less None choice answers less b c offered at = absurd (answers None b c refl offered at)
  no_less (Some s) choice answers less b c offered at =
      let low = answers.least None b c refl offered at in
      let under = less s refl in
      omega arith

  no_lower : (beside : Option Choice) (choice : Choice) → Answers Beside net supply back i beside
      → ((w : Choice) → beside ≡ Some w → choice.cost ≤ w.cost) → (o : Option ℕ) (b c : ℕ) → Beside o
      → IsOffered net i o b
      → cost_at net (cheapest supply) (cheapest back) i o b ≡ Some c → choice.cost ≤ c
  no_lower None choice answers more o b c own offered at = absurd (answers o b c own offered at)
  no_lower (Some w) choice answers more o b c own offered at =
      let low = answers.least o b c own offered at in
      let over = more w refl in
      omega arith

  answers-some : (o : Option Choice) (choice : Choice) (Own : Option ℕ → Type 0) → Answers Own net supply back i o
      → o ≡ Some choice → IsBestWith Own net supply back i choice
  answers-some o choice Own answers is = subst (Answers Own net supply back i) is answers

  -- of the best of each kind the cheaper is the best of all, and of equal ones the one that serves both sides
  pub better : (shared beside : Option Choice) → Answers Shared net supply back i shared
      → Answers Beside net supply back i beside
      → Answers Either net supply back i (cheaper price shared beside)
  better shared beside of_shared of_beside = go (cheaper price shared beside) refl where
    go : (o : Option Choice) → cheaper price shared beside ≡ o → Answers Either net supply back i o
    go None none =
        let both = both-none price shared beside none in
        none_of (subst (Answers Shared net supply back i) both.0 of_shared)
        (subst (Answers Beside net supply back i) both.1 of_beside) where
          none_of : NoneWith Shared net supply back i → NoneWith Beside net supply back i
              → NoneWith Either net supply back i
          none_of no_share no_beside None b c own = no_share None b c refl
          none_of no_share no_beside (Some j) b c own = no_beside (Some j) b c tt
    go (Some choice) is =
        cheaper-cases price (IsBestWith Either net supply back i) shared beside choice is
        (λ s here more. shared_first s (answers-some shared s Shared of_shared here)
        (no_lower beside s of_beside more))
        (λ w here less. beside_less w (answers-some beside w Beside of_beside here) (no_less shared w of_shared less))
