-- What a list of rules says of facts, and what becomes of the rules when they are asked.
--   Meaning              what one rule means: for any facts, whether they are allowed
--   all_allow            every rule allows the facts
--   first_refusal        the place, from 0, of the first rule that refuses them, or none
--   refuses_first i      rule i refuses them, and no rule before it does
--   counted              the counts, with one more at the place
--   SameRules            the same rules in the same order: no meaning and no name has changed
use Rattle.std.specs.Prelude.{◌≡◌, ℕ, zero, suc, ◌+◌, List, [], ◌∷◌, map, Bool, true, false, not, ◌&&◌, Option, Some, None, option_map, if◌then◌else◌}
use Rattle.design_rules.specs.declared.facts.PairFacts.{PairFacts}

-- what a rule means: for any facts, whether they are allowed
abbrev pub Meaning : Type 0
Meaning = PairFacts → Bool

-- every rule allows the facts
abbrev pub all_allow : List Meaning → PairFacts → Bool
all_allow [] facts = true
all_allow (allows ∷ rules) facts = allows facts && all_allow rules facts

-- the place of the first rule that refuses the facts; none where every rule allows them
abbrev pub first_refusal : List Meaning → PairFacts → Option ℕ
first_refusal [] facts = None
first_refusal (allows ∷ rules) facts =
    if allows facts then option_map (λ i. i + 1) (first_refusal rules facts) else Some 0

-- rule i refuses the facts, and no rule before it does
abbrev pub refuses_first : List Meaning → ℕ → PairFacts → Bool
refuses_first [] i facts = false
refuses_first (allows ∷ rules) zero facts = not (allows facts)
refuses_first (allows ∷ rules) (suc i) facts = allows facts && refuses_first rules i facts

-- the counts, with one more at place i
abbrev pub raised : ℕ → List ℕ → List ℕ
raised i [] = []
raised zero (n ∷ counts) = (n + 1) ∷ counts
raised (suc i) (n ∷ counts) = n ∷ raised i counts

-- the counts, with one more at the place of the rule that refused
abbrev pub counted : Option ℕ → List ℕ → List ℕ
counted None counts = counts
counted (Some i) counts = raised i counts

-- the same rules in the same order: no meaning and no name has changed
pub record SameRules {B : Type 0} (allows : B → Meaning) (label : B → List ℕ) (old new : List B) : Type 0 where
  pub meanings : map allows new ≡ map allows old
  pub names : map label new ≡ map label old
