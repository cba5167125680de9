-- Two answers are one where they are one in each case.
use Rattle.std.proofs.Common.{◌≡◌, ℕ, List, Option, Some, None, Result, Ok, Err, sym, ◌∙◌}
use Rattle.std.specs.Prelude.{MatchOption, MatchResult}
use Rattle.duct_cli.specs.Says.{Says}

-- two statuses are one, and so are their texts
abbrev pub AreOne : ℕ → ℕ → List ℕ → List ℕ → Type 0
AreOne s t one other = (s ≡ t) × (one ≡ other)

pub says_once : (status : ℕ) (said : List ℕ) (s t : ℕ) (one other : List ℕ) → Says status said s one → Says status said t other → AreOne s t one other
says_once status said s t one other says again = (says.0 ∙ sym again.0, says.1 ∙ sym again.1)

-- what is answered by cases is one where it is one in each case
pub result_once : {A B : Type 0} (r : Result A B) (P P' : A → Type 0) (Q Q' : B → Type 0) (One : Type 0)
    → ((a : A) → P a → P' a → One) → ((b : B) → Q b → Q' b → One) → MatchResult r P Q → MatchResult r P' Q' → One
result_once (Ok a) P P' Q Q' One ok err p p' = ok a p p'
result_once (Err b) P P' Q Q' One ok err q q' = err b q q'

pub option_once : {A : Type 0} (o : Option A) (P P' : Type 0) (Q Q' : A → Type 0) (One : Type 0)
    → (P → P' → One) → ((a : A) → Q a → Q' a → One) → MatchOption o P Q → MatchOption o P' Q' → One
option_once None P P' Q Q' One none some p p' = none p p'
option_once (Some a) P P' Q Q' One none some q q' = some a q q'
