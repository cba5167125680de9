-- Whether the sections of a project and those of a design's text are the same, in order.
use Rattle.std.specs.Prelude.{◌≡◌, ◌≢◌, ℕ, ◌+◌, List, map, take, slice_get}
use Rattle.duct_definitions.specs.declared.listed.Listed.{Listed}

-- the names of the listed sections
abbrev pub section_names : Listed → List (List ℕ)
section_names l = map (λ s. s.name) l.sections

-- section n, counted from 1, is the first with another name in the second list, or in one of them alone
pub record IsFirstDifference (names listed : List (List ℕ)) (n : ℕ) : Type 0 where
  pub place : ℕ
  pub number : n ≡ place + 1
  pub before : take place names ≡ take place listed
  pub differs : slice_get names place ≢ slice_get listed place
