-- What condensing a section comes to: its fronts, or that memory ran out.
--   section_of outcome            the section that it is of
--   IsOutcomeOf net s outcome     it is of section s of this network
use Rattle.std.specs.Prelude.{◌≡◌, ℕ}
use Rattle.duct_definitions.specs.Network.{Network}
use Rattle.contract_join.specs.declared.outcome.Outcome.{Outcome}
use Rattle.contract_join.specs.declared.outcome.Outcome.TheVariants.{Fronts, NoMemory}

-- the section that the outcome is of
abbrev pub section_of : Outcome → ℕ
section_of (Fronts fronts) = fronts.section
section_of (NoMemory s) = s

-- fronts of this network and section, or the section's number
abbrev pub IsOutcomeOf : Network → ℕ → Outcome → Type 0
IsOutcomeOf net s (Fronts fronts) = (fronts.net ≡ net) × (fronts.section ≡ s)
IsOutcomeOf net s (NoMemory section) = section ≡ s
