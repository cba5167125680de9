-- A certificate has one judgement.
use Rattle.std.proofs.Common.{◌≡◌, ℕ, inl, inr, refl, ap, arith}
use Rattle.std.proofs.lemmas.Bool.{cases_lt}
use Rattle.duct_definitions.specs.Network.{Network}
use Rattle.front_certificate.specs.Certificates.{Certificate}
use Rattle.front_certificate.specs.Sound.{IsFirstUnsound, IsJudgement}
use Rattle.front_certificate.specs.declared.judgement.Judgement.{Judgement}
use Rattle.front_certificate.specs.declared.judgement.Judgement.TheVariants.{Yes, Section, Total}

-- the first section that is not sound is one
first-once : (net : Network) (c : Certificate) (s t : ℕ) → IsFirstUnsound net c.fronts s → IsFirstUnsound net c.fronts t
    → s ≡ t
first-once net c s t is again = elim (cases_lt s t) [
  | inl less ↦ absurd (is.unsound (again.before s less))
  | inr not_less ↦ elim (cases_lt t s) [
    | inl less ↦ absurd (again.unsound (is.before t less))
    | inr no_more ↦ omega arith
  ]
]

pub judged-once : (net : Network) (c : Certificate) (j k : Judgement) → IsJudgement net c j → IsJudgement net c k → j ≡ k
judged-once net c Yes Yes is again = refl
judged-once net c Yes (Section s) is again = absurd (again.unsound (is.sections s again.section))
judged-once net c Yes Total is again = absurd (again.unsound is.total)
judged-once net c (Section s) Yes is again = absurd (is.unsound (again.sections s is.section))
judged-once net c (Section s) (Section t) is again = ap Section (first-once net c s t is again)
judged-once net c (Section s) Total is again = absurd (is.unsound (again.sections s is.section))
judged-once net c Total Yes is again = absurd (is.unsound again.total)
judged-once net c Total (Section s) is again = absurd (again.unsound (is.sections s again.section))
judged-once net c Total Total is again = refl
