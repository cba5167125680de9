-- What `certify` and `verify` answer.
--   AnswersCertify bytes            the text of the network's exact certificate, which is sound
--   AnswersVerify network c design  what is found of a certificate of the network, and of a design where it is named
use Rattle.std.specs.Prelude.{ℕ, ◌⊎◌, List, [], ◌∷◌, codes, Option, Some, None, Result, Ok, MatchResult}
use Rattle.duct_units.specs.Lines.{line}
use Rattle.duct_units.specs.Results.{◌>>=◌}
use Rattle.duct_units.specs.declared.fault.Fault.{Fault}
use Rattle.duct_units.specs.declared.fault.ReadError.TheVariants.{Refused}
use Rattle.duct_definitions.specs.declared.listed.Listed.{Listed}
use Rattle.duct_definitions.specs.Network.{Network, section_name}
use Rattle.network_file.specs.NetworkFile.{network_of}
use Rattle.design_text.specs.Reading.{reading}
use Rattle.front_certificate.specs.Certificates.{Certificate}
use Rattle.front_certificate.specs.CertificateText.{certificate_text}
use Rattle.front_certificate.specs.Reading.{IsTextOf, IsRefusal}
use Rattle.front_certificate.specs.Sound.{IsSound}
use Rattle.exact_certificate.specs.Exact.{IsExactCertificate}
use Rattle.certified_design.specs.Findings.{IsFinding, ProvesOf}
use Rattle.certified_design.specs.declared.finding.Finding.{Finding}
use Rattle.certified_design.specs.declared.finding.Finding.TheVariants as found
use Rattle.command_words.specs.RefusalText.{refusal_line}
use Rattle.command_words.specs.declared.commands.FileKind.TheVariants.{Network as network_file, Certificate as certificate_file, Design as text_file}
use Rattle.duct_cli.specs.declared.status.TheConstants.{FOUND, REFUSED, NONE_FOUND}
use Rattle.duct_cli.specs.Says.{Says}

-- the answer for the bytes of a network file that is to be certified
abbrev pub AnswersCertify : List ℕ → ℕ → List ℕ → Type 0
AnswersCertify bytes status answer =
    MatchResult (network_of bytes)
    (λ net. (c : Certificate) × IsExactCertificate net c × IsSound net c
    × Says FOUND (certificate_text net c) status answer)
    (λ fault. Says REFUSED (refusal_line network_file fault) status answer)

-- the words of what is found
abbrev pub finding_words : Network → Finding → List (List ℕ)
finding_words net found.Yes = codes "yes" ∷ []
finding_words net (found.Section s) = codes "no" ∷ codes "section" ∷ section_name net s ∷ []
finding_words net found.Total = codes "no" ∷ codes "total" ∷ []
finding_words net found.Design = codes "no" ∷ codes "design" ∷ []

-- the line of what is found
abbrev pub finding_line : Network → Finding → List ℕ
finding_line net finding = line (codes "certificate") (finding_words net finding)

-- its status
abbrev pub finding_status : Finding → ℕ
finding_status found.Yes = FOUND
finding_status finding = NONE_FOUND

-- what is found of a certificate, and of the design that a text tells, with what a yes proves of all designs
abbrev pub AnswersFinding : Network → Certificate → Option Listed → ℕ → List ℕ → Type 0
AnswersFinding net c design status answer =
    (f : Finding) × IsFinding net c design f × ProvesOf net c.total design f
    × Says (finding_status f) (finding_line net f) status answer

-- the fields of a design text, where it is there
abbrev pub listed_of : Option (List ℕ) → Result (Option Listed) Fault
listed_of None = Ok None
listed_of (Some bytes) = reading bytes >>= λ l. Ok (Some l)

-- the answer for a certificate that was read, and the bytes of a design text where there are any
abbrev pub AnswersBeside : Network → Certificate → Option (List ℕ) → ℕ → List ℕ → Type 0
AnswersBeside net c design status answer =
    MatchResult (listed_of design)
    (λ l. AnswersFinding net c l status answer)
    (λ fault. Says REFUSED (refusal_line text_file fault) status answer)

-- the answer for the bytes of a certificate of the network
abbrev pub AnswersCertificate : Network → List ℕ → Option (List ℕ) → ℕ → List ℕ → Type 0
AnswersCertificate net bytes design status answer =
    ((c : Certificate) × IsTextOf net bytes c × AnswersBeside net c design status answer)
    ⊎ ((fault : Fault) × IsRefusal net bytes (Refused fault)
    × Says REFUSED (refusal_line certificate_file fault) status answer)

-- the answer for the bytes of a network file, a certificate, and a design text where it is named
abbrev pub AnswersVerify : List ℕ → List ℕ → Option (List ℕ) → ℕ → List ℕ → Type 0
AnswersVerify network certificate design status answer =
    MatchResult (network_of network)
    (λ net. AnswersCertificate net certificate design status answer)
    (λ fault. Says REFUSED (refusal_line network_file fault) status answer)
