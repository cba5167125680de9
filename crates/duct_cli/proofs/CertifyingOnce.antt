-- The answers of `certify` and `verify` are one.
use Rattle.std.proofs.Common.{◌≡◌, ℕ, inl, inr, List, Option, ap, sym, subst, ◌∙◌}
use Rattle.duct_definitions.specs.declared.listed.Listed.{Listed}
use Rattle.duct_definitions.specs.Network.{Network}
use Rattle.duct_units.specs.declared.fault.Fault.{Fault}
use Rattle.network_file.specs.NetworkFile.{network_of}
use Rattle.front_certificate.specs.Certificates.{Certificate}
use Rattle.front_certificate.specs.CertificateText.{certificate_text}
use Rattle.front_certificate.proofs.OneReading.{text-once, refusal-once, text-not_refused}
use Rattle.exact_certificate.proofs.OneCertificate.{certificate-once}
use Rattle.certified_design.proofs.Findings.{found-once}
use Rattle.command_words.specs.RefusalText.{refusal_line}
use Rattle.command_words.specs.declared.commands.FileKind.TheVariants.{Certificate as certificate_file}
use Rattle.duct_cli.specs.Certifying.{AnswersCertify, AnswersVerify, AnswersCertificate, AnswersBeside, AnswersFinding, finding_line, finding_status, listed_of}
use Rattle.duct_cli.proofs.Once.{AreOne, says_once, result_once}

pub certify_once : (bytes : List ℕ) (s t : ℕ) (one other : List ℕ) → AnswersCertify bytes s one → AnswersCertify bytes t other
    → AreOne s t one other
certify_once bytes s t one other =
    result_once (network_of bytes) _ _ _ _ (AreOne s t one other)
    (λ net said again.
    let same : certificate_text net said.0 ≡ certificate_text net again.0 =
    ap (certificate_text net) (certificate-once net said.0 again.0 said.1 again.1) in
    (said.3.0 ∙ sym again.3.0, said.3.1 ∙ same ∙ sym again.3.1))
    (λ fault. says_once _ _ s t one other)

finding_once : (net : Network) (c : Certificate) (design : Option Listed) (s t : ℕ) (one other : List ℕ)
    → AnswersFinding net c design s one → AnswersFinding net c design t other → AreOne s t one other
finding_once net c design s t one other said again =
    let same : said.0 ≡ again.0 = found-once net c design said.0 again.0 said.1 again.1 in (
      said.3.0 ∙ ap finding_status same ∙ sym again.3.0,
      said.3.1 ∙ ap (finding_line net) same ∙ sym again.3.1,
    )

beside_once : (net : Network) (c : Certificate) (design : Option (List ℕ)) (s t : ℕ) (one other : List ℕ)
    → AnswersBeside net c design s one → AnswersBeside net c design t other → AreOne s t one other
beside_once net c design s t one other =
    result_once (listed_of design) _ _ _ _ (AreOne s t one other) (λ l. finding_once net c l s t one other)
    (λ fault. says_once _ _ s t one other)

certificate_once : (net : Network) (bytes : List ℕ) (design : Option (List ℕ)) (s t : ℕ) (one other : List ℕ)
    → AnswersCertificate net bytes design s one → AnswersCertificate net bytes design t other → AreOne s t one other
certificate_once net bytes design s t one other (inl said) (inl again) =
    let same = text-once net bytes said.0 again.0 said.1 again.1 in
    beside_once net again.0 design s t one other (subst (λ (c : Certificate). AnswersBeside net c design s one) same said.2)
    again.2
certificate_once net bytes design s t one other (inl said) (inr again) =
    absurd (text-not_refused net bytes said.0 again.0 said.1 again.1)
certificate_once net bytes design s t one other (inr said) (inl again) =
    absurd (text-not_refused net bytes again.0 said.0 again.1 said.1)
certificate_once net bytes design s t one other (inr said) (inr again) =
    let same : ◌≡◌ {A = List ℕ} (refusal_line certificate_file said.0) (refusal_line certificate_file again.0) =
    ap (λ (fault : Fault). refusal_line certificate_file fault) (refusal-once net bytes said.0 again.0 said.1 again.1) in
    (said.2.0 ∙ sym again.2.0, said.2.1 ∙ same ∙ sym again.2.1)

pub verify_once : (network certificate : List ℕ) (design : Option (List ℕ)) (s t : ℕ) (one other : List ℕ)
    → AnswersVerify network certificate design s one → AnswersVerify network certificate design t other
    → AreOne s t one other
verify_once network certificate design s t one other =
    result_once (network_of network) _ _ _ _ (AreOne s t one other)
    (λ net. certificate_once net certificate design s t one other) (λ fault. says_once _ _ s t one other)
