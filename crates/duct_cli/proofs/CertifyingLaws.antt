-- The line of a refused certificate is the answer.
use Rattle.std.proofs.Common.{◌≡◌, ℕ, inr, List, Option, Result, Ok, Err}
use Rattle.std.specs.Prelude.{IfOk}
use Rattle.duct_units.specs.declared.fault.Fault.{Fault}
use Rattle.duct_units.specs.declared.fault.NoMemory.{NoMemory}
use Rattle.duct_units.specs.declared.fault.ReadError.TheVariants.{Refused}
use Rattle.duct_definitions.specs.Network.{Network}
use Rattle.front_certificate.specs.Reading.{IsRefusal}
use Rattle.command_words.specs.RefusalText.{refusal_line}
use Rattle.command_words.specs.declared.commands.FileKind.TheVariants.{Certificate as certificate_file}
use Rattle.duct_cli.specs.declared.answers.Answer.{Answer}
use Rattle.duct_cli.specs.declared.status.TheConstants.{REFUSED}
use Rattle.duct_cli.specs.Certifying.{AnswersCertificate}

pub refused_certificate : (net : Network) (bytes : List ℕ) (design : Option (List ℕ)) (fault : Fault) (answer : Result Answer NoMemory)
    → IsRefusal net bytes (Refused fault) → IfOk answer (λ a. (a.status ≡ REFUSED) × (a.text ≡ refusal_line certificate_file fault))
    → IfOk answer (λ a. AnswersCertificate net bytes design a.status a.text)
refused_certificate net bytes design fault (Ok a) refusal says = inr (fault, refusal, says)
refused_certificate net bytes design fault (Err error) refusal says = tt
