use Rattle.std.proofs.Common.{rules}
use Rattle.std.specs.Prelude.{option_map}
use Rattle.duct_cli.proofs.CertifyingLaws.{refused_certificate}
use Rattle.duct_cli.proofs.certifying.answer_certificate.Goals as goal

pub returns-in-Err-Refused-clause-answer : goal.returns-in-Err-Refused-clause-answer
returns-in-Err-Refused-clause-answer c =
    refused_certificate c.args.net.now c.args.bytes.now (option_map (λ b. b.now) c.args.design) c.in-Err-Refused.fault
    c.refused.result (search rules) c.refused.ensures
