use Rattle.exact_certificate.proofs.OneCertificate.{certificate-once}
use Rattle.exact_certificate.proofs.laws.exact_certificate_is_one.Goals as goal

pub returns : goal.returns
returns c = certificate-once
