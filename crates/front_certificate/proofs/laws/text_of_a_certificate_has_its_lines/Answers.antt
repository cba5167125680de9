use Rattle.front_certificate.proofs.LineReading.{text-begins}
use Rattle.front_certificate.proofs.laws.text_of_a_certificate_has_its_lines.Goals as goal

pub returns : goal.returns
returns c net bytes certificate text = text-begins net bytes certificate text
