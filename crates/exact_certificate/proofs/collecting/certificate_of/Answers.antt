use Rattle.exact_certificate.proofs.Collected.{exact_of}
use Rattle.exact_certificate.proofs.collecting.certificate_of.Goals as goal

pub returns-clause-fronts : goal.returns-clause-fronts
returns-clause-fronts c =
    exact_of c.args.net.now c.args.sections c.requires c.collected.result c.collected.ensures.fronts c.collected.ensures.exact
