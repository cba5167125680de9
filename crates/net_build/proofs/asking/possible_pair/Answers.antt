use Rattle.net_build.proofs.PairLaws.{possible-is}
use Rattle.std.proofs.Common.{◌≡◌, rules}
use Rattle.section_loss.specs.Loss.{together_of}
use Rattle.net_build.proofs.asking.possible_pair.Goals as goal

pub returns-clause-value : goal.returns-clause-value
returns-clause-value c =
    let sums : c.together.result ≡ together_of c.in_ok-own.own c.junction_loss-junction.result = search rules in
    possible-is c.args.catalogues.now c.args.section.now c.args.g c.args.size.now c.in_ok-own.own c.junction_loss-junction.result c.together.result c.price_beside.result c.beside_at-beside.result c.requires.size c.in_ok-own.was
    c.beside_at-beside.ensures.value c.junction_loss-junction.ensures.value sums c.price_beside.ensures.value
