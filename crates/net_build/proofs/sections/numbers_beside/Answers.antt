use Rattle.std.proofs.Common.{◌<◌, length, All, sym, subst}
use Rattle.net_build.proofs.FactLaws.{within-there}
use Rattle.net_build.proofs.sections.numbers_beside.Goals as goal

pub returns-clause-within : goal.returns-clause-within
returns-clause-within c = within-there c.all_there.result c.as_slice-2.result.now _ c.all_there.ensures (subst (All (λ n. n < length c.args.catalogues.now.sizes.sizes)) (sym c.as_slice-2.ensures) c.in_ok-numbers.ensures.within)
