use Rattle.std.proofs.Common.{arith}
use Rattle.std.specs.Prelude.{is_some}
use Rattle.duct_definitions.specs.Network.{pair_at}
use Rattle.duct_load.proofs.RangeLaws.{count_few}
use Rattle.duct_load.proofs.NetworkLaws.{columns_few}
use Rattle.duct_load.proofs.summary.pairs_in_size.Goals as goal

pub returns-clause-few : goal.returns-clause-few
returns-clause-few c =
    let few = columns_few c.args.net.now c.args.s c.requires.network c.requires.section in
    let counted = count_few (λ g. is_some (pair_at c.args.net.now c.args.s c.args.k g)) c.loop-g.g in
    let all = c.columns-g-end.ensures in
    omega arith
