use Rattle.std.proofs.Common.{sym, ◌∙◌, map}
use Rattle.net_build.proofs.PairLaws.{as_pair, added-without}
use Rattle.net_build.proofs.asking.pair_beside.Goals as goal

pub returns-then-not-has_friction-clause-refusals : goal.returns-then-not-has_friction-clause-refusals
returns-then-not-has_friction-clause-refusals g c =
    added-without c.args.catalogues.now (map g.R.SizeRule.allows c.args.rules.now.items) c.args.section.now (as_pair c.args.size.now.place c.args.g) c.args.refusals.now.items
    (sym c.has_friction.ensures ∙ c.if-not-has_friction.true)
