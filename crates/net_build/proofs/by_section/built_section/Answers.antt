use Rattle.std.proofs.Common.{map, ap, refl, ◌∙◌, sym}
use Rattle.net_build.specs.Asking.{added}
use Rattle.net_build.specs.Pairs.{size_pairs}
use Rattle.net_build.specs.Refusals.{refused_among}
use Rattle.net_build.proofs.NetworkLaws.{none-space}
use Rattle.net_build.proofs.TogetherLaws.{counted-from, refusals-within}
use Rattle.net_build.proofs.by_section.built_section.Goals as goal

pub section_pairs-requires-clause-space : goal.section_pairs-requires-clause-space
section_pairs-requires-clause-space g c i = none-space _ c.in_ok-refusals.refusals.items _ c.in_ok-refusals.ensures i

pub returns-clause-refusals : goal.returns-clause-refusals
returns-clause-refusals g c =
    let by = refused_among c.args.catalogues.now (map g.R.SizeRule.allows c.args.rules.now.items) c.args.section.now (size_pairs c.args.section.now) in
    c.from_vec.ensures ∙ c.in_ok-pairs.ensures.refusals ∙ ap (added by) c.in_ok-refusals.ensures
    ∙ counted-from by by 0 (map g.R.SizeRule.label c.args.rules.now.items) (λ i. refl)

pub returns-clause-most : goal.returns-clause-most
returns-clause-most g c = refusals-within c.args.catalogues.now (map g.R.SizeRule.allows c.args.rules.now.items) (map g.R.SizeRule.label c.args.rules.now.items) c.args.section.now _ c.requires.open (returns-clause-refusals g c)
