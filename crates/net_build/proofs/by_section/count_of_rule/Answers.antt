use Rattle.std.proofs.Common.{ap, ◌∙◌, subst, sym, arith}
use Rattle.net_build.specs.Refusals.{count_of, CountsWithin}
use Rattle.net_build.proofs.TogetherLaws.{sum-most}
use Rattle.net_build.proofs.by_section.count_of_rule.Goals as goal

pub overflow_add-count : goal.overflow_add-count
overflow_add-count c =
    let v = c.loop-section.invariant in
    let before = sum-most (count_of c.args.i) 576 (CountsWithin 576) c.args.sections.now c.loop-section.section-index c.requires.most (λ counts within. within c.args.i) in
    let few = c.requires.sections in
    let most = subst (CountsWithin 576) (sym c.section-item.is) (c.requires.most c.loop-section.section-index c.section-item.result (omega arith)) c.args.i in
    let is = c.count_in-count.ensures ∙ ap (count_of c.args.i) c.as_slice.ensures in
    omega arith
