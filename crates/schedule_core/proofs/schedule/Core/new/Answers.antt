use Rattle.std.proofs.Common.{◌∙◌, ap, replicate, false}
use Rattle.schedule_core.proofs.Steps.{own_start}
use Rattle.schedule_core.proofs.schedule.Core.new.Goals as goal

pub returns-clause-own : goal.returns-clause-own
returns-clause-own c =
    let marks = c.in_ok-vec.ensures.items_if_clones_equal (λ y same. same) ∙ ap (λ n. replicate n false) c.len-count.ensures.value in
    rw (c.in_ok-with_capacity.ensures.items, c.in_ok-with_capacity-2.ensures.items)
    (own_start c.args.tree.now c.in_ok-first_numbers.field-0.items c.in_ok-vec.field-0.items c.len-count.ensures.tree c.in_ok-first_numbers.ensures marks)
