use Rattle.std.proofs.Common.{◌≡◌, ◌<◌, ◌+◌, get_or, arith}
use Rattle.std.specs.Prelude.{slice_index}
use Rattle.duct_definitions.specs.Tree.{section_count}
use Rattle.damper_balance.specs.SectionNumbers.{sum_on_way}
use Rattle.damper_balance.proofs.NumberLists.{written-up}
use Rattle.damper_balance.proofs.PassLemmas.{next_sum}
use Rattle.damper_balance.proofs.passes.add_along_ways.Goals as goal
use Rattle.damper_balance.proofs.passes.add_along_ways.Goals.{After-number_beside}

within : (c : After-number_beside) → c.loop-s.s < section_count c.args.tree.now
within c = omega arith

is_next : (c : After-number_beside)
    → get_or c.loop-s.numbers c.loop-s.s 0 + c.number_beside.result
    ≡ sum_on_way c.args.tree.now c.args.numbers.now c.loop-s.s
is_next c =
    next_sum c.args.tree.now c.args.numbers.now c.loop-s.numbers c.loop-s.s c.number_beside.result
    c.len-s-end.ensures.tree (within c) c.loop-s.invariant c.number_beside.ensures

pub overflow_add-numbers : goal.overflow_add-numbers
overflow_add-numbers c =
    let before = (goal.at.overflow_add-numbers c).After-number_beside in
    let is = is_next before in
    let fits = c.requires.fits c.loop-s.s (within before) in
    omega arith

pub loop-s-preserved : goal.loop-s-preserved
loop-s-preserved c =
    let before = (goal.at.loop-s-preserved c).After-number_beside in
    written-up c.args.tree.now (sum_on_way c.args.tree.now c.args.numbers.now) (λ s. slice_index c.args.numbers.now s)
    c.loop-s.s c.loop-s.numbers (get_or c.loop-s.numbers c.loop-s.s 0 + c.number_beside.result) (within before)
    c.loop-s.invariant (is_next before)
