use Rattle.std.proofs.Common.{◌≡◌, ◌<◌, ◌-◌, ◌+◌, ℕ, arith}
use Rattle.duct_definitions.specs.Tree.{section_count}
use Rattle.damper_balance.proofs.PassLemmas.{next_less}
use Rattle.damper_balance.proofs.passes.less_neighbours.Goals as goal

pub loop-s-preserved : goal.loop-s-preserved
loop-s-preserved c =
    let t = c.args.tree.now in
    let s : ℕ = c.loop-s.s - 1 in
    let within : s < section_count t = omega arith in
    let next : c.loop-s.s ≡ s + 1 = omega arith in
    next_less t c.args.numbers.now c.loop-s.numbers c.loop-s.s s c.number_beside.result c.len-s.ensures.tree within
    next
    c.loop-s.invariant c.number_beside.ensures
