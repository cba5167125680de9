use Rattle.std.specs.Prelude.{slice_index}
use Rattle.damper_balance.proofs.NumberLists.{IsWrittenTo}
use Rattle.damper_balance.proofs.PassLemmas.{less_beside}
use Rattle.damper_balance.proofs.passes.less_neighbours.Given as goal

abbrev pub invariant-loop-s : goal.invariant-loop-s
invariant-loop-s l = IsWrittenTo l.tree (λ s. slice_index l.fn.numbers s) (less_beside l.tree l.fn.numbers) l.s
    l.numbers
