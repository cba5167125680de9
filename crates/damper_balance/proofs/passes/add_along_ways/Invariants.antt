use Rattle.std.specs.Prelude.{slice_index}
use Rattle.damper_balance.specs.SectionNumbers.{sum_on_way}
use Rattle.damper_balance.proofs.NumberLists.{IsWrittenTo}
use Rattle.damper_balance.proofs.passes.add_along_ways.Given as goal

abbrev pub invariant-loop-s : goal.invariant-loop-s
invariant-loop-s l = IsWrittenTo l.tree (sum_on_way l.tree l.fn.numbers) (λ s. slice_index l.fn.numbers s) l.s l.numbers
