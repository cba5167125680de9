use Rattle.std.specs.Prelude.{slice_index}
use Rattle.duct_definitions.specs.Designs.{pair_of, loss_of}
use Rattle.damper_balance.proofs.NumberLists.{IsWrittenTo}
use Rattle.design_check.specs.Named.{named}
use Rattle.design_check.proofs.dampers.losses.Given as goal

abbrev pub invariant-loop-s : goal.invariant-loop-s
invariant-loop-s l =
    IsWrittenTo l.net.tree (λ s. loss_of (pair_of l.net (named l.net l.listed) s)) (λ s. slice_index l.fn.numbers s) l.s
    l.numbers
