use Rattle.std.proofs.Common.{◌≡◌, map}
use Rattle.std.specs.List.{range_with_len}
use Rattle.duct_load.specs.Made.{names_with}
use Rattle.duct_load.proofs.making.all_sizes.Given as goal

-- the size names of the sections so far
abbrev pub invariant-loop-section : goal.invariant-loop-section
invariant-loop-section l = l.sizes.items ≡ map (λ i. names_with 107 8) (range_with_len 0 l._section)
