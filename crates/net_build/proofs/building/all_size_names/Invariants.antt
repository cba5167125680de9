use Rattle.std.proofs.Common.{◌≡◌, map, take}
use Rattle.net_build.specs.Built.{names_of_numbers}
use Rattle.net_build.proofs.building.all_size_names.Given as goal

-- the names so far
abbrev pub invariant-loop-section : goal.invariant-loop-section
invariant-loop-section l = l.names.items ≡ map (λ section. names_of_numbers l.catalogues section.numbers) (take l.section-index l.sections)
