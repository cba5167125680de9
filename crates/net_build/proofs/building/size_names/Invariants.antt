use Rattle.std.proofs.Common.{◌≡◌, take}
use Rattle.net_build.specs.Built.{names_of_numbers}
use Rattle.net_build.proofs.building.size_names.Given as goal

-- the names so far
abbrev pub invariant-loop-number : goal.invariant-loop-number
invariant-loop-number l = l.names.items ≡ names_of_numbers l.catalogues (take l.number-index l.numbers)
