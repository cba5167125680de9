use Rattle.std.proofs.Common.{◌≡◌}
use Rattle.duct_load.specs.Made.{names_with}
use Rattle.duct_load.proofs.making.names_with.Given as goal

-- the names so far
abbrev pub invariant-loop-i : goal.invariant-loop-i
invariant-loop-i l = l.names.items ≡ names_with l.letter l.i
