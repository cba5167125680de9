use Rattle.std.proofs.Common.{◌≡◌}
use Rattle.friction_maker.specs.Making.{made_table}
use Rattle.friction_maker.proofs.making.made_table.Given as goal

abbrev pub invariant-loop-j : goal.invariant-loop-j
invariant-loop-j l = l.table.items ≡ made_table l.duct l.air l.flow l.j
