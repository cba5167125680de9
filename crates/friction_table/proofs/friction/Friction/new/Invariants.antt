use Rattle.std.proofs.Common.{◌≡◌, [], replicate}
use Rattle.friction_table.proofs.friction.Friction.new.Given as goal

abbrev pub invariant-loop : goal.invariant-loop
invariant-loop l = l.tables.items ≡ replicate l.counter []
