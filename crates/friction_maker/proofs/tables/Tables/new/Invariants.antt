use Rattle.std.proofs.Common.{◌≡◌, [], replicate}
use Rattle.friction_maker.proofs.tables.Tables.new.Given as goal

abbrev pub invariant-loop : goal.invariant-loop
invariant-loop l = l.tables.items ≡ replicate l.counter []
