use Rattle.std.proofs.Common.{◌≡◌, ◌++◌, drop}
use Rattle.friction_maker.specs.MadeRows.{listed, listed_from}
use Rattle.friction_maker.proofs.tables.Tables.rows.Given as goal

-- the rows so far and those of the tables that are left are all the rows
abbrev pub invariant-loop-size : goal.invariant-loop-size
invariant-loop-size l = listed l.self ≡ l.rows.items ++ listed_from l.size (drop l.size l.self)
