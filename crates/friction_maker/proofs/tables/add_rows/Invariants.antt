use Rattle.std.proofs.Common.{◌≡◌, ◌++◌, map, drop}
use Rattle.friction_maker.specs.MadeRows.{made_row}
use Rattle.friction_maker.proofs.tables.add_rows.Given as goal

-- the rows so far and those of the rates that are left are all the rows
abbrev pub invariant-loop-at : goal.invariant-loop-at
invariant-loop-at l =
    l.fn.rows.items ++ map (λ at. made_row l.size at) l.table ≡ l.rows.items ++ map (λ at. made_row l.size at) (drop l.at-index l.table)
