use Rattle.std.proofs.Common.{◌≡◌, ◌++◌, drop}
use Rattle.std.specs.List.{flat_map}
use Rattle.friction_maker.specs.RowsText.{row_line}
use Rattle.friction_maker.proofs.text.add_rows.Given as goal

-- the text so far and the lines of the rows that are left are the whole text
abbrev pub invariant-loop-row : goal.invariant-loop-row
invariant-loop-row l =
    l.fn.text ++ flat_map (row_line l.sizes) l.rows ≡ l.text ++ flat_map (row_line l.sizes) (drop l.row-index l.rows)
