-- A table that is worked by hand.
use Rattle.std.specs.Prelude.{List, [], ◌∷◌, pos, neg_ℤ}
use Rattle.fitting_tables.specs.declared.row.Cell.{Cell}

-- areas 500 and 1000, flows 250 and 750
abbrev pub four_cells : List Cell
four_cells =
    record { area = 500; flow = 250; value = pos 100 }
    ∷ record { area = 500; flow = 750; value = pos 300 }
    ∷ record { area = 1000; flow = 250; value = pos 200 }
    ∷ record { area = 1000; flow = 750; value = neg_ℤ (pos 101) }
    ∷ []
