-- Tables as they are held.
use Rattle.fitting_tables.specs.declared.fittings.Fittings.TheInside.{Inside}
use Rattle.fitting_tables.specs.Fittings.{Tables, IsFittings}

-- the names and the cells of each table
abbrev pub tables_of : Inside → Tables
tables_of fittings = record { names = fittings.names; grids = fittings.grids.items }

-- they meet their limits and bounds
abbrev pub IsHeld : Inside → Type 0
IsHeld fittings = IsFittings (tables_of fittings)
