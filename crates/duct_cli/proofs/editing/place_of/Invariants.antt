use Rattle.std.proofs.Common.{◌≡◌, None, take}
use Rattle.name_index.specs.Places.{place_of}
use Rattle.duct_cli.proofs.editing.place_of.Given as goal

-- no name so far is this one
abbrev pub invariant-loop-i : goal.invariant-loop-i
invariant-loop-i l = place_of l.name (take l.i l.names) ≡ None
