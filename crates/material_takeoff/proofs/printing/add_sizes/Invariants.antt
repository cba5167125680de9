use Rattle.std.proofs.Common.{◌≡◌, ◌++◌, drop}
use Rattle.std.specs.List.{flat_map}
use Rattle.material_takeoff.specs.TakeOffText.{size_line}
use Rattle.material_takeoff.proofs.printing.add_sizes.Given as goal

-- the text so far and the lines of the sizes that are left are the whole text
abbrev pub invariant-loop-size : goal.invariant-loop-size
invariant-loop-size l =
    l.fn.text ++ flat_map size_line l.sizes ≡ l.text ++ flat_map size_line (drop l.size-index l.sizes)
