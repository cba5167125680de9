use Rattle.std.proofs.Common.{◌≡◌, ◌++◌, drop}
use Rattle.std.specs.List.{flat_map}
use Rattle.material_takeoff.specs.TakeOffText.{section_line}
use Rattle.material_takeoff.proofs.printing.add_sections.Given as goal

-- the text so far and the lines of the sections that are left are the whole text
abbrev pub invariant-loop-section : goal.invariant-loop-section
invariant-loop-section l =
    l.fn.text ++ flat_map section_line l.sections ≡ l.text ++ flat_map section_line (drop l.section-index l.sections)
