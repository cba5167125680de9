use Rattle.std.proofs.Common.{◌≡◌, map}
use Rattle.std.specs.List.{range_with_len}
use Rattle.duct_definitions.specs.DesignText.{listed_section}
use Rattle.design_text.proofs.listing.listed_sections.Given as goal

abbrev pub invariant-loop-s : goal.invariant-loop-s
invariant-loop-s l = l.lines.items ≡ map (listed_section l.net l.d) (range_with_len 0 l.s)
