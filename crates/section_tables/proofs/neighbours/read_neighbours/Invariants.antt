use Rattle.std.proofs.Common.{◌≡◌, length, map, take}
use Rattle.section_tables.specs.Neighbours.{neighbour_rules, neighbour_of}
use Rattle.section_tables.proofs.StepLaws.{HoldBefore}
use Rattle.section_tables.proofs.neighbours.read_neighbours.Given as goal

abbrev pub invariant-loop-i : goal.invariant-loop-i
invariant-loop-i l = record {
  end : l.i-end ≡ length l.sections;
  rules : HoldBefore (neighbour_rules l.sections) l.sections l.i;
  neighbours : l.neighbours.items ≡ map (neighbour_of l.sections) (take l.i l.sections);
}
