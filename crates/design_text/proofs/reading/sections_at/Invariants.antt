use Rattle.std.proofs.Common.{◌≡◌, ◌-◌, length}
use Rattle.design_text.specs.Fields.{sections_at}
use Rattle.design_text.proofs.SectionLoop.{prepended}
use Rattle.design_text.proofs.reading.sections_at.Given as goal

abbrev pub invariant-loop : goal.invariant-loop
invariant-loop l = record {
  all : prepended l.sections.items (sections_at (500 - l.counter) l.rest) ≡ sections_at 500 l.fn.bytes;
  count : length l.sections.items ≡ l.counter;
}
