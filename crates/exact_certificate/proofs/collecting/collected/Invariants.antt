use Rattle.std.proofs.Common.{◌≡◌, ◌++◌}
use Rattle.std.specs.Prelude.{All}
use Rattle.std.specs.Vec.Iter.{into_iter_items}
use Rattle.contract_join.specs.SectionFronts.{AreExact}
use Rattle.exact_certificate.specs.Exact.{collected}
use Rattle.exact_certificate.proofs.collecting.collected.Given as goal

abbrev pub invariant-loop-section : goal.invariant-loop-section
invariant-loop-section l = record {
  total : l.c.total ≡ l.fn.total;
  fronts : l.c.fronts ≡ collected l.yielded;
  exact : All (λ entry. AreExact entry.net entry.section entry.fronts) l.yielded;
  all : l.yielded ++ into_iter_items l.section-iterator ≡ into_iter_items l.initial.section-iterator;
}
