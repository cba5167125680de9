use Rattle.std.proofs.Common.{◌≡◌, ◌++◌}
use Rattle.std.specs.Vec.Iter.{into_iter_items}
use Rattle.exact_certificate.proofs.collecting.add_section.Given as goal

abbrev pub invariant-loop-front : goal.invariant-loop-front
invariant-loop-front l = record {
  added : l.c.fronts ≡ l.fn.c.fronts ++ l.yielded;
  total : l.c.total ≡ l.fn.c.total;
  all : l.yielded ++ into_iter_items l.front-iterator ≡ into_iter_items l.initial.front-iterator;
}
