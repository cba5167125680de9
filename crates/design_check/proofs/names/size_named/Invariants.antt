use Rattle.std.specs.Str.{bytes_eq}
use Rattle.duct_definitions.specs.Network.{size_name, size_count}
use Rattle.design_check.proofs.NumberSearch.{NotBelow}
use Rattle.design_check.proofs.names.size_named.Given as goal

abbrev pub invariant-loop-k : goal.invariant-loop-k
invariant-loop-k l = NotBelow (λ k. bytes_eq (size_name l.net l.s k) l.name) (size_count l.net l.s) l.k
