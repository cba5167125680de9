use Rattle.std.proofs.Common.{length}
use Rattle.std.specs.Str.{bytes_eq}
use Rattle.design_check.specs.Named.{fan_of}
use Rattle.design_check.proofs.NumberSearch.{NotBelow}
use Rattle.design_check.proofs.fans.fan_named.Given as goal

abbrev pub invariant-loop-i : goal.invariant-loop-i
invariant-loop-i l = NotBelow (λ i. bytes_eq (fan_of l.net.fans i).name l.name) (length l.net.fans) l.i
