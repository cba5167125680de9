use Rattle.std.proofs.Common.{length}
use Rattle.size_catalogue.proofs.ReadingLaws.{MadeSizes}
use Rattle.size_catalogue.proofs.reading.read_sizes.Given as goal

abbrev pub invariant-loop-sizes : goal.invariant-loop-sizes
invariant-loop-sizes l = MadeSizes l.bytes l.rows l.sizes

abbrev pub decreases-loop-sizes : goal.decreases-loop-sizes
decreases-loop-sizes l = length l.rows.left
