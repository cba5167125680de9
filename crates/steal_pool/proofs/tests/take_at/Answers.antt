use Rattle.std.proofs.Common.{ap, ◌∙◌}
use Rattle.std.proofs.Math.Seq.{map-set_same}
use Rattle.steal_pool.specs.Hands.{fixed_of}
use Rattle.steal_pool.proofs.tests.take_at.Goals as goal

pub returns-clause-fixed : goal.returns-clause-fixed
returns-clause-fixed c =
    map-set_same fixed_of c.args.hands.now.items c.args.k c.take.new.self c.index_mut.result.now
    (c.take.ensures.kept ∙ ap fixed_of c.index_mut.ensures.value)
