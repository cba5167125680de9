use Rattle.std.proofs.Common.{length}
use Rattle.edit_session.proofs.Fronts.{AreKeptTo}
use Rattle.edit_session.proofs.condensing.released.Given as goal

-- the fronts so far
abbrev pub invariant-loop-front : goal.invariant-loop-front
invariant-loop-front l = AreKeptTo l.net (length l.yielded) l.kept.items
