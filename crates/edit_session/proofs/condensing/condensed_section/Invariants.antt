use Rattle.std.proofs.Common.{◌≡◌}
use Rattle.edit_session.proofs.condensing.condensed_section.Given as goal

-- the children so far are added
abbrev pub invariant-loop-i : goal.invariant-loop-i
invariant-loop-i l = l.join ≡ record { net = l.net; section = l.s; added = l.i }
