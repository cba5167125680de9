use Rattle.std.proofs.Common.{◌≡◌, take}
use Rattle.room_tests.proofs.certificates.fans_of.Given as goal

abbrev pub invariant-loop-i : goal.invariant-loop-i
invariant-loop-i l = l.fans.items ≡ take l.i l.net.fans
