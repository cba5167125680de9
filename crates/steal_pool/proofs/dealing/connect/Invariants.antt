use Rattle.std.proofs.Common.{◌≡◌, length}
use Rattle.steal_pool.proofs.Connecting.{Connecting}
use Rattle.steal_pool.proofs.dealing.connect.Given as goal

abbrev pub invariant-loop-i : goal.invariant-loop-i
invariant-loop-i l = (length l.fn.hands.items ≡ l.count) × Connecting l.i 0 l.fn.hands.items l.hands.items

abbrev pub invariant-loop-j : goal.invariant-loop-j
invariant-loop-j l = (length l.fn.hands.items ≡ l.count) × Connecting l.i l.j l.fn.hands.items l.hands.items
