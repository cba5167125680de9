use Rattle.std.proofs.Common.{◌≡◌, ℕ, length}
use mathlib.Core.Option.{some}
use lib.ListN.{get_elem?}
use Rattle.steal_pool.specs.Hands.{HandView}
use Rattle.steal_pool.specs.Deals.{Starts}
use Rattle.steal_pool.specs.Dealing.{IsAlone}
use Rattle.steal_pool.proofs.dealing.start_all.Given as goal

abbrev pub invariant-loop-i : goal.invariant-loop-i
invariant-loop-i l = record {
  count : length l.hands.items ≡ l.i;
  alone : (x : ℕ) (h : HandView) → get_elem? l.hands.items x ≡ some h → IsAlone h;
  starts : (x : ℕ) (h : HandView) → get_elem? l.hands.items x ≡ some h → Starts l.tasks l.n x h;
}
