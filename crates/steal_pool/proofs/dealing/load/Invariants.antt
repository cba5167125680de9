use Rattle.std.proofs.Common.{◌≡◌, take, []}
use Rattle.steal_pool.specs.Rule.{deque_view, all_parts}
use Rattle.steal_pool.specs.Ends.{own_view}
use Rattle.steal_pool.proofs.dealing.load.Given as goal

abbrev pub invariant-loop-task : goal.invariant-loop-task
invariant-loop-task l = own_view l.own ≡ deque_view all_parts [] (take l.task-index l.tasks)
