-- What a clause sees of the two ends of a deque.
use Rattle.std.specs.declared.alloc.Global.{Global}
use Rattle.atomic_blocks.specs.Lent.{RowsId}
use Rattle.crossbeam_deque.specs.Handles.{worker_deque, worker_view, stealer_deque, view}
use Rattle.steal_pool.specs.declared.view.DequeView.{DequeView}
use Rattle.steal_pool.specs.declared.deque.OwnDeque.{OwnDeque}
use Rattle.steal_pool.specs.declared.deque.Reach.{Reach}

-- which deque it is
abbrev pub DequeId : Type 0
DequeId = RowsId × Global

-- which deque the owner's end is of
abbrev pub own_id : OwnDeque → DequeId
own_id own = worker_deque own.worker

-- what the owner knows of it
abbrev pub own_view : OwnDeque → DequeView
own_view own = worker_view own.worker

-- which deque another hand reaches into
abbrev pub reach_id : Reach → DequeId
reach_id reach = stealer_deque reach.stealer

-- what that hand knows of it
abbrev pub reach_view : Reach → DequeView
reach_view reach = view reach.pass
