-- The fields of a core: what they show, and the room for all that is to come.
use Rattle.std.specs.Prelude.{◌≤◌, length}
use Rattle.std.specs.Vec.{vec_capacity}
use Rattle.schedule_core.specs.declared.schedule.Core.TheInside.{Inside}
use Rattle.schedule_core.specs.CoreData.{CoreData}

-- the state, the numbers and the marks
abbrev pub data_of : Inside → CoreData
data_of a = record {
  state = record { claimed = a.claimed.items; done = a.done.items };
  numbers = a.numbers.items;
  marks = a.marks.items;
}

-- each list has room for all sections
pub record HasRoom (a : Inside) : Type 0 where
  pub claimed : length a.numbers.items ≤ vec_capacity a.claimed
  pub done : length a.numbers.items ≤ vec_capacity a.done
