-- A sink in memory, from its fields.
use Rattle.std.specs.Prelude.{◌≤◌, vec_len, vec_capacity}
use Rattle.duct_ports.specs.declared.memory_sink.MemorySink.TheInside.{Inside}
use Rattle.duct_ports.specs.Memory.{SinkInMemory}

-- what the fields of a sink in memory stand for
abbrev pub seen : Inside → SinkInMemory
seen inside =
    record {
      taken = inside.taken.items;
      room = inside.room;
      most = inside.most;
      calls = inside.calls;
      faults = inside.faults;
    }

-- all room is reserved when the sink is made, so that a write takes no memory
pub record HasRoom (inside : Inside) : Type 0 where
  pub within : vec_len inside.taken ≤ inside.room
  pub reserved : inside.room ≤ vec_capacity inside.taken
  pub moves : 1 ≤ inside.most
