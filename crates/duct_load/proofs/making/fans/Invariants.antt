use Rattle.std.proofs.Common.{◌≡◌, map}
use Rattle.std.specs.List.{range_with_len}
use Rattle.duct_load.specs.Made.{fan_of}
use Rattle.duct_load.proofs.making.fans.Given as goal

-- the fans so far
abbrev pub invariant-loop-j : goal.invariant-loop-j
invariant-loop-j l = l.fans.items ≡ map fan_of (range_with_len 0 l.j)
