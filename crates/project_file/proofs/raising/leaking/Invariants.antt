use Rattle.std.proofs.Common.{◌≡◌, length, map, take}
use Rattle.toml.specs.View.{view}
use Rattle.project_file.specs.Raised.{with_leak}
use Rattle.project_file.proofs.raising.leaking.Given as goal

abbrev pub invariant-loop-i : goal.invariant-loop-i
invariant-loop-i l = record {
  end : l.i-end ≡ length l.sections;
  raised : map view l.raised.items ≡ map with_leak (take l.i (map view l.sections));
}
