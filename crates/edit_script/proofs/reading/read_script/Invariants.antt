use Rattle.std.proofs.Common.{◌≡◌, ◌++◌, length}
use Rattle.std.specs.List.{AllByRecursion}
use Rattle.edit_script.specs.Scripts.{IsScriptLine, script_text}
use Rattle.edit_script.proofs.reading.read_script.Given as goal

-- the bytes begin with the lines so far
abbrev pub invariant-loop-rest : goal.invariant-loop-rest
invariant-loop-rest l = record {
  in_range : AllByRecursion IsScriptLine l.lines.items;
  spelled : l.bytes ≡ script_text l.lines.items ++ l.rest;
}

abbrev pub decreases-loop-rest : goal.decreases-loop-rest
decreases-loop-rest l = length l.rest
