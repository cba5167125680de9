use Rattle.std.proofs.Common.{◌≡◌, filter}
use Rattle.std.specs.List.{range_with_len}
use Rattle.project_edit.specs.Touched.{is_touched}
use Rattle.project_edit.proofs.touching.touched.Given as goal

-- the touched ones so far
abbrev pub invariant-loop-s : goal.invariant-loop-s
invariant-loop-s l = l.sections.items ≡ filter (is_touched l.tree l.edit l.is_cap_kept) (range_with_len 0 l.s)
