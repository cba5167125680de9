use Rattle.std.proofs.Common.{◌≡◌, ◌+◌, ◌<◌, ℕ, Option, Some, None, IfSome}
use Rattle.duct_definitions.specs.Tree.{section_count}
use Rattle.project_edit.specs.Touched.{is_on_way}
use Rattle.project_edit.proofs.Ways.{passes_from}
use Rattle.project_edit.proofs.touching.is_on_way.Given as goal

-- the rest of the way decides
abbrev pub invariant-loop-at : goal.invariant-loop-at
invariant-loop-at l =
    record {
      rest : is_on_way l.fn.tree l.fn.x l.fn.s ≡ passes_from l.fn.tree l.fn.s l.at;
      within : IfSome l.at (λ y. y < section_count l.fn.tree);
    }

abbrev next : Option ℕ → ℕ
next None = 0
next (Some s) = s + 1

abbrev pub decreases-loop-at : goal.decreases-loop-at
decreases-loop-at l = next l.at
