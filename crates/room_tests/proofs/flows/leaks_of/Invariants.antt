use Rattle.std.proofs.Common.{◌≤◌}
use Rattle.std.specs.Prelude.{All}
use Rattle.duct_definitions.specs.declared.airflow.TheConstants.{MAX_LEAK}
use Rattle.room_tests.proofs.flows.leaks_of.Given as goal

abbrev pub invariant-loop-word : goal.invariant-loop-word
invariant-loop-word l = All (λ leak. leak ≤ MAX_LEAK) l.leaks.items
