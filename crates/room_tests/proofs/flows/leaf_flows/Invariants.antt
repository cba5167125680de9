use Rattle.std.proofs.Common.{◌≤◌}
use Rattle.std.specs.Prelude.{All, IfSome}
use Rattle.duct_definitions.specs.declared.airflow.TheConstants.{MAX_FLOW}
use Rattle.room_tests.proofs.flows.leaf_flows.Given as goal

abbrev pub invariant-loop-word : goal.invariant-loop-word
invariant-loop-word l = All (λ given. IfSome given (λ q. q ≤ MAX_FLOW)) l.flows.items
