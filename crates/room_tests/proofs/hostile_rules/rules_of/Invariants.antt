use Rattle.std.proofs.Common.{◌≡◌, ◌≤◌, ℕ, length, map}
use Rattle.std.specs.Prelude.{slice_index}
use Rattle.design_rules.specs.declared.limits.TheConstants.{MAX_RULES}
use Rattle.room_tests.proofs.hostile_rules.rules_of.Given as goal

abbrev pub invariant-rules : goal.invariant-rules
invariant-rules l =
    (length l.rules.items ≤ MAX_RULES)
    × ((i : ℕ) → slice_index (map (λ rule. rule.refused) l.rules.items) i ≡ 0)
