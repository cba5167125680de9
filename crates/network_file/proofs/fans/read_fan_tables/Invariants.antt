use Rattle.std.proofs.Common.{◌≡◌, ◌≤◌, map, length, take}
use Rattle.duct_definitions.specs.declared.limits.TheConstants.{MAX_FANS}
use Rattle.toml_fields.specs.ArrayItems.{tables_in}
use Rattle.network_file.specs.FanTables.{fan_rules, fan_of, fan_names}
use Rattle.section_tables.proofs.StepLaws.{HoldBefore}
use Rattle.network_file.proofs.fans.read_fan_tables.Given as goal

abbrev pub invariant-loop-i : goal.invariant-loop-i
invariant-loop-i l = record {
  end : l.i-end ≡ length (tables_in l.tables);
  few : length (tables_in l.tables) ≤ MAX_FANS;
  rules : HoldBefore fan_rules (tables_in l.tables) l.i;
  names : l.names ≡ fan_names (take l.i (tables_in l.tables));
  fans : l.fans.items ≡ map fan_of (take l.i (tables_in l.tables));
}
