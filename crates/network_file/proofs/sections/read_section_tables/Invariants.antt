use Rattle.std.proofs.Common.{◌≡◌, ◌≤◌, map, length, take}
use Rattle.duct_definitions.specs.declared.limits.TheConstants.{MAX_SECTIONS}
use Rattle.toml_fields.specs.ArrayItems.{tables_in}
use Rattle.network_file.specs.SectionTables.{section_rules, entry_of, table_names}
use Rattle.network_file.specs.TableEntries.{section_entry}
use Rattle.section_tables.proofs.StepLaws.{HoldBefore}
use Rattle.network_file.proofs.sections.read_section_tables.Given as goal

abbrev pub invariant-loop-i : goal.invariant-loop-i
invariant-loop-i l = record {
  end : l.i-end ≡ length (tables_in l.tables);
  few : length (tables_in l.tables) ≤ MAX_SECTIONS;
  rules : HoldBefore section_rules (tables_in l.tables) l.i;
  names : l.names ≡ table_names (take l.i (tables_in l.tables));
  sections : map section_entry l.sections.items ≡ map entry_of (take l.i (tables_in l.tables));
}
