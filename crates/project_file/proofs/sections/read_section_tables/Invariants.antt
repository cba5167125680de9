use Rattle.std.proofs.Common.{◌≡◌, ◌≤◌, map, length, take}
use Rattle.std.specs.Prelude.{All}
use Rattle.duct_definitions.specs.declared.limits.TheConstants.{MAX_SECTIONS}
use Rattle.toml_fields.specs.ArrayItems.{tables_in}
use Rattle.section_tables.proofs.StepLaws.{HoldBefore}
use Rattle.project_file.specs.Sections.{IsSection}
use Rattle.project_file.specs.SectionTables.{section_rules, section_in, table_names}
use Rattle.project_file.proofs.sections.read_section_tables.Given as goal

abbrev pub invariant-loop-i : goal.invariant-loop-i
invariant-loop-i l = record {
  end : l.i-end ≡ length (tables_in l.tables);
  few : length (tables_in l.tables) ≤ MAX_SECTIONS;
  rules : HoldBefore (section_rules l.format) (tables_in l.tables) l.i;
  names : l.names ≡ table_names (take l.i (tables_in l.tables));
  entries : l.entries.items ≡ map section_in (take l.i (tables_in l.tables));
  bounds : All IsSection l.entries.items;
}
