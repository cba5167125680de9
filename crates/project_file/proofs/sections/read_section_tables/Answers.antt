use Rattle.std.proofs.Common.{◌∙◌, ◌≤◌, List, length, sym, ap, take, map, not, rules, subst, arith}
use Rattle.std.specs.Prelude.{All}
use Rattle.std.proofs.lemmas.List.{take_all}
use Rattle.toml.specs.View.{table_view}
use Rattle.duct_definitions.specs.Network.{AreNames}
use Rattle.toml_fields.specs.ArrayItems.{tables_in}
use Rattle.section_tables.specs.TreeSections.{section_names}
use Rattle.section_tables.proofs.NameLaws.{added_is_new}
use Rattle.section_tables.proofs.StepLaws.{read_ok, read_err, own_broken, not_new, in_order, all_in_order, grown, all_grown}
use Rattle.project_file.specs.declared.section_table.SectionTable.{SectionTable}
use Rattle.project_file.specs.SectionTables.{section_in, section_rules, section_table_rules}
use Rattle.project_file.specs.Sections.{IsSection, tree_sections}
use Rattle.project_file.proofs.PartLaws.{is_new_section, section_twice, table_names_are}
use Rattle.project_file.proofs.ValidLaws.{names_apart}
use Rattle.project_file.proofs.sections.read_section_tables.Goals as goal

pub returns-in_err-section-clause-value : goal.returns-in_err-section-clause-value
returns-in_err-section-clause-value c =
    let broken = own_broken (section_table_rules c.args.format) is_new_section section_twice (tables_in c.args.tables.now) c.loop-i.i (table_view c.get.result.now) _ c.loop-i.invariant.rules c.get.ensures
    (read_err _ _ _ c.in_err-section.ensures.value) in
    search (rules, broken)

pub returns-then-not-branch-clause-value : goal.returns-then-not-branch-clause-value
returns-then-not-branch-clause-value c =
    let read = read_ok _ _ c.in_ok-section.section c.in_ok-section.ensures.value in
    let old = added_is_new c.in_ok-section.section.name _ c.loop-i.names _ _ c.in_ok-add.ensures.value c.loop-i.invariant.names (ap (λ (section : SectionTable). section.name) read.1) ∙ c.if-not-branch.true in
    let broken = not_new (section_table_rules c.args.format) is_new_section section_twice (tables_in c.args.tables.now) c.loop-i.i (table_view c.get.result.now) c.loop-i.invariant.rules c.get.ensures read.0 old in
    search (rules, broken)

pub loop-i-preserved : goal.loop-i-preserved
loop-i-preserved c =
    let tables = tables_in c.args.tables.now in
    let table = table_view c.get.result.now in
    let read = read_ok _ _ c.in_ok-section.section c.in_ok-section.ensures.value in
    let named = ap (λ (section : SectionTable). section.name) read.1 in
    let new = added_is_new c.in_ok-section.section.name _ c.loop-i.names _ _ c.in_ok-add.ensures.value c.loop-i.invariant.names named ∙ c.if-not-branch.false in
    let pushed = c.is_err.ensures.negation ∙ ap not c.if-is_err.false in
    record {
      end = c.loop-i.invariant.end;
      few = c.loop-i.invariant.few;
      rules = in_order (section_table_rules c.args.format) is_new_section section_twice tables c.loop-i.i table c.loop-i.invariant.rules c.get.ensures read.0 new;
      names = grown (λ table. (section_in table).name) tables c.loop-i.i table _ _ _ _ c.get.ensures c.in_ok-add.ensures.names c.if-not-branch.false c.loop-i.invariant.names named;
      entries = grown section_in tables c.loop-i.i table _ _ _ _ c.get.ensures c.push.ensures.items pushed c.loop-i.invariant.entries read.1;
      bounds = all_grown IsSection _ _ _ _ c.push.ensures.items pushed c.loop-i.invariant.bounds c.in_ok-section.ensures.bounds;
    }

pub returns-clause-names : goal.returns-clause-names
returns-clause-names c =
    c.loop-i.invariant.names ∙ table_names_are (take c.loop-i.i (tables_in c.args.tables.now)) ∙ sym (ap (λ (sections : List SectionTable). section_names (tree_sections sections)) c.loop-i.invariant.entries)

pub returns-clause-apart : goal.returns-clause-apart
returns-clause-apart c =
    let tables = tables_in c.args.tables.now in
    let past : length tables ≤ c.loop-i.i = omega arith in
    let none = all_in_order (section_rules c.args.format) tables c.loop-i.i c.loop-i.invariant.rules past in
    let whole = c.loop-i.invariant.entries ∙ ap (map section_in) (take_all c.loop-i.i tables past) in
    subst (λ (ss : List SectionTable). AreNames (section_names (tree_sections ss))) (sym whole) (names_apart c.args.format tables none (subst (λ (ss : List SectionTable). All IsSection ss) whole c.loop-i.invariant.bounds))
