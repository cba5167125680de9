use Rattle.std.proofs.Common.{◌∙◌, sym, ap, take, not, rules, List}
use Rattle.toml.specs.View.{table_view}
use Rattle.toml_fields.specs.ArrayItems.{tables_in}
use Rattle.section_tables.specs.TreeSections.{section_names}
use Rattle.section_tables.proofs.NameLaws.{added_is_new}
use Rattle.network_file.specs.SectionTables.{SectionEntry, section_table_rules, entry_of, tree_sections}
use Rattle.network_file.specs.TableEntries.{section_entry}
use Rattle.section_tables.proofs.StepLaws.{read_ok, read_err, own_broken, not_new, in_order, grown, grown_view}
use Rattle.network_file.proofs.PartLaws.{is_new_section, section_twice, entry_names_are}
use Rattle.network_file.proofs.sections.read_section_tables.Goals as goal

pub returns-in-Err-clause-value : goal.returns-in-Err-clause-value
returns-in-Err-clause-value c =
    let broken = own_broken section_table_rules is_new_section section_twice (tables_in c.args.tables.now) c.loop-i.i (table_view c.get.result.now) _ c.loop-i.invariant.rules c.get.ensures (read_err _ _ _ (sym c.in-Err.ensures)) in
    search (rules, broken)

pub returns-then-not-branch-clause-value : goal.returns-then-not-branch-clause-value
returns-then-not-branch-clause-value c =
    let read = read_ok _ _ (section_entry c.in-Ok.section) (sym c.in-Ok.ensures) in
    let old = added_is_new c.in-Ok.section.tree.name _ c.loop-i.names _ _ c.in_ok-add.ensures.value c.loop-i.invariant.names (ap (λ (section : SectionEntry). section.tree.name) read.1) ∙ c.if-not-branch.true in
    let broken = not_new section_table_rules is_new_section section_twice (tables_in c.args.tables.now) c.loop-i.i (table_view c.get.result.now) c.loop-i.invariant.rules c.get.ensures read.0 old in
    search (rules, broken)

pub loop-i-preserved : goal.loop-i-preserved
loop-i-preserved c =
    let read = read_ok _ _ (section_entry c.in-Ok.section) (sym c.in-Ok.ensures) in
    let named = ap (λ (section : SectionEntry). section.tree.name) read.1 in
    let new = added_is_new c.in-Ok.section.tree.name _ c.loop-i.names _ _ c.in_ok-add.ensures.value c.loop-i.invariant.names named ∙ c.if-not-branch.false in
    record {
      end = c.loop-i.invariant.end;
      few = c.loop-i.invariant.few;
      rules = in_order section_table_rules is_new_section section_twice (tables_in c.args.tables.now) c.loop-i.i (table_view c.get.result.now) c.loop-i.invariant.rules c.get.ensures read.0 new;
      names = grown (λ table. (entry_of table).tree.name) (tables_in c.args.tables.now) c.loop-i.i (table_view c.get.result.now) _ _ _ _ c.get.ensures c.in_ok-add.ensures.names c.if-not-branch.false c.loop-i.invariant.names named;
      sections = grown_view section_entry entry_of (tables_in c.args.tables.now) c.loop-i.i (table_view c.get.result.now) _ _ _ c.in-Ok.section c.get.ensures c.push.ensures.items (c.is_err.ensures.negation ∙ ap not c.if-is_err.false) c.loop-i.invariant.sections read.1;
    }

pub returns-clause-names : goal.returns-clause-names
returns-clause-names c = c.loop-i.invariant.names ∙ entry_names_are (take c.loop-i.i (tables_in c.args.tables.now)) ∙ sym (ap (λ (sections : List SectionEntry). section_names (tree_sections sections)) c.loop-i.invariant.sections)
