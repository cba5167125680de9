use Rattle.std.proofs.Common.{◌∙◌, ap, map, rules, sym, Ok}
use Rattle.toml.specs.View.{table_view}
use Rattle.duct_units.specs.declared.fault.ReadError.TheVariants.{Refused}
use Rattle.duct_definitions.specs.Network.{Network}
use Rattle.section_tables.proofs.StepLaws.{read_err}
use Rattle.network_file.specs.TableEntries.{top_entry, section_entry, section_entries}
use Rattle.network_file.proofs.OrderLaws.{fails_at_top, fails_at_fans, fails_at_sections, fails_at_tree, fails_at_sizes_and_pairs, is_tree_read}
use Rattle.network_file.proofs.ReadLaws.{network_read}
use Rattle.network_file.proofs.reading.network_in.Goals as goal

pub returns-in-Err : goal.returns-in-Err
returns-in-Err c = fails_at_top (Refused c.in-Err.fault) (table_view c.args.document.now) (read_err _ _ _ (sym c.in-Err.ensures))

pub returns-in_err-fans : goal.returns-in_err-fans
returns-in_err-fans c =
    let fails = fails_at_fans (table_view c.args.document.now) (top_entry c.in-Ok.top) c.in-Ok.ensures c.in_err-fans.field-0.0 c.in_err-fans.ensures in
    search (rules, fails)

pub returns-in-Err-read_sections : goal.returns-in-Err-read_sections
returns-in-Err-read_sections c =
    fails_at_sections (table_view c.args.document.now) (top_entry c.in-Ok.top) c.in-Ok.ensures c.in_ok-fans.fans c.in_ok-fans.ensures
    c.in-Err-read_sections.error c.in-Err-read_sections.ensures.value

pub returns-in_err-tree : goal.returns-in_err-tree
returns-in_err-tree c =
    let same = ap (map section_entry) c.as_slice-tables.ensures.value in
    let fails = fails_at_tree (table_view c.args.document.now) (top_entry c.in-Ok.top) c.in-Ok.ensures c.in_ok-fans.fans c.in_ok-fans.ensures
    (section_entries c.in-Ok-read_sections.sections) c.in-Ok-read_sections.ensures.value (map section_entry c.as_slice-tables.result.now) same
    c.in_err-tree.field-0.0 c.in_err-tree.ensures in
    search (rules, fails)

pub returns-in_err-lists : goal.returns-in_err-lists
returns-in_err-lists c =
    let same = ap (map section_entry) c.as_slice-tables.ensures.value in
    let fails = fails_at_sizes_and_pairs (table_view c.args.document.now) (top_entry c.in-Ok.top) c.in-Ok.ensures c.in_ok-fans.fans c.in_ok-fans.ensures
    (section_entries c.in-Ok-read_sections.sections) c.in-Ok-read_sections.ensures.value (map section_entry c.as_slice-tables.result.now) same
    c.in_ok-tree.tree c.in_ok-tree.ensures c.in_err-lists.field-0.0 c.in_err-lists.ensures in
    search (rules, fails)

pub new-requires : goal.new-requires
new-requires c =
    let same = ap (map section_entry) c.as_slice-tables.ensures.value in
    let read = is_tree_read (table_view c.args.document.now) (top_entry c.in-Ok.top) c.in-Ok.ensures c.in_ok-fans.fans c.in_ok-fans.ensures
    (section_entries c.in-Ok-read_sections.sections) c.in-Ok-read_sections.ensures.value (map section_entry c.as_slice-tables.result.now) same c.in_ok-tree.tree c.in_ok-tree.ensures in
    (network_read _ _ _ _ _ _ read same _ c.in_ok-lists.lists (c.into_list.ensures ∙ c.in-Ok-read_sections.ensures.names) c.in_ok-lists.ensures).0

pub returns : goal.returns
returns c =
    let same = ap (map section_entry) c.as_slice-tables.ensures.value in
    let read = is_tree_read (table_view c.args.document.now) (top_entry c.in-Ok.top) c.in-Ok.ensures c.in_ok-fans.fans c.in_ok-fans.ensures
    (section_entries c.in-Ok-read_sections.sections) c.in-Ok-read_sections.ensures.value (map section_entry c.as_slice-tables.result.now) same c.in_ok-tree.tree c.in_ok-tree.ensures in
    (network_read _ _ _ _ _ _ read same _ c.in_ok-lists.lists (c.into_list.ensures ∙ c.in-Ok-read_sections.ensures.names) c.in_ok-lists.ensures).1
    ∙ ap (λ (net : Network). Ok net) (sym c.new.ensures)
