use Rattle.std.proofs.Common.{◌≡◌, ◌∙◌, ap, rules, length, subst, None}
use Rattle.duct_units.specs.Rules.{first_broken, unless_refused}
use Rattle.network_file.specs.Pairs.{all_size_rules, all_pair_rules, size_and_pair_rules, sizes_and_pairs, cells_of, columns_of, rows_of}
use Rattle.network_file.specs.TableEntries.{section_entry}
use Rattle.section_tables.proofs.SequenceLaws.{Stops, stops_from, stops_first, stops_later, stops_gives, all_hold, given}
use Rattle.network_file.proofs.sizes_and_pairs.read_sizes_and_pairs.Goals as goal

pub returns-in_err-sizes-clause-value : goal.returns-in_err-sizes-clause-value
returns-in_err-sizes-clause-value c =
    let entry = section_entry c.args.section.now in
    let stops = stops_first c.in_err-sizes.field-0.0 (all_size_rules c.args.place entry.sizes) (all_pair_rules c.args.place (length entry.sizes) c.args.neighbour_count entry.pairs) (stops_from c.in_err-sizes.field-0.0 _ _ c.in_err-sizes.ensures.value) in
    let fails = stops_gives c.in_err-sizes.field-0.0 (size_and_pair_rules c.args.place c.args.neighbour_count entry) (sizes_and_pairs c.args.neighbour_count entry) stops in
    search (rules, fails)

pub returns-in_err-pairs-clause-value : goal.returns-in_err-pairs-clause-value
returns-in_err-pairs-clause-value c =
    let entry = section_entry c.args.section.now in
    let read = given _ _ _ c.in_ok-sizes.ensures.value in
    let count = ap length (c.as_slice-size_count.ensures ∙ read.1) in
    let later = stops_from c.in_err-pairs.field-0.0 (all_pair_rules c.args.place (length c.as_slice-size_count.result.now) c.args.neighbour_count entry.pairs) _ c.in_err-pairs.ensures in
    let stops = stops_later c.in_err-pairs.field-0.0 (all_size_rules c.args.place entry.sizes) (all_pair_rules c.args.place (length entry.sizes) c.args.neighbour_count entry.pairs) read.0
    (subst (λ n. Stops c.in_err-pairs.field-0.0 (all_pair_rules c.args.place n c.args.neighbour_count entry.pairs)) count later) in
    let fails = stops_gives c.in_err-pairs.field-0.0 (size_and_pair_rules c.args.place c.args.neighbour_count entry) (sizes_and_pairs c.args.neighbour_count entry) stops in
    search (rules, fails)

pub returns-clause-value : goal.returns-clause-value
returns-clause-value c =
    let entry = section_entry c.args.section.now in
    let read = given _ _ _ c.in_ok-sizes.ensures.value in
    let count = ap length (c.as_slice-size_count.ensures ∙ read.1) in
    let later = given _ _ _ c.in_ok-pairs.ensures in
    let hold = all_hold (all_size_rules c.args.place entry.sizes) (all_pair_rules c.args.place (length entry.sizes) c.args.neighbour_count entry.pairs) read.0
    (subst (λ n. first_broken (all_pair_rules c.args.place n c.args.neighbour_count entry.pairs) ≡ None) count later.0) in
    let cells = later.1 ∙ ap (λ n. cells_of n (columns_of c.args.neighbour_count) (rows_of n c.args.neighbour_count entry.pairs)) count in
    ap (λ o. unless_refused o (sizes_and_pairs c.args.neighbour_count entry)) hold ∙ cc (read.1, cells)
