use Rattle.std.proofs.Common.{◌≡◌, ◌∙◌, sym, ap, rules, map, ◌<◌, ◌≤◌, length, arith, subst, not, ◌+◌, None}
use Rattle.std.specs.Prelude.{Some}
use Rattle.network_file.specs.declared.sizes_and_pairs.SizesAndPairs.{SizesAndPairs}
use Rattle.duct_units.specs.Rules.{first_broken}
use Rattle.duct_definitions.specs.declared.limits.TheConstants.{MAX_SIZES}
use Rattle.network_file.specs.SectionTables.{SectionEntry}
use Rattle.network_file.specs.Pairs.{all_size_and_pair_rules, all_sizes_and_pairs, size_and_pair_rules, sizes_and_pairs, pair_cells, pairs_of_section}
use Rattle.network_file.specs.TableEntries.{section_entry}
use Rattle.section_tables.proofs.StepLaws.{numbered_holds, grown, view_at, all_grown}
use Rattle.network_file.proofs.NeighbourLaws.{found_size_count, size_and_pair_rules_at}
use Rattle.section_tables.proofs.SequenceLaws.{Stops, stops_from, stops_gives, each_stops, given}
use Rattle.network_file.proofs.sizes_and_pairs.read_all_sizes_and_pairs.Goals as goal

pub returns-in_err-own : goal.returns-in_err-own
returns-in_err-own c =
    let sections = c.args.sections.now in
    let entries = map section_entry sections in
    let section = section_entry c.index-sections-i.result in
    let error = c.in_err-own.field-0.0 in
    let within : c.loop-i.i < length sections = omega arith in
    let at = view_at section_entry sections c.loop-i.i c.index-sections-i.result within ∙ ap (λ table. Some (section_entry table)) (sym c.index-sections-i.is) in
    let counted = found_size_count entries c.loop-i.i section c.loop-i.sizes.items c.as_slice.result.now c.args.tree.now c.neighbour_size_count-count.result at
    c.loop-i.invariant.sizes c.as_slice.ensures.value c.requires.tree c.neighbour_size_count-count.ensures.earlier c.neighbour_size_count-count.ensures.value in
    let stops : Stops error (size_and_pair_rules (c.loop-i.i + 1) c.neighbour_size_count-count.result section) = stops_from error (size_and_pair_rules (c.loop-i.i + 1) c.neighbour_size_count-count.result section) (sizes_and_pairs c.neighbour_size_count-count.result section) c.in_err-own.ensures.value in
    let fails = stops_gives error (all_size_and_pair_rules entries) (all_sizes_and_pairs entries) (each_stops error (size_and_pair_rules_at entries) entries c.loop-i.i section c.loop-i.invariant.rules at
    (subst (λ found. Stops error (size_and_pair_rules (c.loop-i.i + 1) found section)) counted stops)) in
    search (rules, fails)

pub loop-i-preserved : goal.loop-i-preserved
loop-i-preserved c =
    let sections = c.args.sections.now in
    let entries = map section_entry sections in
    let section = section_entry c.index-sections-i.result in
    let within : c.loop-i.i < length sections = omega arith in
    let at = view_at section_entry sections c.loop-i.i c.index-sections-i.result within ∙ ap (λ table. Some (section_entry table)) (sym c.index-sections-i.is) in
    let counted = found_size_count entries c.loop-i.i section c.loop-i.sizes.items c.as_slice.result.now c.args.tree.now c.neighbour_size_count-count.result at
    c.loop-i.invariant.sizes c.as_slice.ensures.value c.requires.tree c.neighbour_size_count-count.ensures.earlier c.neighbour_size_count-count.ensures.value in
    let read = given (first_broken (size_and_pair_rules (c.loop-i.i + 1) c.neighbour_size_count-count.result section)) (sizes_and_pairs c.neighbour_size_count-count.result section) c.in_ok-own.own c.in_ok-own.ensures.value in
    record {
      end = c.loop-i.invariant.end;
      rules = numbered_holds (size_and_pair_rules_at entries) entries c.loop-i.i section c.loop-i.invariant.rules at (subst (λ found. first_broken (size_and_pair_rules (c.loop-i.i + 1) found section) ≡ None) counted read.0);
      few = all_grown (λ sizes. length sizes ≤ MAX_SIZES) _ _ _ _ c.push.ensures.items (c.is_err.ensures.negation ∙ ap not c.if-is_err.false) c.loop-i.invariant.few c.in_ok-own.ensures.few;
      sizes = grown (λ (section : SectionEntry). section.sizes) entries c.loop-i.i section _ _ _ _ at c.push.ensures.items (c.is_err.ensures.negation ∙ ap not c.if-is_err.false) c.loop-i.invariant.sizes (ap (λ (own : SizesAndPairs). own.sizes) read.1);
      pairs = grown (pairs_of_section entries) entries c.loop-i.i section _ _ _ _ at c.push-else-is_err.ensures.items (c.is_err-else-is_err.ensures.negation ∙ ap not c.if-is_err-2.false) c.loop-i.invariant.pairs
          (ap (λ (own : SizesAndPairs). own.pairs) read.1 ∙ ap (λ found. pair_cells found section) counted);
    }
