use Rattle.std.proofs.Common.{◌≡◌, ◌≤◌, length, map, take}
use Rattle.std.specs.Prelude.{All}
use Rattle.duct_definitions.specs.declared.limits.TheConstants.{MAX_SIZES}
use Rattle.network_file.specs.SectionTables.{SectionEntry}
use Rattle.network_file.specs.Pairs.{size_and_pair_rules_after, pairs_of_section}
use Rattle.network_file.specs.TableEntries.{section_entry}
use Rattle.section_tables.proofs.StepLaws.{HoldBefore}
use Rattle.network_file.proofs.sizes_and_pairs.read_all_sizes_and_pairs.Given as goal

abbrev pub invariant-loop-i : goal.invariant-loop-i
invariant-loop-i l = record {
  end : l.i-end ≡ length l.sections;
  rules : HoldBefore (size_and_pair_rules_after (map section_entry l.sections)) (map section_entry l.sections) l.i;
  few : All (λ sizes. length sizes ≤ MAX_SIZES) l.sizes.items;
  sizes : l.sizes.items ≡ map (λ (section : SectionEntry). section.sizes) (take l.i (map section_entry l.sections));
  pairs : l.pairs.items ≡ map (pairs_of_section (map section_entry l.sections)) (take l.i (map section_entry l.sections));
}
