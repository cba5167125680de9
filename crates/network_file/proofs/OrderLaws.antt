-- Where the reading of a network file stops, and what it read until there.
use Rattle.std.proofs.Common.{◌≡◌, ℕ, List, ◌++◌, map, Some, None, Ok, [], refl, ap, ◌∙◌, subst}
use Rattle.toml.specs.Data.{Members}
use Rattle.duct_units.specs.declared.fault.ReadError.{ReadError}
use Rattle.duct_units.specs.Rules.{Rule, Fails, first_broken, unless_refused}
use Rattle.duct_definitions.specs.declared.design.NetFan.{NetFan}
use Rattle.duct_definitions.specs.Network.{Network}
use Rattle.duct_definitions.specs.Tree.{Tree}
use Rattle.network_file.specs.TopTable.{TopEntry, top_rules, top_in, fan_tables, section_tables}
use Rattle.network_file.specs.FanTables.{all_fan_rules, fan_of}
use Rattle.section_tables.specs.Neighbours.{neighbour_and_tree_rules, tree_of}
use Rattle.section_tables.specs.TreeSections.{section_names}
use Rattle.network_file.specs.SectionTables.{SectionEntry, all_section_rules, entry_of, tree_sections}
use Rattle.network_file.specs.Pairs.{all_size_and_pair_rules, all_sizes_and_pairs}
use Rattle.network_file.specs.NetworkFile.{network_rules, network_in, entries, reading}
use Rattle.network_file.specs.declared.sizes_and_pairs.AllSizesAndPairs.{AllSizesAndPairs}
use Rattle.section_tables.proofs.SequenceLaws.{Stops, stops_first, stops_later, stops_gives, stops_as, all_hold, given, IsRead, read_as}

-- the rules that come after the sections, the fans and the top table
abbrev pub after_sections : Members → List Rule
after_sections doc = neighbour_and_tree_rules (tree_sections (entries doc)) ++ all_size_and_pair_rules (entries doc)

abbrev pub after_fans : Members → List Rule
after_fans doc = all_section_rules (section_tables doc) ++ after_sections doc

abbrev pub after_top : Members → List Rule
after_top doc = all_fan_rules (fan_tables doc) ++ after_fans doc

-- ---- what was read

-- the top table and the fans
pub record FansRead (doc : Members) (top : TopEntry) (fans : List NetFan) : Type 0 where
  pub of_top : IsRead (top_rules doc) (top_in doc) top
  pub of_fans : IsRead (all_fan_rules (fan_tables doc)) (map fan_of (fan_tables doc)) fans

pub fans_read : (doc : Members) (top : TopEntry) (fans : List NetFan) → unless_refused (first_broken (top_rules doc)) (top_in doc) ≡ Ok top
    → unless_refused (first_broken (all_fan_rules top.fans)) (map fan_of top.fans) ≡ Ok fans → FansRead doc top fans
fans_read doc top fans is_top are_fans =
    let first = given (first_broken (top_rules doc)) (top_in doc) top is_top in
    record { of_top = first; of_fans = read_as all_fan_rules (map fan_of) top.fans (fan_tables doc) fans (ap (λ (t : TopEntry). t.fans) first.1) are_fans }

-- and the sections
pub record SectionsRead (doc : Members) (top : TopEntry) (fans : List NetFan) (sections : List SectionEntry) : Type 0 where
  pub before : FansRead doc top fans
  pub of_sections : IsRead (all_section_rules (section_tables doc)) (entries doc) sections

pub sections_read : (doc : Members) (top : TopEntry) (fans : List NetFan) (sections : List SectionEntry) → unless_refused (first_broken (top_rules doc)) (top_in doc) ≡ Ok top
    → unless_refused (first_broken (all_fan_rules top.fans)) (map fan_of top.fans) ≡ Ok fans → unless_refused (first_broken (all_section_rules top.sections)) (map entry_of top.sections) ≡ Ok sections
    → SectionsRead doc top fans sections
sections_read doc top fans sections is_top are_fans are_sections =
    let before = fans_read doc top fans is_top are_fans in
    record { before = before; of_sections = read_as all_section_rules (map entry_of) top.sections (section_tables doc) sections (ap (λ (t : TopEntry). t.sections) before.of_top.1) are_sections }

-- and the tree
pub record TreeRead (doc : Members) (top : TopEntry) (fans : List NetFan) (sections : List SectionEntry) (tree : Tree) : Type 0 where
  pub before : SectionsRead doc top fans sections
  pub of_tree : IsRead (neighbour_and_tree_rules (tree_sections (entries doc))) (tree_of (tree_sections (entries doc))) tree

pub tree_read : (doc : Members) (top : TopEntry) (fans : List NetFan) (sections : List SectionEntry) (tree : Tree) → unless_refused (first_broken (top_rules doc)) (top_in doc) ≡ Ok top
    → unless_refused (first_broken (all_fan_rules top.fans)) (map fan_of top.fans) ≡ Ok fans → unless_refused (first_broken (all_section_rules top.sections)) (map entry_of top.sections) ≡ Ok sections
    → unless_refused (first_broken (neighbour_and_tree_rules (tree_sections sections))) (tree_of (tree_sections sections)) ≡ Ok tree → TreeRead doc top fans sections tree
tree_read doc top fans sections tree is_top are_fans are_sections is_tree =
    let before = sections_read doc top fans sections is_top are_fans are_sections in
    record { before = before; of_tree = read_as neighbour_and_tree_rules tree_of (tree_sections sections) (tree_sections (entries doc)) tree (ap tree_sections before.of_sections.1) is_tree }

-- ---- where it stops

at_top : (error : ReadError) (doc : Members) → Stops error (top_rules doc) → Stops error (network_rules doc)
at_top error doc stops = stops_first error (top_rules doc) (after_top doc) stops

past_top : (error : ReadError) (doc : Members) → first_broken (top_rules doc) ≡ None → Stops error (after_top doc) → Stops error (network_rules doc)
past_top error doc top stops = stops_later error (top_rules doc) (after_top doc) top stops

at_fans : (error : ReadError) (doc : Members) → first_broken (top_rules doc) ≡ None → Stops error (all_fan_rules (fan_tables doc)) → Stops error (network_rules doc)
at_fans error doc top stops = past_top error doc top (stops_first error (all_fan_rules (fan_tables doc)) (after_fans doc) stops)

past_fans : (error : ReadError) (doc : Members) (top : TopEntry) (fans : List NetFan) → FansRead doc top fans → Stops error (after_fans doc) → Stops error (network_rules doc)
past_fans error doc top fans read stops = past_top error doc read.of_top.0 (stops_later error (all_fan_rules (fan_tables doc)) (after_fans doc) read.of_fans.0 stops)

at_sections : (error : ReadError) (doc : Members) (top : TopEntry) (fans : List NetFan) → FansRead doc top fans → Stops error (all_section_rules (section_tables doc)) → Stops error (network_rules doc)
at_sections error doc top fans read stops = past_fans error doc top fans read (stops_first error (all_section_rules (section_tables doc)) (after_sections doc) stops)

past_sections : (error : ReadError) (doc : Members) (top : TopEntry) (fans : List NetFan) (sections : List SectionEntry) → SectionsRead doc top fans sections → Stops error (after_sections doc)
    → Stops error (network_rules doc)
past_sections error doc top fans sections read stops =
    past_fans error doc top fans read.before (stops_later error (all_section_rules (section_tables doc)) (after_sections doc) read.of_sections.0 stops)

at_tree : (error : ReadError) (doc : Members) (top : TopEntry) (fans : List NetFan) (sections : List SectionEntry) → SectionsRead doc top fans sections
    → Stops error (neighbour_and_tree_rules (tree_sections (entries doc))) → Stops error (network_rules doc)
at_tree error doc top fans sections read stops =
    past_sections error doc top fans sections read (stops_first error (neighbour_and_tree_rules (tree_sections (entries doc))) (all_size_and_pair_rules (entries doc)) stops)

at_sizes_and_pairs : (error : ReadError) (doc : Members) (top : TopEntry) (fans : List NetFan) (sections : List SectionEntry) (tree : Tree) → TreeRead doc top fans sections tree
    → Stops error (all_size_and_pair_rules (entries doc)) → Stops error (network_rules doc)
at_sizes_and_pairs error doc top fans sections tree read stops =
    past_sections error doc top fans sections read.before (stops_later error (neighbour_and_tree_rules (tree_sections (entries doc))) (all_size_and_pair_rules (entries doc)) read.of_tree.0 stops)

-- ---- so the reading fails as the part does that stops it

pub fails_at_top : (error : ReadError) (doc : Members) → Stops error (top_rules doc) → Fails error (reading (Some doc))
fails_at_top error doc stops = stops_gives error (network_rules doc) (network_in doc) (at_top error doc stops)

module _ (doc : Members) (top : TopEntry) (is_top : unless_refused (first_broken (top_rules doc)) (top_in doc) ≡ Ok top) where
  pub fails_at_fans : (error : ReadError) → Fails error (unless_refused (first_broken (all_fan_rules top.fans)) (map fan_of top.fans)) → Fails error (reading (Some doc))
  fails_at_fans error fails =
      let first = given (first_broken (top_rules doc)) (top_in doc) top is_top in
      stops_gives error (network_rules doc) (network_in doc) (at_fans error doc first.0
      (stops_as error all_fan_rules (map fan_of) top.fans (fan_tables doc) (ap (λ (t : TopEntry). t.fans) first.1) fails))

  module _ (fans : List NetFan) (are_fans : unless_refused (first_broken (all_fan_rules top.fans)) (map fan_of top.fans) ≡ Ok fans) where
    pub fails_at_sections : (error : ReadError) → Fails error (unless_refused (first_broken (all_section_rules top.sections)) (map entry_of top.sections)) → Fails error (reading (Some doc))
    fails_at_sections error fails =
        let read = fans_read doc top fans is_top are_fans in
        stops_gives error (network_rules doc) (network_in doc) (at_sections error doc top fans read
        (stops_as error all_section_rules (map entry_of) top.sections (section_tables doc) (ap (λ (t : TopEntry). t.sections) read.of_top.1) fails))

    module _ (sections : List SectionEntry) (are_sections : unless_refused (first_broken (all_section_rules top.sections)) (map entry_of top.sections) ≡ Ok sections) (again : List SectionEntry) (same : again ≡ sections) where
      pub fails_at_tree : (error : ReadError) → Fails error (unless_refused (first_broken (neighbour_and_tree_rules (tree_sections again))) (tree_of (tree_sections again))) → Fails error (reading (Some doc))
      fails_at_tree error fails =
          let read = sections_read doc top fans sections is_top are_fans are_sections in
          stops_gives error (network_rules doc) (network_in doc) (at_tree error doc top fans sections read
          (stops_as error neighbour_and_tree_rules tree_of (tree_sections again) (tree_sections (entries doc)) (ap tree_sections (same ∙ read.of_sections.1)) fails))

      module _ (tree : Tree) (is_tree : unless_refused (first_broken (neighbour_and_tree_rules (tree_sections again))) (tree_of (tree_sections again)) ≡ Ok tree) where
        pub is_tree_read : TreeRead doc top fans sections tree
        is_tree_read =
            tree_read doc top fans sections tree is_top are_fans are_sections
            (subst (λ (es : List SectionEntry). unless_refused (first_broken (neighbour_and_tree_rules (tree_sections es))) (tree_of (tree_sections es)) ≡ Ok tree) same is_tree)

        pub fails_at_sizes_and_pairs : (error : ReadError) → Fails error (unless_refused (first_broken (all_size_and_pair_rules again)) (all_sizes_and_pairs again)) → Fails error (reading (Some doc))
        fails_at_sizes_and_pairs error fails =
            stops_gives error (network_rules doc) (network_in doc) (at_sizes_and_pairs error doc top fans sections tree is_tree_read
            (stops_as error all_size_and_pair_rules all_sizes_and_pairs again (entries doc) (same ∙ is_tree_read.before.of_sections.1) fails))

-- ---- where it doesn't

-- the network of what was read
abbrev pub network_with : TopEntry → List NetFan → List (List ℕ) → Tree → AllSizesAndPairs → Network
network_with top fans names tree lists = record {
  name = top.name;
  tree = tree;
  names = names;
  sizes = lists.sizes;
  pairs = lists.pairs;
  fans = fans;
  return_fans = [];
}

-- no rule is broken, and it is the network that the document describes
pub all_read : (doc : Members) (top : TopEntry) (fans : List NetFan) (sections again : List SectionEntry) (tree : Tree) (names : List (List ℕ)) (lists : AllSizesAndPairs) → TreeRead doc top fans sections tree
    → names ≡ section_names (tree_sections sections) → again ≡ sections → unless_refused (first_broken (all_size_and_pair_rules again)) (all_sizes_and_pairs again) ≡ Ok lists
    → (first_broken (network_rules doc) ≡ None) × (network_in doc ≡ network_with top fans names tree lists)
all_read doc top fans sections again tree names lists read are_names are_same are_lists =
    let last = read_as all_size_and_pair_rules all_sizes_and_pairs again (entries doc) lists (are_same ∙ read.before.of_sections.1) are_lists in
    let from_top = read.before.before in (
      all_hold (top_rules doc) (after_top doc) from_top.of_top.0 (all_hold (all_fan_rules (fan_tables doc)) (after_fans doc) from_top.of_fans.0
          (all_hold (all_section_rules (section_tables doc)) (after_sections doc) read.before.of_sections.0 (all_hold (neighbour_and_tree_rules (tree_sections (entries doc))) (all_size_and_pair_rules (entries doc)) read.of_tree.0 last.0))),
      same top fans names tree lists from_top.of_top.1 from_top.of_fans.1 (are_names ∙ ap (λ (es : List SectionEntry). section_names (tree_sections es)) read.before.of_sections.1) read.of_tree.1 last.1,
    )
  where
    same : (t : TopEntry) (fs : List NetFan) (ns : List (List ℕ)) (tr : Tree) (ls : AllSizesAndPairs) → t ≡ top_in doc → fs ≡ map fan_of (fan_tables doc) → ns ≡ section_names (tree_sections (entries doc))
        → tr ≡ tree_of (tree_sections (entries doc)) → ls ≡ all_sizes_and_pairs (entries doc) → network_in doc ≡ network_with t fs ns tr ls
    same t fs ns tr ls is_top are_fans are_named is_tree are = rw (is_top, are_fans, are_named, is_tree, are) refl
