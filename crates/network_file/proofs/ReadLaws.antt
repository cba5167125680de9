-- What all parts read together is the network of the document, and a valid one.
use Rattle.std.proofs.Common.{◌≡◌, ℕ, List, Some, Ok, ap, ◌∙◌, subst}
use Rattle.toml.specs.Data.{Members}
use Rattle.duct_units.specs.Rules.{first_broken, unless_refused}
use Rattle.duct_definitions.specs.declared.design.NetFan.{NetFan}
use Rattle.duct_definitions.specs.Network.{Network, IsNetwork}
use Rattle.duct_definitions.specs.Tree.{Tree}
use Rattle.section_tables.specs.TreeSections.{section_names}
use Rattle.network_file.specs.declared.sizes_and_pairs.AllSizesAndPairs.{AllSizesAndPairs}
use Rattle.network_file.specs.NetworkFile.{network_in, reading}
use Rattle.network_file.specs.Pairs.{all_size_and_pair_rules, all_sizes_and_pairs}
use Rattle.network_file.specs.SectionTables.{SectionEntry, tree_sections}
use Rattle.network_file.specs.TopTable.{TopEntry}
use Rattle.network_file.proofs.OrderLaws.{TreeRead, all_read, network_with}
use Rattle.network_file.proofs.ValidLaws.{is_network}

module _ (doc : Members) (top : TopEntry) (fans : List NetFan) (sections again : List SectionEntry) (tree : Tree) (read : TreeRead doc top fans sections tree) (same : again ≡ sections) where
  pub network_read : (names : List (List ℕ)) (lists : AllSizesAndPairs) → names ≡ section_names (tree_sections sections)
      → unless_refused (first_broken (all_size_and_pair_rules again)) (all_sizes_and_pairs again) ≡ Ok lists
      → IsNetwork (network_with top fans names tree lists) × (reading (Some doc) ≡ Ok (network_with top fans names tree lists))
  network_read names lists are_names are_lists =
      let all = all_read doc top fans sections again tree names lists read are_names same are_lists in (
        subst (λ (net : Network). IsNetwork net) all.1 (is_network doc all.0),
        ap (λ o. unless_refused o (network_in doc)) all.0 ∙ ap (λ (net : Network). Ok net) all.1,
      )
