-- A network file: its rules in the order in which the first broken one is its refusal, and the network that it
-- describes.
--   network_rules doc   all rules over the document
--   network_in doc      the network, where no rule is broken
--   network_of bytes    what the bytes are read as: the network, or the refusal
use Rattle.std.specs.Prelude.{ℕ, List, [], ◌++◌, map, Option, Some, None, Result, Err}
use Rattle.toml.specs.Data.{Members}
use Rattle.duct_units.specs.declared.fault.Fault.{Fault}
use Rattle.duct_units.specs.declared.fault.Reason.TheVariants.{Text}
use Rattle.duct_units.specs.Rules.{Rule, file_fault, first_broken, unless_refused}
use Rattle.duct_definitions.specs.Network.{Network}
use Rattle.file_definitions.specs.Document.{document_of}
use Rattle.network_file.specs.TopTable.{top_rules, network_name, fan_tables, section_tables}
use Rattle.network_file.specs.FanTables.{all_fan_rules, fan_of}
use Rattle.section_tables.specs.Neighbours.{neighbour_and_tree_rules, tree_of}
use Rattle.section_tables.specs.TreeSections.{section_names}
use Rattle.network_file.specs.SectionTables.{SectionEntry, all_section_rules, entry_of, tree_sections}
use Rattle.network_file.specs.Pairs.{all_size_and_pair_rules, pairs_of_section}

-- the sections, as their tables say
abbrev pub entries : Members → List SectionEntry
entries doc = map entry_of (section_tables doc)

-- the top table; the fans; the sections; their neighbours and the tree; their sizes and pairs
abbrev pub network_rules : Members → List Rule
network_rules doc =
    top_rules doc
    ++ (all_fan_rules (fan_tables doc)
    ++ (all_section_rules (section_tables doc)
    ++ (neighbour_and_tree_rules (tree_sections (entries doc))
    ++ all_size_and_pair_rules (entries doc))))

-- the network that the document describes; it has no return fans
abbrev pub network_in : Members → Network
network_in doc =
    let sections = entries doc in record {
      name = network_name doc;
      tree = tree_of (tree_sections sections);
      names = section_names (tree_sections sections);
      sizes = map (λ section. section.sizes) sections;
      pairs = map (pairs_of_section sections) sections;
      fans = map fan_of (fan_tables doc);
      return_fans = [];
    }

-- the network of the document, or the fault of the first broken rule; without a document, the fault `text`
abbrev pub reading : Option Members → Result Network Fault
reading None = Err (file_fault Text)
reading (Some doc) = unless_refused (first_broken (network_rules doc)) (network_in doc)

-- what the bytes are read as
abbrev pub network_of : List ℕ → Result Network Fault
network_of bytes = reading (document_of bytes)
