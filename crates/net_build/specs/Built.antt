-- The network of a project, its catalogues and the rules of sizes.
--   network_of p c fans rules       the tree, the sizes of each section's list, the permitted pairs, and the fans on offer
--   built p c fans rules names      the network with the rules' counts, or the first name that joins nothing
--   built_by_section                the same with the counts of each section
--   section_built p c rules names s     the pairs and the counts of section s alone
use Rattle.std.specs.Prelude.{ℕ, List, [], map, Option, Result}
use Rattle.duct_units.specs.declared.fault.Fault.{Fault}
use Rattle.duct_units.specs.Rules.{first_broken, unless_refused}
use Rattle.duct_definitions.specs.declared.design.Pair.{Pair}
use Rattle.duct_definitions.specs.declared.design.NetFan.{NetFan}
use Rattle.duct_definitions.specs.declared.listed.RuleCount.{RuleCount}
use Rattle.duct_definitions.specs.Airflow.{fan_flow}
use Rattle.duct_definitions.specs.Network.{Network}
use Rattle.duct_definitions.specs.Tree.{sections}
use Rattle.fan_points.specs.declared.row.FanRow.{FanRow}
use Rattle.project_file.specs.declared.project.Project.{Project}
use Rattle.design_rules.specs.Meanings.{Meaning}
use Rattle.net_build.specs.declared.by_section.BuiltSection.{BuiltSection}
use Rattle.net_build.specs.declared.sections.SectionSizes.{SectionSizes}
use Rattle.net_build.specs.Catalogues.{Catalogues, size_at}
use Rattle.net_build.specs.Joining.{joining_rules}
use Rattle.net_build.specs.Sections.{numbers_at, section_sizes}
use Rattle.net_build.specs.Pairs.{size_pairs, pair_of}
use Rattle.net_build.specs.Fans.{offered}
use Rattle.net_build.specs.Refusals.{refusals, section_refusals}

-- the names of the sizes with these numbers
abbrev pub names_of_numbers : Catalogues → List ℕ → List (List ℕ)
names_of_numbers c numbers = map (λ number. (size_at c.sizes number).name) numbers

-- the names of the sizes that section s may have, in order
abbrev pub size_names : Project → Catalogues → ℕ → List (List ℕ)
size_names p c s = names_of_numbers c (numbers_at p c s)

-- the pairs of a section, by its own size and then by its neighbour's
abbrev pub pairs_of : Catalogues → List Meaning → SectionSizes → List (Option Pair)
pairs_of c rules section = map (pair_of c rules section) (size_pairs section)

-- the pairs of section s
abbrev pub section_pairs : Project → Catalogues → List Meaning → ℕ → List (Option Pair)
section_pairs p c rules s = pairs_of c rules (section_sizes p c s)

-- the tree of the project and the sizes of each section's list, with these pairs and fans, without return fans
abbrev pub with_pairs_and_fans : Project → Catalogues → List (List (Option Pair)) → List NetFan → Network
with_pairs_and_fans p c pairs fans = record {
  name = p.name;
  tree = p.tree;
  names = map (λ row. row.name) p.sections;
  sizes = map (size_names p c) (sections p.tree);
  pairs = pairs;
  fans = fans;
  return_fans = [];
}

-- the same with the permitted pairs and the fans that serve the airflow of both sides
abbrev pub network_of : Project → Catalogues → List FanRow → List Meaning → Network
network_of p c fans rules =
    with_pairs_and_fans p c (map (section_pairs p c rules) (sections p.tree)) (offered fans p.energy (fan_flow p.flows))

-- the network, with how many pairs each rule refused
abbrev pub network_and_refusals : Project → Catalogues → List FanRow → List Meaning → List (List ℕ) → Network × List RuleCount
network_and_refusals p c fans rules names = (network_of p c fans rules, refusals p c rules names)

-- the network with the rules' counts; or the fault of the first name that joins nothing
abbrev pub built : Project → Catalogues → List FanRow → List Meaning → List (List ℕ) → Result (Network × List RuleCount) Fault
built p c fans rules names = unless_refused (first_broken (joining_rules p c)) (network_and_refusals p c fans rules names)

-- the network, with how many pairs of each section each rule refused
abbrev pub network_and_counts : Project → Catalogues → List FanRow → List Meaning → List (List ℕ) → Network × List (List RuleCount)
network_and_counts p c fans rules names =
    (network_of p c fans rules, map (section_refusals p c rules names) (sections p.tree))

-- the network with the counts of each section; or the fault of the first name that joins nothing
abbrev pub built_by_section : Project → Catalogues → List FanRow → List Meaning → List (List ℕ) → Result (Network × List (List RuleCount)) Fault
built_by_section p c fans rules names =
    unless_refused (first_broken (joining_rules p c)) (network_and_counts p c fans rules names)

-- the pairs of section s, and how many of them each rule refused
abbrev pub section_built : Project → Catalogues → List Meaning → List (List ℕ) → ℕ → BuiltSection
section_built p c rules names s =
    record { pairs = section_pairs p c rules s; refusals = section_refusals p c rules names s }
