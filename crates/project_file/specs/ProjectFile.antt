-- A project file: its rules in the order in which the first broken one is its refusal, and the project that it
-- describes.
--   project_rules doc   all rules over the document
--   project_in doc      the project, where no rule is broken
--   project_of bytes    what the bytes are read as: the project, or the refusal
use Rattle.std.specs.Prelude.{ℕ, List, ◌++◌, map, Option, Some, None, Result, Err}
use Rattle.toml.specs.Data.{Members}
use Rattle.duct_units.specs.declared.fault.Fault.{Fault}
use Rattle.duct_units.specs.declared.fault.Reason.TheVariants.{Text}
use Rattle.duct_units.specs.Rules.{Rule, file_fault, first_broken, unless_refused}
use Rattle.duct_definitions.specs.Airflow.{flow_rules, flows_of}
use Rattle.file_definitions.specs.Document.{document_of}
use Rattle.section_tables.specs.Neighbours.{neighbour_and_tree_rules, tree_of}
use Rattle.project_file.specs.declared.project.Project.{Project}
use Rattle.project_file.specs.declared.section_table.SectionTable.{SectionTable}
use Rattle.project_file.specs.declared.size_limits.SizeLimits.{SizeLimits}
use Rattle.project_file.specs.Limits.{limits_in}
use Rattle.project_file.specs.Sections.{rows_of, tree_sections}
use Rattle.project_file.specs.TopTable.{TopEntry, top_rules, top_in}
use Rattle.project_file.specs.SectionTables.{all_section_rules, section_in}
use Rattle.project_file.specs.Projects.{airflows_of}

-- the rules of the sections' tables, in the format and with the limits of the top table
abbrev pub section_rules_of : TopEntry → List Rule
section_rules_of top = all_section_rules top.head.format top.sections

-- the sections, as their tables say
abbrev pub sections_of : TopEntry → List SectionTable
sections_of top = map section_in top.sections

-- the neighbours, the tree and its airflows
abbrev pub tree_and_flow_rules : SizeLimits → List SectionTable → List Rule
tree_and_flow_rules limits sections =
    neighbour_and_tree_rules (tree_sections sections)
    ++ flow_rules (tree_of (tree_sections sections)) (airflows_of (rows_of limits sections))

-- the top table, with the tables `energy` and `rules`; the sections; their neighbours and the tree; the airflows
abbrev pub project_rules : Members → List Rule
project_rules doc =
    top_rules doc
    ++ (section_rules_of (top_in doc) ++ tree_and_flow_rules (limits_in doc) (sections_of (top_in doc)))

-- the project of the top table and of the sections
abbrev pub project_with : TopEntry → List SectionTable → Project
project_with top sections =
    let tree = tree_of (tree_sections sections) in record {
      name = top.head.name;
      density = top.head.density;
      energy = top.energy;
      taper = top.limits.taper;
      tree = tree;
      flows = flows_of tree (airflows_of (rows_of top.limits sections));
      sections = rows_of top.limits sections;
    }

-- the project that the document describes
abbrev pub project_in : Members → Project
project_in doc = project_with (top_in doc) (sections_of (top_in doc))

-- the project of the document, or the fault of the first broken rule; without a document, the fault `text`
abbrev pub reading : Option Members → Result Project Fault
reading None = Err (file_fault Text)
reading (Some doc) = unless_refused (first_broken (project_rules doc)) (project_in doc)

-- what the bytes are read as
abbrev pub project_of : List ℕ → Result Project Fault
project_of bytes = reading (document_of bytes)
