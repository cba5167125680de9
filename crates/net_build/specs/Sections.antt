-- What is known of each section of a project before its size is chosen.
--   numbers_at p c s        the numbers of the sizes that section s may have
--   besides p c s           the numbers of the sizes that may stand beside it; none alone at the fan
--   section_facts p c s     what its losses come from, whatever its size
--   section_sizes p c s     all of it in one record
--   told c section k g      what rules are told of the section in its size k beside its neighbour's size g
use Rattle.std.specs.Prelude.{ℕ, List, [], ◌∷◌, map, Option, Some, None, is_none, slice_get, slice_index, unwrap_or}
use Rattle.std.specs.Option.{option_map_or}
use Rattle.duct_definitions.specs.Tree.{neighbour, at_neighbour}
use Rattle.project_file.specs.declared.project.Project.{Project}
use Rattle.section_loss.specs.declared.facts.SectionFacts.{SectionFacts}
use Rattle.design_rules.specs.declared.facts.PairFacts.{PairFacts}
use Rattle.net_build.specs.declared.sections.SectionSizes.{SectionSizes}
use Rattle.net_build.specs.Catalogues.{Catalogues, numbers_named, size_at}
use Rattle.net_build.specs.Rows.{row_at}
use Rattle.net_build.specs.Joining.{table_of_row, preset_of_row}

-- the airflow of section s, l/s
abbrev pub flow_at : Project → ℕ → ℕ
flow_at p s = slice_index p.flows.sections s

-- the numbers of the sizes that section s may have: those of its list
abbrev pub numbers_at : Project → Catalogues → ℕ → List ℕ
numbers_at p c s = numbers_named c.sizes (row_at p s).list

-- the numbers of the sizes that may stand beside a section: those of its neighbour; at the fan there is none, and that
-- stands in one place
abbrev pub besides_of : Project → Catalogues → Option ℕ → List (Option ℕ)
besides_of p c None = None ∷ []
besides_of p c (Some n) = map (λ number. Some number) (numbers_at p c n)

-- the same of section s
abbrev pub besides : Project → Catalogues → ℕ → List (Option ℕ)
besides p c s = besides_of p c (neighbour p.tree s)

-- what the losses of section s come from, whatever its size
abbrev pub section_facts : Project → Catalogues → ℕ → SectionFacts
section_facts p c s = record {
  density = p.density;
  flow = flow_at p s;
  neighbour_flow = at_neighbour (flow_at p) (neighbour p.tree s);
  length = (row_at p s).length;
  local = (row_at p s).local;
  device = (row_at p s).device;
  table = table_of_row c (row_at p s);
}

-- what rules are told of section s whatever its size; what they are told of sizes is 0 here
abbrev pub told_of_any : Project → Catalogues → ℕ → PairFacts
told_of_any p c s = record {
  section = s;
  size = 0;
  beside = 0;
  at_fan = is_none (neighbour p.tree s);
  flow = flow_at p s;
  area = 0;
  height = 0;
  beside_area = 0;
  velocity_limit = (row_at p s).velocity;
  height_limit = (row_at p s).height;
  taper = p.taper;
  preset = preset_of_row c (row_at p s);
}

-- section s, with the sizes that it may have and what may stand beside it
abbrev pub section_sizes : Project → Catalogues → ℕ → SectionSizes
section_sizes p c s = record {
  facts = section_facts p c s;
  told = told_of_any p c s;
  numbers = numbers_at p c s;
  besides = besides p c s;
}

-- ---- one size of a section, beside one of its neighbour's

-- the number of size k of the section
abbrev pub number_of : SectionSizes → ℕ → ℕ
number_of section k = slice_index section.numbers k

-- the number of what stands beside the section in place g; none at the fan
abbrev pub beside_of : SectionSizes → ℕ → Option ℕ
beside_of section g = unwrap_or (slice_get section.besides g) None

-- the area of the size with the number; 0 at the fan
abbrev pub area_beside : Catalogues → Option ℕ → ℕ
area_beside c beside = option_map_or (λ number. (size_at c.sizes number).area) beside 0

-- what rules are told of the section in its size k beside its neighbour's size g, 0 at the fan
abbrev pub told : Catalogues → SectionSizes → ℕ → ℕ → PairFacts
told c section k g = record section.told {
  size = k;
  beside = g;
  area = (size_at c.sizes (number_of section k)).area;
  height = (size_at c.sizes (number_of section k)).height;
  beside_area = area_beside c (beside_of section g);
}
