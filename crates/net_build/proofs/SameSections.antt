-- Sections of two projects that differ in rows and flows, of which the same is known.
use Rattle.std.proofs.Common.{◌≡◌, ℕ, List, Option, ap, ◌∙◌}
use Rattle.std.specs.Prelude.{is_none}
use Rattle.duct_definitions.specs.Airflow.{Flows}
use Rattle.duct_definitions.specs.Tree.{neighbour, at_neighbour}
use Rattle.project_file.specs.declared.project.Project.{Project}
use Rattle.project_file.specs.declared.section_row.SectionRow.{SectionRow}
use Rattle.net_build.specs.declared.sections.SectionSizes.{SectionSizes}
use Rattle.net_build.specs.Catalogues.{Catalogues}
use Rattle.net_build.specs.Joining.{table_of_row, preset_of_row}
use Rattle.net_build.specs.Rows.{row_at}
use Rattle.net_build.specs.Sections.{flow_at, numbers_at, besides, section_sizes}

-- the project with other rows and flows
abbrev pub with_rows : Project → List SectionRow → Flows → Project
with_rows p rows flows = record p { sections = rows; flows = flows }

-- section s of the project where it says this of it, and it carries so much
abbrev sizes_with : Project → Catalogues → ℕ → ℕ → ℕ → SectionRow → List ℕ → List (Option ℕ) → SectionSizes
sizes_with p c s own next row numbers beside = record {
  facts = record { density = p.density; flow = own; neighbour_flow = next; length = row.length; local = row.local; device = row.device; table = table_of_row c row };
  told = record {
    section = s;
    size = 0;
    beside = 0;
    at_fan = is_none (neighbour p.tree s);
    flow = own;
    area = 0;
    height = 0;
    beside_area = 0;
    velocity_limit = row.velocity;
    height_limit = row.height;
    taper = p.taper;
    preset = preset_of_row c row;
  };
  numbers = numbers;
  besides = beside;
}

pub section-same : (p : Project) (rows : List SectionRow) (flows : Flows) (c : Catalogues) (s : ℕ) → flow_at (with_rows p rows flows) s ≡ flow_at p s
    → at_neighbour (flow_at (with_rows p rows flows)) (neighbour p.tree s) ≡ at_neighbour (flow_at p) (neighbour p.tree s) → row_at (with_rows p rows flows) s ≡ row_at p s → numbers_at (with_rows p rows flows) c s ≡ numbers_at p c s
    → besides (with_rows p rows flows) c s ≡ besides p c s → section_sizes (with_rows p rows flows) c s ≡ section_sizes p c s
section-same p rows flows c s own next row numbers beside =
    let q : Project = with_rows p rows flows in
    ap (λ n. sizes_with p c s n (at_neighbour (flow_at q) (neighbour p.tree s)) (row_at q s) (numbers_at q c s) (besides q c s)) own
    ∙ ap (λ n. sizes_with p c s (flow_at p s) n (row_at q s) (numbers_at q c s) (besides q c s)) next
    ∙ ap (λ r. sizes_with p c s (flow_at p s) (at_neighbour (flow_at p) (neighbour p.tree s)) r (numbers_at q c s) (besides q c s)) row
    ∙ ap (λ ns. sizes_with p c s (flow_at p s) (at_neighbour (flow_at p) (neighbour p.tree s)) (row_at p s) ns (besides q c s)) numbers
    ∙ ap (λ bs. sizes_with p c s (flow_at p s) (at_neighbour (flow_at p) (neighbour p.tree s)) (row_at p s) (numbers_at p c s) bs) beside
