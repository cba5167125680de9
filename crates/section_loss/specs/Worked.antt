-- A small network that is worked by hand: `main` of 10,000 mm at the fan, `left` of 5,000 mm and `right` of 20,000 mm
-- beyond it, in the sizes of 20,000 and 50,000 mm2.
use Rattle.std.specs.Prelude.{List, [], ◌∷◌, codes, pos, None, Some}
use Rattle.friction_table.specs.declared.row.FlowRate.{FlowRate}
use Rattle.fitting_tables.specs.declared.row.Cell.{Cell}
use Rattle.fitting_tables.specs.Fittings.{Tables}
use Rattle.size_catalogue.specs.declared.row.Size.{Size}
use Rattle.section_loss.specs.declared.facts.SectionFacts.{SectionFacts}

-- 20,000 mm2: 2,000 cents for a metre, 500 for a join, 300 for a step
abbrev pub narrow : Size
narrow = record {
  name = codes "R1";
  list = 0;
  area = 20000;
  height = 160;
  metre = 2000;
  join = 500;
  step = 300;
}

-- 50,000 mm2: 3,000 cents for a metre, 800 for a join, 400 for a step
abbrev pub wide : Size
wide = record {
  name = codes "R2";
  list = 0;
  area = 50000;
  height = 250;
  metre = 3000;
  join = 800;
  step = 400;
}

-- from 500 mPa/m at 100 l/s to 2,500 at 300
abbrev pub rates_of_narrow : List FlowRate
rates_of_narrow = record { flow = 100; rate = 500 } ∷ record { flow = 300; rate = 2500 } ∷ []

-- from 100 mPa/m at 100 l/s to 900 at 500
abbrev pub rates_of_wide : List FlowRate
rates_of_wide = record { flow = 100; rate = 100 } ∷ record { flow = 500; rate = 900 } ∷ []

-- areas 400 and 1,000, flows 250 and 750
abbrev pub tee : List Cell
tee =
    record { area = 400; flow = 250; value = pos 900 }
    ∷ record { area = 400; flow = 750; value = pos 700 }
    ∷ record { area = 1000; flow = 250; value = pos 500 }
    ∷ record { area = 1000; flow = 750; value = pos 300 }
    ∷ []

-- one table
abbrev pub fittings : Tables
fittings = record { names = codes "tee" ∷ []; grids = tee ∷ [] }

-- 400 l/s, a local coefficient of 0.1
abbrev pub main : SectionFacts
main = record {
  density = 1200;
  flow = 400;
  neighbour_flow = 0;
  length = 10000;
  local = 100;
  device = 0;
  table = None;
}

-- 150 l/s beside 400, a device of 150 dPa
abbrev pub left : SectionFacts
left = record {
  density = 1200;
  flow = 150;
  neighbour_flow = 400;
  length = 5000;
  local = 0;
  device = 150;
  table = Some 0;
}

-- 250 l/s beside 400, a device of 150 dPa
abbrev pub right : SectionFacts
right = record {
  density = 1200;
  flow = 250;
  neighbour_flow = 400;
  length = 20000;
  local = 0;
  device = 150;
  table = Some 0;
}
