-- What the catalogues answer to a question, which is a row of fields.
--   answer_of            the answer of the call that the first field names; none where the row is no question
use Rattle.std.specs.Prelude.{ℕ, ◌-◌, nat_lt, ◌||◌, not, codes, Option, None, Some, is_some, slice_get, if◌then◌else◌}
use Rattle.duct_units.specs.Options.{◌>>=◌}
use Rattle.file_definitions.specs.Rows.{Row, has_field, name_field, number_field}
use Rattle.name_index.specs.Places.{place_of}
use Rattle.size_catalogue.specs.declared.row.Size.{Size}
use Rattle.size_catalogue.specs.Catalogue.{names_of}
use Rattle.duct_definitions.specs.declared.airflow.TheConstants.{MAX_FLOW}
use Rattle.duct_definitions.specs.declared.duct.TheConstants.{MAX_LENGTH, MIN_DENSITY, MAX_DENSITY, MAX_LOCAL, MAX_DEVICE}
use Rattle.friction_table.specs.declared.limits.TheConstants.{MIN_FLOW}
use Rattle.friction_table.specs.Loss.{friction_loss}
use Rattle.friction_table.specs.Reading.{table_of}
use Rattle.fitting_tables.specs.Coefficient.{coefficient_of}
use Rattle.fitting_tables.specs.Fittings.{cells_of}
use Rattle.fan_points.specs.declared.limits.TheConstants.{MAX_POINTS, MAX_HOURS, MAX_TARIFF, MAX_WORTH}
use Rattle.fan_points.specs.declared.row.FanRow.{FanRow}
use Rattle.fan_points.specs.Energy.{energy_of, serves}
use Rattle.section_loss.specs.declared.facts.SectionFacts.{SectionFacts}
use Rattle.section_loss.specs.Loss.{junction_loss_of, loss_of}
use Rattle.section_loss.specs.Price.{is_stepped, price_of}
use Rattle.loss_listing.specs.declared.answer.TheConstants.{MOST}
use Rattle.loss_listing.specs.declared.answer.Answer.{Answer}
use Rattle.loss_listing.specs.declared.answer.Answer.TheVariants.{Nothing, Amount, Signed, Truth}
use Rattle.loss_listing.specs.declared.catalogues.Catalogues.{Catalogues}

-- ---- what a field names

-- the number of the size that the field names
abbrev pub size_at : Catalogues → Row → ℕ → Option ℕ
size_at catalogues row i = name_field row i >>= λ name. place_of name (names_of catalogues.sizes.sizes)

-- the size that the field names
abbrev pub whole_size_at : Catalogues → Row → ℕ → Option Size
whole_size_at catalogues row i = size_at catalogues row i >>= λ number. slice_get catalogues.sizes.sizes number

-- the number of the table that the field names
abbrev pub table_at : Catalogues → Row → ℕ → Option ℕ
table_at catalogues row i = name_field row i >>= λ name. place_of name catalogues.fittings.names

-- the fan whose number from 1 the field is
abbrev pub fan_at : Catalogues → Row → ℕ → Option FanRow
fan_at catalogues row i = number_field row i 1 MAX_POINTS >>= λ number. slice_get catalogues.fans (number - 1)

-- ---- the answers

-- a number, or nothing
abbrev pub amount_of : Option ℕ → Answer
amount_of None = Nothing
amount_of (Some number) = Amount number

-- friction,SIZE,AIRFLOW,LENGTH
abbrev pub friction_answer : Catalogues → Row → Option Answer
friction_answer catalogues row = do
  size ← size_at catalogues row 1
  flow ← number_field row 2 MIN_FLOW MAX_FLOW
  length ← number_field row 3 0 MAX_LENGTH
  Some (amount_of (friction_loss (table_of catalogues.friction size) flow length))

-- coefficient,TABLE,AREA RATIO,FLOW RATIO
abbrev pub coefficient_answer : Catalogues → Row → Option Answer
coefficient_answer catalogues row = do
  table ← table_at catalogues row 1
  area ← number_field row 2 0 MOST
  flow ← number_field row 3 0 MOST
  Some (Signed (coefficient_of (cells_of catalogues.fittings table) area flow))

-- the facts of a section, from the fourth field on
abbrev pub facts_at : Catalogues → Row → Option SectionFacts
facts_at catalogues row = do
  density ← number_field row 3 MIN_DENSITY MAX_DENSITY
  flow ← number_field row 4 MIN_FLOW MAX_FLOW
  neighbour_flow ← number_field row 5 0 MAX_FLOW
  length ← number_field row 6 0 MAX_LENGTH
  local ← number_field row 7 0 MAX_LOCAL
  device ← number_field row 8 0 MAX_DEVICE
  Some (record {
    density = density;
    flow = flow;
    neighbour_flow = neighbour_flow;
    length = length;
    local = local;
    device = device;
    table = table_at catalogues row 9;
  })

-- the same, where the neighbour of a section with a junction has an airflow
abbrev pub joined_facts : Catalogues → Row → Option SectionFacts
joined_facts catalogues row = do
  facts ← facts_at catalogues row
  if not (is_some facts.table) || nat_lt 0 facts.neighbour_flow then Some facts else None

-- loss,SIZE,BESIDE,DENSITY,AIRFLOW,NEIGHBOUR'S AIRFLOW,LENGTH,LOCAL,DEVICE,TABLE
abbrev pub loss_answer : Catalogues → Row → Option Answer
loss_answer catalogues row = do
  facts ← joined_facts catalogues row
  number ← size_at catalogues row 1
  size ← slice_get catalogues.sizes.sizes number
  Some (amount_of (loss_of facts (table_of catalogues.friction number) catalogues.fittings size (whole_size_at catalogues row 2)))

-- junction, and the same
abbrev pub junction_answer : Catalogues → Row → Option Answer
junction_answer catalogues row = do
  facts ← joined_facts catalogues row
  size ← whole_size_at catalogues row 1
  Some (Signed (junction_loss_of facts catalogues.fittings size (whole_size_at catalogues row 2)))

-- price,SIZE,BESIDE,LENGTH
abbrev pub price_answer : Catalogues → Row → Option Answer
price_answer catalogues row = do
  number ← size_at catalogues row 1
  length ← number_field row 3 0 MAX_LENGTH
  size ← slice_get catalogues.sizes.sizes number
  Some (Amount (price_of length size (is_stepped number (size_at catalogues row 2))))

-- energy,FAN,HOURS,TARIFF,WORTH
abbrev pub energy_answer : Catalogues → Row → Option Answer
energy_answer catalogues row = do
  fan ← fan_at catalogues row 1
  hours ← number_field row 2 0 MAX_HOURS
  tariff ← number_field row 3 0 MAX_TARIFF
  worth ← number_field row 4 0 MAX_WORTH
  Some (Amount (energy_of fan (record { hours = hours; tariff = tariff; worth = worth })))

-- serves,FAN,AIRFLOW
abbrev pub serves_answer : Catalogues → Row → Option Answer
serves_answer catalogues row = do
  fan ← fan_at catalogues row 1
  flow ← number_field row 2 0 MOST
  Some (Truth (serves flow fan))

-- the answer of the call that the first field names; none where the row is no question
abbrev pub answer_of : Catalogues → Row → Option Answer
answer_of catalogues row =
    if has_field (codes "friction") 0 row then friction_answer catalogues row
    else if has_field (codes "coefficient") 0 row then coefficient_answer catalogues row
    else if has_field (codes "junction") 0 row then junction_answer catalogues row
    else if has_field (codes "loss") 0 row then loss_answer catalogues row
    else if has_field (codes "price") 0 row then price_answer catalogues row
    else if has_field (codes "energy") 0 row then energy_answer catalogues row
    else if has_field (codes "serves") 0 row then serves_answer catalogues row
    else None
