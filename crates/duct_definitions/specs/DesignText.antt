-- The printed design, and the text where no design meets the rules. A field is parted from the next by one space.
--   listed net d       the fields of the design's text
--   text l             the text of such fields
--   none_text          the text of a network in which no design meets the rules
use Rattle.std.specs.Prelude.{ℕ, List, [], ◌∷◌, ◌++◌, codes, map, slice_index, Option, Some, None}
use Rattle.std.specs.Fmt.{decimal}
use Rattle.std.specs.List.{flat_map}
use Rattle.duct_units.specs.Lines.{line}
use Rattle.duct_units.specs.declared.side.Side.TheVariants.{Supply, Return}
use Rattle.duct_definitions.specs.declared.design.Design.{Design}
use Rattle.duct_definitions.specs.declared.listed.Listed.{Listed}
use Rattle.duct_definitions.specs.declared.design.NetFan.{NetFan}
use Rattle.duct_definitions.specs.declared.listed.ListedFan.{ListedFan}
use Rattle.duct_definitions.specs.declared.listed.ListedSection.{ListedSection}
use Rattle.duct_definitions.specs.declared.listed.RuleCount.{RuleCount}
use Rattle.duct_definitions.specs.Tree.{sections}
use Rattle.duct_definitions.specs.Network.{Network, fan_at, return_fan_at, section_name, size_name}
use Rattle.duct_definitions.specs.Designs.{pair_of, loss_of, price_of, worst, cost}
use Rattle.duct_definitions.specs.Dampers.{head, damper}

-- the fields of the line of section s
abbrev pub listed_section : Network → Design → ℕ → ListedSection
listed_section net d s = record {
  name = section_name net s;
  size = size_name net s (slice_index d.sizes s);
  loss = loss_of (pair_of net d s);
  price = price_of (pair_of net d s);
  damper = damper net d s;
}

-- the fields of the line of a fan
abbrev pub listed_fan : NetFan → ListedFan
listed_fan fan = record { name = fan.name; pressure = fan.pressure; cost = fan.cost }

-- the fields of the return fan's line, where there is one
abbrev pub listed_back : Network → Option ℕ → Option ListedFan
listed_back net None = None
listed_back net (Some i) = Some (listed_fan (return_fan_at net i))

-- the fields of the design's text
abbrev pub listed : Network → Design → Listed
listed net d = record {
  project = net.name;
  fan = (fan_at net d.fan).name;
  pressure = (fan_at net d.fan).pressure;
  fan_cost = (fan_at net d.fan).cost;
  back = listed_back net d.back;
  supply_worst = worst net d Supply;
  supply_head = head net d Supply;
  return_worst = worst net d Return;
  return_head = head net d Return;
  sections = map (listed_section net d) (sections net.tree);
  total = cost net d;
}

-- the lines that each text begins with: its form, and the project
abbrev pub heading : List ℕ → List ℕ → List ℕ
heading form project = line (codes "design") (form ∷ []) ++ line (codes "project") (project ∷ [])

-- the form of a text with one fan, or with a return fan
abbrev pub form_of : Option ListedFan → List ℕ
form_of None = codes "1"
form_of (Some fan) = codes "2"

-- the line of a fan, behind its first word
abbrev pub fan_line : List ℕ → ListedFan → List ℕ
fan_line first fan = line first (fan.name ∷ decimal fan.pressure ∷ decimal fan.cost ∷ [])

-- the fields of the line of the fan
abbrev pub first_fan : Listed → ListedFan
first_fan l = record { name = l.fan; pressure = l.pressure; cost = l.fan_cost }

-- the return fan's line, where there is one
abbrev pub back_line : Option ListedFan → List ℕ
back_line None = []
back_line (Some fan) = fan_line (codes "return-fan") fan

-- the line of a section
abbrev pub section_line : ListedSection → List ℕ
section_line s = line (codes "section") (s.name ∷ s.size ∷ decimal s.loss ∷ decimal s.price ∷ decimal s.damper ∷ [])

-- the text of these fields
abbrev pub text : Listed → List ℕ
text l =
    heading (form_of l.back) l.project
    ++ fan_line (codes "fan") (first_fan l)
    ++ back_line l.back
    ++ line (codes "supply") (decimal l.supply_worst ∷ decimal l.supply_head ∷ [])
    ++ line (codes "return") (decimal l.return_worst ∷ decimal l.return_head ∷ [])
    ++ flat_map section_line l.sections
    ++ line (codes "cost") (decimal l.total ∷ [])
    ++ line (codes "end") []

-- the line of a rule and how many pairs it refused
abbrev pub refused_line : RuleCount → List ℕ
refused_line rule = line (codes "refused") (rule.name ∷ decimal rule.count ∷ [])

-- the text of a network in which no design meets the rules
abbrev pub none_text : List ℕ → List RuleCount → List ℕ
none_text project refusals =
    heading (codes "1") project ++ line (codes "none") [] ++ flat_map refused_line refusals ++ line (codes "end") []
