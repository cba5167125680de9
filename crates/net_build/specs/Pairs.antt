-- Which pairs of sizes a network has, and what each loses and costs.
--   SizePair                     a size of a section, and one of its neighbour's
--   size_pairs section           all of a section, by its own size and then by its neighbour's
--   loss_at, price_at            what the section loses and costs there; a loss is none where there is no friction
--   is_permitted                 there is friction, and every rule allows what it is told
--   pair_of                      the loss and the price, exactly where the pair is permitted
use Rattle.std.specs.Prelude.{ℕ, List, length, map, Bool, ◌&&◌, Option, None, is_some, option_map, if◌then◌else◌}
use Rattle.std.specs.List.{range_with_len, flat_map}
use Rattle.duct_definitions.specs.declared.design.Pair.{Pair}
use Rattle.friction_table.specs.Loss.{friction_loss}
use Rattle.friction_table.specs.Reading.{table_of}
use Rattle.section_loss.specs.Loss.{loss_of}
use Rattle.section_loss.specs.Price.{is_stepped, price_of}
use Rattle.design_rules.specs.Meanings.{Meaning, all_allow}
use Rattle.net_build.specs.declared.sections.SectionSizes.{SectionSizes}
use Rattle.net_build.specs.Catalogues.{Catalogues, size_at}
use Rattle.net_build.specs.Sections.{number_of, beside_of, told}

-- a size of a section, and one of its neighbour's, both by their places; beside is 0 at the fan
pub record SizePair : Type 0 where
  pub size : ℕ
  pub beside : ℕ

-- size k with each size of the neighbour
abbrev pub pairs_in_size : SectionSizes → ℕ → List SizePair
pairs_in_size section k =
    map (λ g. record { size = k; beside = g }) (range_with_len 0 (length section.besides))

-- all pairs of sizes of the section, by its own size and then by its neighbour's
abbrev pub size_pairs : SectionSizes → List SizePair
size_pairs section = flat_map (pairs_in_size section) (range_with_len 0 (length section.numbers))

-- what the section loses there, dPa; none where the size has no friction at its airflow
abbrev pub loss_at : Catalogues → SectionSizes → SizePair → Option ℕ
loss_at c section pair =
    let number = number_of section pair.size in
    loss_of section.facts (table_of c.friction number) c.fittings (size_at c.sizes number)
    (option_map (size_at c.sizes) (beside_of section pair.beside))

-- what it costs there, cents
abbrev pub price_at : Catalogues → SectionSizes → SizePair → ℕ
price_at c section pair =
    let number = number_of section pair.size in
    price_of section.facts.length (size_at c.sizes number) (is_stepped number (beside_of section pair.beside))

-- size k has friction at the airflow of the section
abbrev pub has_friction : Catalogues → SectionSizes → ℕ → Bool
has_friction c section k =
    is_some (friction_loss (table_of c.friction (number_of section k)) section.facts.flow section.facts.length)

-- there is friction, and every rule allows what it is told
abbrev pub is_permitted : Catalogues → List Meaning → SectionSizes → SizePair → Bool
is_permitted c rules section pair =
    has_friction c section pair.size && all_allow rules (told c section pair.size pair.beside)

-- what the section loses and costs there; none where there is no friction
abbrev pub possible_pair : Catalogues → SectionSizes → SizePair → Option Pair
possible_pair c section pair =
    option_map (λ loss. record { loss = loss; price = price_at c section pair }) (loss_at c section pair)

-- the same, where the pair is permitted
abbrev pub pair_of : Catalogues → List Meaning → SectionSizes → SizePair → Option Pair
pair_of c rules section pair = if is_permitted c rules section pair then possible_pair c section pair else None
