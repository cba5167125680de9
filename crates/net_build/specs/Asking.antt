-- How a network is built section by section.
--   IsOpen c section           its numbers are those of sizes, and its facts are within their bounds
--   chosen c section k         one size of the section, with what it loses by itself and costs
--   added by refusals          the counts, each risen by its number
--   Asked n old new            the rules are the same, and none has refused more than n times more
use Rattle.std.specs.Prelude.{ℕ, ◌+◌, ◌<◌, ◌≤◌, List, [], ◌∷◌, length, map, false, true, All, IfSome, slice_index}
use Rattle.std.specs.Option.{ForSome}
use Rattle.duct_definitions.specs.declared.listed.RuleCount.{RuleCount}
use Rattle.friction_table.specs.Reading.{table_of}
use Rattle.size_catalogue.specs.declared.limits.TheConstants.{MAX_LIST_SIZES}
use Rattle.duct_definitions.specs.declared.limits.TheConstants.{MAX_PRICE}
use Rattle.size_catalogue.specs.Catalogue.{IsSize}
use Rattle.section_loss.specs.declared.limits.TheConstants.{MAX_OWN_LOSS}
use Rattle.section_loss.specs.Facts.{IsFacts, IsJoined}
use Rattle.section_loss.specs.Loss.{own_loss_of}
use Rattle.section_loss.specs.Price.{price_of}
use Rattle.design_rules.specs.Meanings.{Meaning, SameRules}
use Rattle.net_build.specs.declared.sections.SectionSizes.{SectionSizes}
use Rattle.net_build.specs.declared.asking.ChosenSize.{ChosenSize}
use Rattle.net_build.specs.Catalogues.{Catalogues, size_at}
use Rattle.net_build.specs.Sections.{number_of}

-- the numbers are those of sizes, and no more than a list has; the facts are within their bounds
pub record IsOpen (c : Catalogues) (section : SectionSizes) : Type 0 where
  pub numbers : All (λ n. n < length c.sizes.sizes) section.numbers
  pub few : length section.numbers ≤ MAX_LIST_SIZES
  pub besides : All (λ beside. ForSome beside (λ n. n < length c.sizes.sizes)) section.besides
  pub few_beside : length section.besides ≤ MAX_LIST_SIZES
  pub facts : IsFacts section.facts
  pub joined : IsJoined section.facts c.fittings

-- size k of the section, with what it loses by itself and what it costs without a step and with one
abbrev pub chosen : Catalogues → SectionSizes → ℕ → ChosenSize
chosen c section k =
    let number = number_of section k in let size = size_at c.sizes number in record {
      place = k;
      number = number;
      size = size;
      own_loss = own_loss_of section.facts (table_of c.friction number) size;
      price = price_of section.facts.length size false;
      stepped_price = price_of section.facts.length size true;
    }

-- the size is in bounds, and so are its loss and its prices
pub record IsChosen (chosen : ChosenSize) : Type 0 where
  pub size : IsSize chosen.size
  pub own_loss : IfSome chosen.own_loss (λ own. own ≤ MAX_OWN_LOSS)
  pub price : chosen.price ≤ MAX_PRICE
  pub stepped_price : chosen.stepped_price ≤ MAX_PRICE

-- the counts from that of rule i on, each risen by its number
abbrev pub added_from : (ℕ → ℕ) → ℕ → List RuleCount → List RuleCount
added_from by i [] = []
added_from by i (rule ∷ rules) = record { name = rule.name; count = rule.count + by i } ∷ added_from by (i + 1) rules

-- the counts, each risen by its number
abbrev pub added : (ℕ → ℕ) → List RuleCount → List RuleCount
added by refusals = added_from by 0 refusals

-- the counts alone
abbrev pub counts_of : List RuleCount → List ℕ
counts_of refusals = map (λ rule. rule.count) refusals

-- each name with the count 0
abbrev pub none_counted : List (List ℕ) → List RuleCount
none_counted names = map (λ name. record { name = name; count = 0 }) names

-- the rules are the same, and none has refused more than n times more
pub record Asked {B : Type 0} (allows : B → Meaning) (label : B → List ℕ) (count : B → ℕ) (n : ℕ) (old new : List B) : Type 0 where
  pub same : SameRules allows label old new
  pub risen : (i : ℕ) → slice_index (map count new) i ≤ slice_index (map count old) i + n
