-- What the test of a size tells: its price is the least, or it isn't.
use Rattle.std.proofs.Common.{◌≡◌, ℕ, ◌<◌, ◌≤◌, true, false, refl, ap, sym, ◌∙◌, arith, Option, Some, None, List, get_or}
use Rattle.std.specs.Prelude.{nat_eq}
use Rattle.std.specs.Option.{option_eq}
use Rattle.std.proofs.lemmas.Bool.{eqb-true, eq-eqb}
use Rattle.duct_definitions.specs.Network.{Network, size_count, columns, cap}
use Rattle.least_laws.specs.Least.{IsLeast}
use Rattle.least_laws.specs.LeastFromChildren.{least_with, least_in}
use Rattle.least_laws.specs.Choosing.{Attains}
use Rattle.least_laws.proofs.Attained.{size_attains}
use Rattle.contract_join.specs.SectionFronts.{SectionData, AreFrontsOf}
use Rattle.expand_sizes.specs.Descent.{CanBeSized}
use Rattle.expand_sizes.proofs.Entries.{entry-beside, entry-within, entry-least}

same-price : (price least : Option ℕ) → option_eq nat_eq price least ≡ true → price ≡ least
same-price None None is = refl
same-price None (Some y) is = absurd (cc is)
same-price (Some x) None is = absurd (cc is)
same-price (Some x) (Some y) is = ap Some (eqb-true x y is)

price-same : (price : Option ℕ) → option_eq nat_eq price price ≡ true
price-same None = refl
price-same (Some x) = eq-eqb x x refl

-- section s, beside size g with so much left, and its entry among the fronts
module _ {net : Network} {fronts : List SectionData} {s g left : ℕ} (are : AreFrontsOf net fronts)
    (sizable : CanBeSized net s g left) {entry : SectionData} (is : entry ≡ get_or fronts s entry) where
  pub least-beside : g < columns entry.net entry.section
  least-beside = entry-beside are sizable.section is g sizable.beside

  pub least-within : left ≤ cap entry.net
  least-within = entry-within are sizable.section is left sizable.within

  module _ (least : Option ℕ) (found : IsLeast entry.net entry.section g left least) where
    least-is : least ≡ least_in net s g left
    least-is = entry-least are sizable.section is sizable.tree g left least sizable.beside found

    pub attains-if : {k : ℕ} {price : Option ℕ} → k < size_count net s
        → price ≡ least_with net (least_in net) s g left k → option_eq nat_eq price least ≡ true
        → Attains net s g left k
    attains-if {k} {price} within price_is test = record {
      in_range = within;
      there = sizable.there;
      equal = sym price_is ∙ same-price price least test ∙ least-is;
    }

    pub attains-unless : {k : ℕ} {price : Option ℕ} → price ≡ least_with net (least_in net) s g left k
        → option_eq nat_eq price least ≡ false → Attains net s g left k → ⊥
    attains-unless {k} {price} price_is test attains =
        let same : price ≡ least = price_is ∙ attains.equal ∙ sym least-is in
        let both : true ≡ false = sym (price-same price) ∙ ap (option_eq nat_eq price) same ∙ test in
        absurd (cc both)

-- some size attains the least
pub some-attains : {net : Network} {s g left n : ℕ} → CanBeSized net s g left → size_count net s ≤ n
    → ((k : ℕ) → k < n → Attains net s g left k → ⊥) → ⊥
some-attains {net} {s} {g} {left} sizable all none =
    let some = size_attains net sizable.tree s g left sizable.section sizable.beside sizable.there in
    let within = some.1.in_range in
    none some.0 (omega arith) some.1
