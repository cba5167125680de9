-- The children of a section, and the sum of their leasts.
use Rattle.std.proofs.Common.{◌≡◌, ℕ, ◌+◌, ◌*◌, ◌^◌, ◌<◌, ◌≤◌, Bool, refl, arith, ap, sym, ◌∙◌, subst, zero, suc, Option, Some, None, List, [], ◌∷◌, length, get_or, take}
use Rattle.std.proofs.lemmas.List.Sums.{length-filter, count_by-le-length}
use Rattle.std.proofs.lemmas.List.{take_all}
use Rattle.std.proofs.lemmas.List.FromFn.{length-range_with_len}
use Rattle.duct_definitions.specs.declared.limits.TheConstants.{MAX_SECTIONS, MAX_PRICE}
use Rattle.duct_definitions.specs.Tree.{Tree, IsTree, section_count, sections, neighbour, is_number, children}
use Rattle.duct_definitions.specs.Network.{Network, size_count, columns, cap}
use Rattle.duct_definitions.proofs.TreeLaws.{few_sections}
use Rattle.duct_definitions.proofs.SectionLists.{chosen_below, chosen_pass, is_number-some}
use Rattle.duct_units.specs.Prices.{both_of}
use Rattle.least_laws.specs.Prices.{sum_of}
use Rattle.least_laws.specs.LeastFromChildren.{least_in}
use Rattle.least_laws.proofs.DuctsOf.{columns-child}
use Rattle.least_laws.proofs.SumOf.{sum_of-take_get_or}
use Rattle.least_laws.specs.Least.{IsLeast}
use Rattle.contract_join.specs.SectionFronts.{SectionData, AreFrontsOf, most_beyond}
use Rattle.expand_sizes.proofs.Entries.{entry-beside, entry-within, entry-least, entry-bound}

-- the section of a place in the list of children is one, and has this one as its neighbour
child-within : (t : Tree) (s i d : ℕ) → i < length (children t s) → get_or (children t s) i d < section_count t
child-within t s i d within = chosen_below (λ c. is_number s (neighbour t c)) (section_count t) i d within

child-is : (t : Tree) (s i d : ℕ) → i < length (children t s) → neighbour t (get_or (children t s) i d) ≡ Some s
child-is t s i d within =
    is_number-some s (neighbour t (get_or (children t s) i d))
    (chosen_pass (λ c. is_number s (neighbour t c)) (section_count t) i d within)

children-few : (t : Tree) (s : ℕ) → length (children t s) ≤ section_count t
children-few t s =
    let test : ℕ → Bool = λ c. is_number s (neighbour t c) in
    let count = length-filter test (sections t) in
    let few = count_by-le-length test (sections t) in
    let all = length-range_with_len 0 (section_count t) in
    omega arith

both_of-none : (x : Option ℕ) → both_of x None ≡ None
both_of-none None = refl
both_of-none (Some x) = refl

-- a sum of which one price isn't there
sum_of-none : (price : ℕ → Option ℕ) (xs : List ℕ) (i d : ℕ) → i < length xs → price (get_or xs i d) ≡ None
    → sum_of price xs ≡ None
sum_of-none price [] i d within none = absurd (omega arith)
sum_of-none price (x ∷ xs) zero d within none = ap (λ o. both_of o (sum_of price xs)) none
sum_of-none price (x ∷ xs) (suc i) d within none =
    ap (both_of (price x)) (sum_of-none price xs i d (omega arith) none) ∙ both_of-none (price x)

-- the price of the first i children of a section of size k, from the fronts of all sections
pub record IsSummed (net : Network) (fronts : List SectionData) (s k budget : ℕ) (found : List ℕ) (i price : ℕ)
    : Type 0 where
  pub tree : IsTree net.tree
  pub entries : AreFrontsOf net fronts
  pub in_range : k < size_count net s
  pub found_is : found ≡ children net.tree s
  pub sum : sum_of (λ c. least_in net c k budget) (take i found) ≡ Some price
  pub bound : price ≤ i * (MAX_SECTIONS * MAX_PRICE)

pub summed-none : (net : Network) (fronts : List SectionData) (s k budget : ℕ) (found : List ℕ) → IsTree net.tree
    → AreFrontsOf net fronts → k < size_count net s → found ≡ children net.tree s
    → IsSummed net fronts s k budget found 0 0
summed-none net fronts s k budget found tree are in_range is = record {
  tree = tree;
  entries = are;
  in_range = in_range;
  found_is = is;
  sum = refl;
  bound = omega arith;
}

module _ {net : Network} {fronts : List SectionData} {s k budget : ℕ} {found : List ℕ} {i price : ℕ}
    (summed : IsSummed net fronts s k budget found i price) where
  -- so many children have a price that fits
  summed-few : i ≤ length found → price ≤ MAX_SECTIONS * (MAX_SECTIONS * MAX_PRICE)
  summed-few within =
      let few = children-few net.tree s in
      let long = ap length summed.found_is in
      let most = few_sections net.tree summed.tree in
      let bounded = summed.bound in
      omega arith

  pub summed-all : i ≤ length found → length found ≤ i
      → (Some price ≡ sum_of (λ c. least_in net c k budget) (children net.tree s)) × (price + MAX_PRICE < 2 ^ 64)
  summed-all within past =
      let few = summed-few within in (
        sym summed.sum
            ∙ ap (sum_of (λ c. least_in net c k budget)) (take_all i found past ∙ summed.found_is),
        omega arith,
      )

  -- the next child, and its entry among the fronts
  module _ (less : i < length found) (entry : SectionData) (is : entry ≡ get_or fronts (get_or found i 0) entry) where
    is_child : (get_or found i 0 < section_count net.tree) × (neighbour net.tree (get_or found i 0) ≡ Some s)
    is_child =
        subst (λ xs. i < length xs → (get_or xs i 0 < section_count net.tree) ×
        (neighbour net.tree (get_or xs i 0) ≡ Some s))
        (sym summed.found_is) (λ inside. (child-within net.tree s i 0 inside, child-is net.tree s i 0 inside)) less

    within : get_or found i 0 < section_count net.tree
    within = is_child.0

    beside : k < columns net (get_or found i 0)
    beside =
        let many = columns-child net (get_or found i 0) s is_child.1 in
        let in_range = summed.in_range in
        omega arith

    pub next-beside : k < columns entry.net entry.section
    next-beside = entry-beside summed.entries within is k beside

    pub next-within : budget ≤ cap net → budget ≤ cap entry.net
    next-within = entry-within summed.entries within is budget

    next-least : (o : Option ℕ) → IsLeast entry.net entry.section k budget o
        → o ≡ least_in net (get_or found i 0) k budget
    next-least o =
        entry-least summed.entries within is summed.tree k budget o beside

    next-bound : (more : ℕ) → more ≤ most_beyond entry.net → more ≤ MAX_SECTIONS * MAX_PRICE
    next-bound more bound =
        let few = entry-bound summed.entries within is (Some more) bound in
        let most = few_sections net.tree summed.tree in
        omega arith

    -- a child without a price
    pub next-none : IsLeast entry.net entry.section k budget None
        → None ≡ sum_of (λ c. least_in net c k budget) (children net.tree s)
    next-none least =
        sym (subst (λ xs. sum_of (λ c. least_in net c k budget) xs ≡ None) summed.found_is
        (sum_of-none (λ c. least_in net c k budget) found i 0 less (sym (next-least None least))))

    -- the price of one more child
    pub next-more : (more : ℕ) → IsLeast entry.net entry.section k budget (Some more) → more ≤ most_beyond entry.net
        → IsSummed net fronts s k budget found (i + 1) (price + more)
    next-more more least bound = record {
      tree = summed.tree;
      entries = summed.entries;
      in_range = summed.in_range;
      found_is = summed.found_is;
      sum =
          sum_of-take_get_or (λ c. least_in net c k budget) found i 0 less
          ∙ ap (λ o. both_of o (least_in net (get_or found i 0) k budget)) summed.sum
          ∙ ap (both_of (Some price)) (sym (next-least (Some more) least));
      bound =
          let few = next-bound more bound in
          let bounded = summed.bound in
          omega arith;
    }

    pub next-fits : (more : ℕ) → more ≤ most_beyond entry.net → price + more < 2 ^ 64
    next-fits more bound =
        let few = next-bound more bound in
        let bounded = summed-few (omega arith) in
        omega arith
