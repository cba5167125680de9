-- The network of a project is one.
use Rattle.std.proofs.Common.{◌≡◌, ℕ, zero, suc, ◌+◌, ◌*◌, ◌<◌, ◌≤◌, List, [], ◌∷◌, ◌++◌, map, length, Option, Some, None, true, slice_get, slice_index, fold, sum_by, Ok, Err, All, refl, ap, sym, ◌∙◌, subst, arith, length-append}
use Rattle.std.specs.Prelude.{unwrap_or}
use Rattle.std.specs.List.{range_with_len, flat_map}
use Rattle.std.proofs.lemmas.List.{length-map}
use Rattle.std.proofs.lemmas.List.FromFn.{get_or-map-range_with_len, length-map-range_with_len}
use Rattle.std.proofs.lemmas.Option.{slice_get-get_or}
use Rattle.duct_units.specs.declared.fault.Fault.{Fault}
use Rattle.duct_units.specs.declared.fault.ReadError.{ReadError}
use Rattle.duct_units.specs.declared.fault.ReadError.TheVariants.{Refused, NoMemory}
use Rattle.duct_units.specs.Rules.{Fails, first_broken, unless_refused}
use Rattle.duct_definitions.specs.declared.design.NetFan.{NetFan}
use Rattle.duct_definitions.specs.declared.listed.RuleCount.{RuleCount}
use Rattle.duct_units.proofs.RuleLaws.{none_broken, rule_holds}
use Rattle.duct_definitions.specs.declared.design.Pair.{Pair}
use Rattle.duct_definitions.specs.Airflow.{fan_flow}
use Rattle.duct_definitions.specs.Network.{Network, IsNetwork, IsSection, AreFans, AreNames, IsBounded, sizes_of, size_count, pairs_of as net_pairs_of, columns, columns_beside}
use Rattle.duct_definitions.specs.Tree.{Tree, neighbour, section_count, sections}
use Rattle.duct_definitions.proofs.TreeLaws.{earlier, few_sections}
use Rattle.fan_points.specs.declared.row.FanRow.{FanRow}
use Rattle.project_file.specs.declared.project.Project.{Project}
use Rattle.project_file.specs.declared.section_row.SectionRow.{SectionRow}
use Rattle.project_file.specs.Projects.{IsProject}
use Rattle.size_catalogue.specs.Catalogue.{IsCatalogue}
use Rattle.name_index.specs.Places.{is_among}
use Rattle.design_rules.specs.Meanings.{Meaning}
use Rattle.net_build.specs.declared.sections.SectionSizes.{SectionSizes}
use Rattle.net_build.specs.Rows.{row_at}
use Rattle.net_build.specs.Asking.{none_counted, counts_of}
use Rattle.net_build.specs.Built.{built, built_by_section, network_of, network_and_counts, network_and_refusals, pairs_of, section_pairs, size_names, names_of_numbers, with_pairs_and_fans}
use Rattle.net_build.specs.Refusals.{refusals, refusal_count, refused_in, refusals_of, section_refusals, counts_from, count_of, counted_together}
use Rattle.net_build.specs.Catalogues.{Catalogues}
use Rattle.net_build.specs.Fans.{offered}
use Rattle.net_build.specs.Joining.{joining_rules, rules_of_section}
use Rattle.net_build.specs.Pairs.{pair_of, pairs_in_size, size_pairs}
use Rattle.net_build.specs.Sections.{numbers_at, besides, besides_of, section_sizes}
use Rattle.net_build.proofs.NumberLaws.{list-some, list-few, list-names}
use Rattle.net_build.proofs.PairLaws.{as_pair, sizes-more}

-- what stands at a place of a list of all numbers
get-range : {A : Type 0} (f : ℕ → A) (n s : ℕ) (d : A) → s < n → unwrap_or (slice_get (map f (range_with_len 0 n)) s) d ≡ f s
get-range f n s d less =
    (let l = length-map-range_with_len f 0 n in
    ap (λ o. unwrap_or o d) (slice_get-get_or (map f (range_with_len 0 n)) s d (omega arith)) ∙ get_or-map-range_with_len f 0 n s s d less (omega arith))

-- as many pairs as sizes by what may stand beside them
pair-count : (section : SectionSizes) (k : ℕ) → length (flat_map (pairs_in_size section) (range_with_len 0 k)) ≡ k * length section.besides
pair-count section zero = omega arith
pair-count section (suc k) =
    combine (length (flat_map (pairs_in_size section) (range_with_len 0 (suc k)))) (length (flat_map (pairs_in_size section) (range_with_len 0 k))) (length (flat_map (pairs_in_size section) (range_with_len 0 k) ++ pairs_in_size section k))
    (k * length section.besides) (length section.besides) (length (pairs_in_size section k))
    (ap length (next (suc k) (k + 1) (omega arith) ∙ sizes-more section k))
    (length-append (flat_map (pairs_in_size section) (range_with_len 0 k)) (pairs_in_size section k))
    (pair-count section k)
    (length-map-range_with_len (as_pair k) 0 (length section.besides))
    ∙ one-more k (length section.besides)
  where
    next : (a b : ℕ) → a ≡ b → flat_map (pairs_in_size section) (range_with_len 0 a) ≡ flat_map (pairs_in_size section) (range_with_len 0 b)
    next a b e = ap (λ (n : ℕ). flat_map (pairs_in_size section) (range_with_len 0 n)) e

    combine : (a b d m l n : ℕ) → a ≡ d → d ≡ b + n → b ≡ m → n ≡ l → a ≡ m + l
    combine a b d m l n e f g h = omega arith

    one-more : (k l : ℕ) → k * l + l ≡ suc k * l
    one-more k l = grind arith

has-list : (p : Project) (c : Catalogues) (s : ℕ) → first_broken (joining_rules p c) ≡ None → s < section_count p.tree → is_among (row_at p s).list c.sizes.lists ≡ true
has-list p c s none within =
    (rule_holds (is_among (row_at p s).list c.sizes.lists) _ _ (none_broken (rules_of_section p c) 0 (section_count p.tree) s none (omega arith) (omega arith))).0

sizes-there : (p : Project) (c : Catalogues) (fans : List FanRow) (rules : List Meaning) (s : ℕ) → s < section_count p.tree → sizes_of (network_of p c fans rules) s ≡ size_names p c s
sizes-there p c fans rules s within = get-range (size_names p c) (section_count p.tree) s [] within

count-there : (p : Project) (c : Catalogues) (fans : List FanRow) (rules : List Meaning) (s : ℕ) → s < section_count p.tree → size_count (network_of p c fans rules) s ≡ length (numbers_at p c s)
count-there p c fans rules s within = ap length (sizes-there p c fans rules s within) ∙ length-map (numbers_at p c s) _

columns-there : (p : Project) (c : Catalogues) (fans : List FanRow) (rules : List Meaning) (s : ℕ) → IsProject p → s < section_count p.tree → columns (network_of p c fans rules) s ≡ length (besides p c s)
columns-there p c fans rules s is within = by (neighbour p.tree s) refl
  where
    by : (o : Option ℕ) → neighbour p.tree s ≡ o → columns_beside (network_of p c fans rules) o ≡ length (besides_of p c o)
    by None e = refl
    by (Some n) e = (let b = earlier p.tree s n is.tree within e in count-there p c fans rules n (omega arith) ∙ sym (length-map (numbers_at p c n) (λ (number : ℕ). Some number)))

pairs-there : (p : Project) (c : Catalogues) (fans : List FanRow) (rules : List Meaning) (s : ℕ) → s < section_count p.tree → net_pairs_of (network_of p c fans rules) s ≡ section_pairs p c rules s
pairs-there p c fans rules s within = get-range (section_pairs p c rules) (section_count p.tree) s [] within

is-section : (p : Project) (c : Catalogues) (fans : List FanRow) (rules : List Meaning) (s : ℕ) → IsProject p → IsCatalogue c.sizes → first_broken (joining_rules p c) ≡ None → All (All IsBounded) (map (section_pairs p c rules) (sections p.tree))
    → s < section_count p.tree → IsSection (network_of p c fans rules) s
is-section p c fans rules s is sizes none bounds within =
    (let count = count-there p c fans rules s within in
    let few = list-few c.sizes (row_at p s).list sizes in
    let some = list-some c.sizes (row_at p s).list sizes (has-list p c s none within) in
    let section = section_sizes p c s in
    record {
      some = omega arith;
      few = omega arith;
      sizes = subst AreNames (sym (sizes-there p c fans rules s within)) (list-names c.sizes (row_at p s).list sizes);
      pairs =
          ap length (pairs-there p c fans rules s within) ∙ length-map (size_pairs section) (pair_of c rules section) ∙ pair-count section (length section.numbers)
          ∙ ap (λ n. n * length section.besides) (sym count) ∙ ap (λ n. size_count (network_of p c fans rules) s * n) (sym (columns-there p c fans rules s is within));
      bounds =
          (let l = length-map-range_with_len (section_pairs p c rules) 0 (section_count p.tree) in
          subst (All IsBounded) (sym (ap (λ o. unwrap_or o []) (slice_get-get_or (map (section_pairs p c rules) (sections p.tree)) s [] (omega arith)))) (bounds s [] (omega arith)));
    })

pub is-network : (p : Project) (c : Catalogues) (fans : List FanRow) (rules : List Meaning) → IsProject p → IsCatalogue c.sizes → first_broken (joining_rules p c) ≡ None → AreFans (offered fans p.energy (fan_flow p.flows))
    → All (All IsBounded) (map (section_pairs p c rules) (sections p.tree)) → IsNetwork (network_of p c fans rules)
is-network p c fans rules is sizes none offer bounds = record {
  name = is.name;
  tree = is.tree;
  names = is.names;
  name_count = length-map p.sections (λ row. row.name) ∙ is.count;
  size_lists = length-map-range_with_len (size_names p c) 0 (section_count p.tree);
  pair_lists = length-map-range_with_len (section_pairs p c rules) 0 (section_count p.tree);
  sections = λ s within. is-section p c fans rules s is sizes none bounds within;
  fans = offer;
  return_fans = record {
    names = record { form = λ k d less. absurd (omega arith); distinct = λ i j less inside. absurd (omega arith) };
    bounds = λ k d less. absurd (omega arith);
    few = omega arith;
  };
}

-- ---- the parts, as they are built

joined-sizes : (p : Project) (c : Catalogues) (xs : List ℕ) → map (λ (section : SectionSizes). names_of_numbers c section.numbers) (map (section_sizes p c) xs) ≡ map (size_names p c) xs
joined-sizes p c [] = refl
joined-sizes p c (x ∷ xs) = ap (λ rest. size_names p c x ∷ rest) (joined-sizes p c xs)

joined-pairs : (p : Project) (c : Catalogues) (rules : List Meaning) (xs : List ℕ) → map (pairs_of c rules) (map (section_sizes p c) xs) ≡ map (section_pairs p c rules) xs
joined-pairs p c rules [] = refl
joined-pairs p c rules (x ∷ xs) = ap (λ rest. section_pairs p c rules x ∷ rest) (joined-pairs p c rules xs)

pub network-is : (p : Project) (c : Catalogues) (tree : Tree) (names : List (List ℕ)) (sizes : List (List (List ℕ))) (pairs : List (List (Option Pair))) (fans : List NetFan) (all : List SectionSizes) → tree ≡ p.tree
    → names ≡ map (λ (row : SectionRow). row.name) p.sections → sizes ≡ map (λ (section : SectionSizes). names_of_numbers c section.numbers) all → all ≡ map (section_sizes p c) (sections p.tree)
    → ◌≡◌ {A = Network} (record { name = p.name; tree = tree; names = names; sizes = sizes; pairs = pairs; fans = fans; return_fans = [] }) (with_pairs_and_fans p c pairs fans)
network-is p c tree names sizes pairs fans all same_tree same_names same_sizes found =
    ap (λ t. record { name = p.name; tree = t; names = names; sizes = sizes; pairs = pairs; fans = fans; return_fans = [] }) same_tree
    ∙ ap (λ n. record { name = p.name; tree = p.tree; names = n; sizes = sizes; pairs = pairs; fans = fans; return_fans = [] }) same_names
    ∙ ap (λ z. record { name = p.name; tree = p.tree; names = map (λ (row : SectionRow). row.name) p.sections; sizes = z; pairs = pairs; fans = fans; return_fans = [] })
    (same_sizes ∙ ap (map (λ (section : SectionSizes). names_of_numbers c section.numbers)) found ∙ joined-sizes p c (sections p.tree))

-- the pairs and the fans are those of the definitions
pub built-network : (p : Project) (c : Catalogues) (fans : List FanRow) (rules : List Meaning) (pairs : List (List (Option Pair))) (offer : List NetFan) (all : List SectionSizes) → all ≡ map (section_sizes p c) (sections p.tree)
    → pairs ≡ map (pairs_of c rules) all → offer ≡ offered fans p.energy (fan_flow p.flows) → with_pairs_and_fans p c pairs offer ≡ network_of p c fans rules
built-network p c fans rules pairs offer all found joined on_offer =
    ap (λ ps. with_pairs_and_fans p c ps offer) (joined ∙ ap (map (pairs_of c rules)) found ∙ joined-pairs p c rules (sections p.tree))
    ∙ ap (λ o. with_pairs_and_fans p c (map (section_pairs p c rules) (sections p.tree)) o) on_offer

pub built-is : (p : Project) (c : Catalogues) (fans : List FanRow) (rules : List Meaning) (pairs : List (List (Option Pair))) (offer : List NetFan) (all : List SectionSizes) → IsProject p → IsCatalogue c.sizes
    → first_broken (joining_rules p c) ≡ None → all ≡ map (section_sizes p c) (sections p.tree) → pairs ≡ map (pairs_of c rules) all → offer ≡ offered fans p.energy (fan_flow p.flows) → AreFans offer → All (All IsBounded) pairs
    → IsNetwork (with_pairs_and_fans p c pairs offer)
built-is p c fans rules pairs offer all is sizes none found joined on_offer are bounds =
    subst IsNetwork (sym (built-network p c fans rules pairs offer all found joined on_offer))
    (is-network p c fans rules is sizes none (subst AreFans on_offer are) (subst (All (All IsBounded)) (joined ∙ ap (map (pairs_of c rules)) found ∙ joined-pairs p c rules (sections p.tree)) bounds))

pub found-few : (p : Project) (c : Catalogues) (all : List SectionSizes) → IsProject p → all ≡ map (section_sizes p c) (sections p.tree) → length all ≤ 500
found-few p c all is found = (let f = few_sections p.tree is.tree in let l = ap length found ∙ length-map-range_with_len (section_sizes p c) 0 (section_count p.tree) in omega arith)

-- ---- the counts

pub none-space : (names : List (List ℕ)) (refusals : List RuleCount) (most : ℕ) → refusals ≡ none_counted names → (i : ℕ) → slice_index (counts_of refusals) i ≤ most
none-space names refusals most is i = subst (λ (rs : List RuleCount). slice_index (counts_of rs) i ≤ most) (sym is) (zero-at names i)
  where
    zero-at : (names : List (List ℕ)) (i : ℕ) → slice_index (counts_of (none_counted names)) i ≤ most
    zero-at [] i = omega arith
    zero-at (name ∷ names) zero = omega arith
    zero-at (name ∷ names) (suc i) = zero-at names i

joined-counts : (p : Project) (c : Catalogues) (rules : List Meaning) (names : List (List ℕ)) (xs : List ℕ) → map (refusals_of c rules names) (map (section_sizes p c) xs) ≡ map (section_refusals p c rules names) xs
joined-counts p c rules names [] = refl
joined-counts p c rules names (x ∷ xs) = ap (λ rest. section_refusals p c rules names x ∷ rest) (joined-counts p c rules names xs)

-- the counts are those of the sections
pub built-counts : (p : Project) (c : Catalogues) (rules : List Meaning) (names : List (List ℕ)) (counts : List (List RuleCount)) (all : List SectionSizes) → all ≡ map (section_sizes p c) (sections p.tree)
    → counts ≡ map (refusals_of c rules names) all → counts ≡ map (section_refusals p c rules names) (sections p.tree)
built-counts p c rules names counts all found is = is ∙ ap (map (refusals_of c rules names)) found ∙ joined-counts p c rules names (sections p.tree)

pub built-whole : (p : Project) (c same : Catalogues) (fans : List FanRow) (rules : List Meaning) (names : List (List ℕ)) (net : Network) (counts : List (List RuleCount)) → same ≡ c → first_broken (joining_rules p c) ≡ None
    → net ≡ network_of p c fans rules → counts ≡ map (section_refusals p c rules names) (sections p.tree) → built_by_section p same fans rules names ≡ Ok (net, counts)
built-whole p c same fans rules names net counts one none nets refuse =
    ap (λ x. built_by_section p x fans rules names) one
    ∙ ap (λ o. unless_refused o (network_and_counts p c fans rules names)) none
    ∙ ap (λ n. Ok (n, map (section_refusals p c rules names) (sections p.tree))) (sym nets) ∙ ap (λ r. Ok (net, r)) (sym refuse)

-- ---- the sum of the sections' counts

get-counts : (f : ℕ → ℕ) (k i : ℕ) (names : List (List ℕ)) → i < length names → count_of i (counts_from f k names) ≡ f (k + i)
get-counts f k i [] less = absurd (omega arith)
get-counts f k zero (name ∷ names) less = ap f (omega arith)
get-counts f k (suc i) (name ∷ names) less = get-counts f (k + 1) i names (omega arith) ∙ ap f (omega arith)

fold-same : (f g : List RuleCount → ℕ) (h : ℕ → ℕ) (at : ℕ → List RuleCount) (a : ℕ) (xs : List ℕ) → ((x : ℕ) → f (at x) ≡ h x) → fold (λ a x. a + f x) a (map at xs) ≡ fold (λ a x. a + h x) a xs
fold-same f g h at a [] same = refl
fold-same f g h at a (x ∷ xs) same = ap (λ b. fold (λ a x. a + f x) b (map at xs)) (let e = same x in omega arith) ∙ fold-same f g h at (a + h x) xs same

counts-same : (f g : ℕ → ℕ) (k : ℕ) (names : List (List ℕ)) → ((i : ℕ) → i < length names → f (k + i) ≡ g (k + i)) → counts_from f k names ≡ counts_from g k names
counts-same f g k [] same = refl
counts-same f g k (name ∷ names) same =
    ap (λ n. record { name = name; count = n } ∷ counts_from f (k + 1) names) (ap f (omega arith) ∙ same 0 (omega arith) ∙ ap g (omega arith))
    ∙ ap (λ rest. record { name = name; count = g k } ∷ rest) (counts-same f g (k + 1) names (λ i less. ap f (omega arith) ∙ same (suc i) (omega arith) ∙ ap g (omega arith)))

-- the counts of all sections together are those of the project
pub counted-refusals : (p : Project) (c : Catalogues) (rules : List Meaning) (names : List (List ℕ)) → counted_together (map (section_refusals p c rules names) (sections p.tree)) names ≡ refusals p c rules names
counted-refusals p c rules names =
    counts-same (λ i. sum_by (count_of i) (map (section_refusals p c rules names) (sections p.tree))) (refusal_count p c rules) 0 names
    (λ i less. fold-same (count_of (0 + i)) (count_of (0 + i)) (refused_in p c rules (0 + i)) (section_refusals p c rules names) 0 (sections p.tree)
    (λ s. ap (λ j. count_of j (section_refusals p c rules names s)) (let e : 0 + i ≡ i = omega arith in e) ∙ get-counts (λ j. refused_in p c rules j s) 0 i names less))

-- a network with its counts, from the one with the counts of each section
pub built-together : (p : Project) (c : Catalogues) (fans : List FanRow) (rules : List Meaning) (names : List (List ℕ)) (net : Network) (counts : List (List RuleCount)) (all : List RuleCount)
    → built_by_section p c fans rules names ≡ Ok (net, counts) → all ≡ counted_together counts names → built p c fans rules names ≡ Ok (net, all)
built-together p c fans rules names net counts all is sum = by (first_broken (joining_rules p c)) is
  where
    by : (o : Option Fault) → unless_refused o (network_and_counts p c fans rules names) ≡ Ok (net, counts) → unless_refused o (network_and_refusals p c fans rules names) ≡ Ok (net, all)
    by None e =
        (let pair : network_and_counts p c fans rules names ≡ (net, counts) = cc in
        ap (λ r. Ok (network_of p c fans rules, r)) (sym (counted-refusals p c rules names)) ∙ ap (λ x. Ok (x.0, counted_together x.1 names)) pair ∙ ap (λ r. Ok (net, r)) (sym sum))
    by (Some fault) e = absurd (cc e)

-- a name that joins nothing is the same refusal of both
pub built-refused : (p : Project) (c : Catalogues) (fans : List FanRow) (rules : List Meaning) (names : List (List ℕ)) (error : ReadError)
    → Fails error (built_by_section p c fans rules names) → Fails error (built p c fans rules names)
built-refused p c fans rules names (Refused fault) is = by (first_broken (joining_rules p c)) is
  where
    by : (o : Option Fault) → unless_refused o (network_and_counts p c fans rules names) ≡ Err fault → unless_refused o (network_and_refusals p c fans rules names) ≡ Err fault
    by None e = absurd (cc e)
    by (Some other) e = (let same : other ≡ fault = cc in ap (λ f. Err f) same)
built-refused p c fans rules names NoMemory is = is
