-- How pairs and refusals grow, pair by pair.
use Rattle.std.proofs.Common.{◌≡◌, ℕ, zero, suc, ◌+◌, ◌*◌, ◌≤◌, List, [], ◌∷◌, ◌++◌, map, length, Bool, true, false, ◌&&◌, cond, Option, Some, None, option_map, filter, ℤ, pos, ◌+ℤ◌, refl, ap, sym, ◌∙◌, arith, length-append}
use Rattle.std.specs.List.{range_with_len, flat_map}
use Rattle.std.proofs.lemmas.List.{map-append}
use Rattle.std.proofs.lemmas.List.FromFn.{map-range_with_len_more, length-map-range_with_len}
use Rattle.std.proofs.lemmas.Grind.{flat_map-append}
use Rattle.duct_definitions.specs.declared.design.Pair.{Pair}
use Rattle.duct_definitions.specs.declared.listed.RuleCount.{RuleCount}
use Rattle.duct_definitions.proofs.SectionLists.{range-push}
use Rattle.design_rules.specs.Meanings.{Meaning, all_allow, refuses_first}
use Rattle.net_build.specs.declared.sections.SectionSizes.{SectionSizes}
use Rattle.friction_table.specs.declared.row.FlowRate.{FlowRate}
use Rattle.friction_table.specs.Loss.{friction_loss}
use Rattle.friction_table.specs.Reading.{table_of}
use Rattle.fitting_tables.specs.Fittings.{Tables}
use Rattle.size_catalogue.specs.declared.row.Size.{Size}
use Rattle.section_loss.specs.declared.facts.SectionFacts.{SectionFacts}
use Rattle.section_loss.specs.Loss.{loss_of, own_loss_of, local_loss_of, junction_loss_of, together_of, sum_of_parts, at_least_0}
use Rattle.section_loss.specs.Price.{is_stepped, price_of}
use Rattle.net_build.specs.declared.asking.ChosenSize.{ChosenSize}
use Rattle.net_build.specs.Asking.{added, chosen}
use Rattle.net_build.specs.Catalogues.{Catalogues, size_at}
use Rattle.net_build.specs.Pairs.{SizePair, has_friction, loss_at, price_at, pair_of, possible_pair, pairs_in_size}
use Rattle.net_build.specs.Refusals.{is_refused_by, refused_among}
use Rattle.net_build.specs.Sections.{told, number_of, beside_of}
use Rattle.net_build.proofs.AddedLaws.{added_from-none, added_from-same, added_from-then}

-- size k beside size g
abbrev pub as_pair : ℕ → ℕ → SizePair
as_pair k g = record { size = k; beside = g }

one-of : (test : SizePair → Bool) (pair : SizePair) → length (filter test (pair ∷ [])) ≡ cond (test pair) 1 0
one-of test pair = elim (test pair) as (λ b. length (cond b (pair ∷ []) []) ≡ cond b 1 0) [ true ↦ refl | false ↦ refl ]

-- ---- what a pair loses and costs

-- the loss is what the section loses by itself and at its junction, together
loss-together : (facts : SectionFacts) (rows : List FlowRate) (tables : Tables) (size : Size) (beside : Option Size)
    → loss_of facts rows tables size beside ≡ option_map (λ own. together_of own (junction_loss_of facts tables size beside)) (own_loss_of facts rows size)
loss-together facts rows tables size beside =
    parts (friction_loss rows facts.flow facts.length) (local_loss_of facts size) (junction_loss_of facts tables size beside) facts.device
  where
    sum-of : (f local device : ℕ) (junction : ℤ) → pos f +ℤ pos local +ℤ junction +ℤ pos device ≡ pos (f + local + device) +ℤ junction
    sum-of f local device junction = grind arith

    parts : (friction : Option ℕ) (local : ℕ) (junction : ℤ) (device : ℕ)
        → option_map (λ f. sum_of_parts f local junction device) friction ≡ option_map (λ own. together_of own junction) (option_map (λ f. f + local + device) friction)
    parts None local junction device = refl
    parts (Some f) local junction device = ap (λ z. Some (at_least_0 z)) (sum-of f local device junction)

priced : (stepped : Bool) (length : ℕ) (size : Size) → cond stepped (price_of length size true) (price_of length size false) ≡ price_of length size stepped
priced true length size = refl
priced false length size = refl

pub possible-is : (c : Catalogues) (section : SectionSizes) (g : ℕ) (size : ChosenSize) (own : ℕ) (junction : ℤ) (loss price : ℕ) (beside : Option ℕ) → size ≡ chosen c section size.place → size.own_loss ≡ Some own
    → beside ≡ beside_of section g → junction ≡ junction_loss_of section.facts c.fittings size.size (option_map (size_at c.sizes) beside) → loss ≡ together_of own junction
    → price ≡ cond (is_stepped size.number beside) size.stepped_price size.price → Some (record { loss = loss; price = price }) ≡ possible_pair c section (as_pair size.place g)
possible-is c section g size own junction loss price beside is owns at joins sums costs =
    let k = size.place in
    let number = number_of section k in
    let row : Size = size_at c.sizes number in
    let beside_size : Option Size = option_map (size_at c.sizes) (beside_of section g) in
    let rows = table_of c.friction number in
    let own_is : own_loss_of section.facts rows row ≡ Some own = sym (ap (λ s. s.own_loss) is) ∙ owns in
    let junction_is : junction ≡ junction_loss_of section.facts c.fittings row beside_size =
    joins ∙ ap (λ s. junction_loss_of section.facts c.fittings s.size (option_map (size_at c.sizes) beside)) is ∙ ap (λ b. junction_loss_of section.facts c.fittings row (option_map (size_at c.sizes) b)) at in
    let loss_is : loss_at c section (as_pair k g) ≡ Some loss =
    loss-together section.facts rows c.fittings row beside_size
    ∙ ap (option_map (λ o. together_of o (junction_loss_of section.facts c.fittings row beside_size))) own_is
    ∙ ap (λ j. Some (together_of own j)) (sym junction_is) ∙ ap Some (sym sums) in
    let price_is : price ≡ price_at c section (as_pair k g) =
    costs ∙ ap (λ s. cond (is_stepped s.number beside) s.stepped_price s.price) is
    ∙ ap (λ b. cond (is_stepped number b) (price_of section.facts.length row true) (price_of section.facts.length row false)) at
    ∙ priced (is_stepped number (beside_of section g)) section.facts.length row in
    ap (λ p. Some (record { loss = loss; price = p })) price_is
    ∙ sym (ap (option_map (λ l. record { loss = l; price = price_at c section (as_pair k g) })) loss_is)

-- ---- one pair

pub pair-without : (c : Catalogues) (rules : List Meaning) (section : SectionSizes) (pair : SizePair) → has_friction c section pair.size ≡ false → None ≡ pair_of c rules section pair
pair-without c rules section pair none =
    sym (ap (λ b. cond (b && all_allow rules (told c section pair.size pair.beside)) (possible_pair c section pair) None) none)

pub pair-asked : (c : Catalogues) (rules : List Meaning) (section : SectionSizes) (pair : SizePair) (allowed : Bool) → has_friction c section pair.size ≡ true → allowed ≡ all_allow rules (told c section pair.size pair.beside)
    → cond allowed (possible_pair c section pair) None ≡ pair_of c rules section pair
pair-asked c rules section pair allowed some all =
    ap (λ b. cond b (possible_pair c section pair) None) all
    ∙ sym (ap (λ b. cond (b && all_allow rules (told c section pair.size pair.beside)) (possible_pair c section pair) None) some)

pub added-without : (c : Catalogues) (rules : List Meaning) (section : SectionSizes) (pair : SizePair) (refusals : List RuleCount) → has_friction c section pair.size ≡ false
    → refusals ≡ added (refused_among c rules section (pair ∷ [])) refusals
added-without c rules section pair refusals none =
    added_from-none (refused_among c rules section (pair ∷ [])) 0 refusals
    (λ i. one-of (is_refused_by c rules section i) pair ∙ ap (λ b. cond (b && refuses_first rules i (told c section pair.size pair.beside)) 1 0) none)

pub added-asked : (c : Catalogues) (rules : List Meaning) (section : SectionSizes) (pair : SizePair) (refusals more : List RuleCount) → has_friction c section pair.size ≡ true
    → more ≡ added (λ i. cond (refuses_first rules i (told c section pair.size pair.beside)) 1 0) refusals → more ≡ added (refused_among c rules section (pair ∷ [])) refusals
added-asked c rules section pair refusals more some is =
    is
    ∙ added_from-same (λ i. cond (refuses_first rules i (told c section pair.size pair.beside)) 1 0) (refused_among c rules section (pair ∷ [])) 0 refusals
    (λ i. sym (one-of (is_refused_by c rules section i) pair ∙ ap (λ b. cond (b && refuses_first rules i (told c section pair.size pair.beside)) 1 0) some))

-- ---- more pairs

pub refused-append : (c : Catalogues) (rules : List Meaning) (section : SectionSizes) (first more : List SizePair) (i : ℕ) → refused_among c rules section (first ++ more) i ≡ refused_among c rules section first i + refused_among c rules section more i
refused-append c rules section first more i = counted (is_refused_by c rules section i) first more
  where
    counted : (test : SizePair → Bool) (first more : List SizePair) → length (filter test (first ++ more)) ≡ length (filter test first) + length (filter test more)
    counted test [] more = omega arith
    counted test (pair ∷ first) more =
        elim (test pair) as (λ b. length (cond b (pair ∷ filter test (first ++ more)) (filter test (first ++ more))) ≡ length (cond b (pair ∷ filter test first) (filter test first)) + length (filter test more)) [
          | true ↦ (let e = counted test first more in omega arith)
          | false ↦ counted test first more
        ]

pub refused-most : (c : Catalogues) (rules : List Meaning) (section : SectionSizes) (pairs : List SizePair) (i : ℕ) → refused_among c rules section pairs i ≤ length pairs
refused-most c rules section pairs i = few (is_refused_by c rules section i) pairs
  where
    few : (test : SizePair → Bool) (pairs : List SizePair) → length (filter test pairs) ≤ length pairs
    few test [] = omega arith
    few test (pair ∷ pairs) =
        elim (test pair) as (λ b. length (cond b (pair ∷ filter test pairs) (filter test pairs)) ≤ suc (length pairs)) [
          | true ↦ (let e = few test pairs in omega arith)
          | false ↦ (let e = few test pairs in omega arith)
        ]

-- pairs and refusals, with those of more pairs behind them
pub pairs-more : (c : Catalogues) (rules same : List Meaning) (section : SectionSizes) (was are next : List (Option Pair)) (first more both : List SizePair) → same ≡ rules → are ≡ was ++ map (pair_of c rules section) first
    → next ≡ are ++ map (pair_of c same section) more → both ≡ first ++ more → next ≡ was ++ map (pair_of c rules section) both
pairs-more c rules same section was are next first more both one so new all =
    new ∙ ap (λ xs. xs ++ map (pair_of c same section) more) so
    ∙ ap (λ r. (was ++ map (pair_of c rules section) first) ++ map (pair_of c r section) more) one
    ∙ append-assoc was (map (pair_of c rules section) first) (map (pair_of c rules section) more)
    ∙ ap (λ xs. was ++ xs) (sym (map-append (pair_of c rules section) first more) ∙ ap (map (pair_of c rules section)) (sym all))
  where
    append-assoc : (xs ys zs : List (Option Pair)) → (xs ++ ys) ++ zs ≡ xs ++ (ys ++ zs)
    append-assoc [] ys zs = refl
    append-assoc (x ∷ xs) ys zs = ap (λ r. x ∷ r) (append-assoc xs ys zs)

-- the same where they are all
pub pairs-more-behind : (c : Catalogues) (rules same : List Meaning) (section : SectionSizes) (are next : List (Option Pair)) (first more both : List SizePair) → same ≡ rules → are ≡ map (pair_of c rules section) first
    → next ≡ are ++ map (pair_of c same section) more → both ≡ first ++ more → next ≡ map (pair_of c rules section) both
pairs-more-behind c rules same section are next first more both one so new all = pairs-more c rules same section [] are next first more both one so new all

pub refusals-more : (c : Catalogues) (rules same : List Meaning) (section : SectionSizes) (was are next : List RuleCount) (first more both : List SizePair) → same ≡ rules → are ≡ added (refused_among c rules section first) was
    → next ≡ added (refused_among c same section more) are → both ≡ first ++ more → next ≡ added (refused_among c rules section both) was
refusals-more c rules same section was are next first more both one so new all =
    new ∙ ap (λ r. added (refused_among c r section more) are) one
    ∙ ap (added (refused_among c rules section more)) so
    ∙ added_from-then (refused_among c rules section first) (refused_among c rules section more) (refused_among c rules section both) 0 was
    (λ i. ap (λ ps. refused_among c rules section ps i) all ∙ refused-append c rules section first more i)

-- the pairs of one size, with one more
pub size-more : (k g : ℕ) → map (λ b. as_pair k b) (range_with_len 0 (g + 1)) ≡ map (λ b. as_pair k b) (range_with_len 0 g) ++ as_pair k g ∷ []
size-more k g = map-range_with_len_more (λ b. as_pair k b) 0 g g (omega arith)

-- the pairs of one size more
pub sizes-more : (section : SectionSizes) (k : ℕ) → flat_map (pairs_in_size section) (range_with_len 0 (k + 1)) ≡ flat_map (pairs_in_size section) (range_with_len 0 k) ++ pairs_in_size section k
sizes-more section k =
    ap (flat_map (pairs_in_size section)) (next (k + 1) (suc k) (omega arith) ∙ range-push 0 k)
    ∙ flat_map-append (pairs_in_size section) (range_with_len 0 k) ((0 + k) ∷ [])
    ∙ ap (λ xs. flat_map (pairs_in_size section) (range_with_len 0 k) ++ xs) (alone (pairs_in_size section) (0 + k) k (omega arith))
  where
    next : (a b : ℕ) → a ≡ b → range_with_len 0 a ≡ range_with_len 0 b
    next a b e = ap (range_with_len 0) e

    append-none : (xs : List SizePair) → xs ++ [] ≡ xs
    append-none [] = refl
    append-none (x ∷ xs) = ap (λ r. x ∷ r) (append-none xs)

    alone : (f : ℕ → List SizePair) (a k : ℕ) → a ≡ k → flat_map f (a ∷ []) ≡ f k
    alone f a k e = append-none (f a) ∙ ap f e

pub size-count : (section : SectionSizes) (k most : ℕ) → length section.besides ≤ most → length (pairs_in_size section k) ≤ most
size-count section k most few = (let e = length-map-range_with_len (λ g. as_pair k g) 0 (length section.besides) in omega arith)

pub pairs-count : (section : SectionSizes) (k : ℕ) → length section.besides ≤ 24 → length (flat_map (pairs_in_size section) (range_with_len 0 k)) ≤ 24 * k
pairs-count section zero few = omega arith
pairs-count section (suc k) few =
    (let before = pairs-count section k few in
    let here = size-count section k 24 few in
    let both = length-append (flat_map (pairs_in_size section) (range_with_len 0 k)) (pairs_in_size section k) in
    let e : length (flat_map (pairs_in_size section) (range_with_len 0 (suc k))) ≡ length (flat_map (pairs_in_size section) (range_with_len 0 k) ++ pairs_in_size section k) =
    ap length (next (suc k) (k + 1) (omega arith) ∙ sizes-more section k) in
    omega arith)
  where
    next : (a b : ℕ) → a ≡ b → flat_map (pairs_in_size section) (range_with_len 0 a) ≡ flat_map (pairs_in_size section) (range_with_len 0 b)
    next a b e = ap (λ (n : ℕ). flat_map (pairs_in_size section) (range_with_len 0 n)) e

-- nothing is asked yet
pub added-start : (c : Catalogues) (rules : List Meaning) (section : SectionSizes) (refusals : List RuleCount) → refusals ≡ added (refused_among c rules section []) refusals
added-start c rules section refusals = added_from-none (refused_among c rules section []) 0 refusals (λ i. refl)

pub behind-none : (xs : List (Option Pair)) → xs ≡ xs ++ []
behind-none [] = refl
behind-none (x ∷ xs) = ap (λ r. x ∷ r) (behind-none xs)

pub count-of-one : (k g : ℕ) → length (map (as_pair k) (range_with_len 0 g)) ≡ g
count-of-one k g = length-map-range_with_len (as_pair k) 0 g
