-- The pairs and the refusals of all sections.
use Rattle.std.proofs.Common.{◌≡◌, ℕ, zero, suc, ◌+◌, ◌*◌, ◌≤◌, List, [], ◌∷◌, ◌++◌, map, length, take, Option, Some, slice_get, sum_by, fold, All, refl, ap, sym, ◌∙◌, subst, arith}
use Rattle.std.proofs.lemmas.List.{length-map, map-append}
use Rattle.std.proofs.lemmas.List.FromFn.{length-map-range_with_len}
use Rattle.duct_units.specs.Rules.{first_broken, unless_refused}
use Rattle.duct_definitions.specs.declared.listed.RuleCount.{RuleCount}
use Rattle.design_rules.specs.Meanings.{Meaning}
use Rattle.net_build.specs.declared.sections.SectionSizes.{SectionSizes}
use Rattle.net_build.specs.Asking.{IsOpen, none_counted, added_from}
use Rattle.net_build.specs.Catalogues.{Catalogues}
use Rattle.net_build.specs.Pairs.{size_pairs}
use Rattle.net_build.specs.Refusals.{refused_among, refusals_of, counts_from, count_of, CountsWithin}
use Rattle.net_build.proofs.ListLaws.{taken, map-taken}
use Rattle.net_build.proofs.PairLaws.{refused-most, pairs-count}

fold-push : {A : Type 0} (f : A → ℕ) (a : ℕ) (xs : List A) (x : A) → fold (λ a x. a + f x) a (xs ++ x ∷ []) ≡ fold (λ a x. a + f x) a xs + f x
fold-push f a [] x = refl
fold-push f a (y ∷ ys) x = fold-push f (a + f y) ys x

-- one more is added
pub sum_by-more : {A : Type 0} (f : A → ℕ) (xs : List A) (i : ℕ) (x : A) → slice_get xs i ≡ Some x → sum_by f (take (i + 1) xs) ≡ sum_by f (take i xs) + f x
sum_by-more f xs i x at = ap (sum_by f) (sym (taken xs i x at)) ∙ fold-push f 0 (take i xs) x

fold-most : {A : Type 0} (f : A → ℕ) (most a : ℕ) (xs : List A) → ((k : ℕ) (x : A) → slice_get xs k ≡ Some x → f x ≤ most) → fold (λ a x. a + f x) a xs ≤ a + most * length xs
fold-most f most a [] each = omega arith
fold-most f most a (x ∷ xs) each = (let h = each 0 x refl in let t = fold-most f most (a + f x) xs (λ k y at. each (suc k) y at) in grind arith)

-- one more list is joined to those that were made of the first
pub mapped-more : {A B : Type 0} (f : A → B) (xs : List A) (i : ℕ) (x : A) (are next : List B) (more : B) → slice_get xs i ≡ Some x → are ≡ map f (take i xs) → more ≡ f x → next ≡ are ++ more ∷ [] → next ≡ map f (take (i + 1) xs)
mapped-more f xs i x are next more at so is new =
    new ∙ ap (λ ys. ys ++ more ∷ []) so ∙ ap (λ y. map f (take i xs) ++ y ∷ []) is ∙ map-taken f xs i x at

pub section-most : (c : Catalogues) (rules : List Meaning) (section : SectionSizes) (i : ℕ) → IsOpen c section → refused_among c rules section (size_pairs section) i ≤ 576
section-most c rules section i is =
    (let m = refused-most c rules section (size_pairs section) i in
    let e = pairs-count section (length section.numbers) is.few_beside in
    let f = is.few in
    omega arith)

pub get-taken : {A : Type 0} (xs : List A) (s k : ℕ) (x : A) → slice_get (take s xs) k ≡ Some x → slice_get xs k ≡ Some x
get-taken [] zero k x at = at
get-taken [] (suc s) k x at = at
get-taken (y ∷ ys) zero k x at = absurd (cc at)
get-taken (y ∷ ys) (suc s) zero x at = at
get-taken (y ∷ ys) (suc s) (suc k) x at = get-taken ys s k x at

pub there : {A : Type 0} (P : A → Type 0) (xs : List A) (k : ℕ) (x : A) → All P xs → slice_get xs k ≡ Some x → P x
there P [] k x all at = absurd (cc at)
there P (y ∷ ys) zero x all at = (let same : y ≡ x = cc in subst P same (all 0 y (omega arith)))
there P (y ∷ ys) (suc k) x all at = there P ys k x (λ i d less. all (suc i) d (omega arith)) at

pub length-taken : {A : Type 0} (xs : List A) (s : ℕ) → length (take s xs) ≤ s
length-taken [] zero = omega arith
length-taken [] (suc s) = omega arith
length-taken (x ∷ xs) zero = omega arith
length-taken (x ∷ xs) (suc s) = (let e = length-taken xs s in omega arith)

-- the sum over the first sections is no more than so much for each
pub sum-most : {A : Type 0} (f : A → ℕ) (most : ℕ) (P : A → Type 0) (xs : List A) (i : ℕ) → All P xs → ((x : A) → P x → f x ≤ most) → sum_by f (take i xs) ≤ most * i
sum-most f most P xs i all each =
    (let m = fold-most f most 0 (take i xs) (λ k x at. each x (there P xs k x all (get-taken xs i k x at))) in
    let l = length-taken xs i in
    grind arith)

-- ---- the counts of one section

pub counted-from : (by other : ℕ → ℕ) (k : ℕ) (names : List (List ℕ)) → ((i : ℕ) → by i ≡ other i) → added_from by k (none_counted names) ≡ counts_from other k names
counted-from by other k [] same = refl
counted-from by other k (name ∷ names) same =
    ap (λ n. record { name = name; count = n } ∷ added_from by (k + 1) (none_counted names)) (let e = same k in omega arith)
    ∙ ap (λ rest. record { name = name; count = other k } ∷ rest) (counted-from by other (k + 1) names same)

counts-within : (f : ℕ → ℕ) (most k : ℕ) (names : List (List ℕ)) → ((i : ℕ) → f i ≤ most) → CountsWithin most (counts_from f k names)
counts-within f most k [] few i = omega arith
counts-within f most k (name ∷ names) few zero = few k
counts-within f most k (name ∷ names) few (suc i) = counts-within f most (k + 1) names few i

-- no count of a section is above that of its pairs
pub refusals-within : (c : Catalogues) (rules : List Meaning) (names : List (List ℕ)) (section : SectionSizes) (refusals : List RuleCount) → IsOpen c section → refusals ≡ refusals_of c rules names section → CountsWithin 576 refusals
refusals-within c rules names section refusals open_ is =
    subst (CountsWithin 576) (sym is) (counts-within (refused_among c rules section (size_pairs section)) 576 0 names (λ i. section-most c rules section i open_))

-- one more name with its count
pub counts_from-push : (f : ℕ → ℕ) (k i : ℕ) (names : List (List ℕ)) (name : List ℕ) → length names ≡ i → counts_from f k (names ++ name ∷ []) ≡ counts_from f k names ++ record { name = name; count = f (k + i) } ∷ []
counts_from-push f k i names name count = pushed k names ∙ ap (λ n. counts_from f k names ++ record { name = name; count = f (k + n) } ∷ []) count
  where
    pushed : (k : ℕ) (ns : List (List ℕ)) → counts_from f k (ns ++ name ∷ []) ≡ counts_from f k ns ++ record { name = name; count = f (k + length ns) } ∷ []
    pushed k [] = ap (λ m. record { name = name; count = f m } ∷ []) (let e : k ≡ k + 0 = omega arith in e)
    pushed k (m ∷ ms) = ap (λ rest. record { name = m; count = f k } ∷ rest) (pushed (k + 1) ms ∙ ap (λ j. counts_from f (k + 1) ms ++ record { name = name; count = f j } ∷ []) (let e : k + 1 + length ms ≡ k + suc (length ms) = omega arith in e))

pub length-taken-all : {A : Type 0} (xs : List A) (i : ℕ) (x : A) → slice_get xs i ≡ Some x → length (take i xs) ≡ i
length-taken-all [] i x at = absurd (cc at)
length-taken-all (y ∷ ys) zero x at = refl
length-taken-all (y ∷ ys) (suc i) x at = ap suc (length-taken-all ys i x at)

-- the counts of the rules so far, and that of one more
pub counted-more : {B : Type 0} (label : B → List ℕ) (f : ℕ → ℕ) (rules : List B) (i : ℕ) (rule : B) (name : List ℕ) (count : ℕ) (are next : List RuleCount) → slice_get rules i ≡ Some rule
    → are ≡ counts_from f 0 (map label (take i rules)) → name ≡ label rule → count ≡ f i → next ≡ are ++ record { name = name; count = count } ∷ [] → next ≡ counts_from f 0 (map label (take (i + 1) rules))
counted-more label f rules i rule name count are next at so named counted is =
    is ∙ ap (λ xs. xs ++ record { name = name; count = count } ∷ []) so
    ∙ ap (λ n. counts_from f 0 (map label (take i rules)) ++ record { name = n; count = count } ∷ []) named
    ∙ ap (λ n. counts_from f 0 (map label (take i rules)) ++ record { name = label rule; count = n } ∷ []) (counted ∙ ap f (let e : i ≡ 0 + i = omega arith in e))
    ∙ sym (counts_from-push f 0 i (map label (take i rules)) (label rule) (length-map (take i rules) label ∙ length-taken-all rules i rule at))
    ∙ ap (λ ns. counts_from f 0 ns) (map-taken label rules i rule at)
