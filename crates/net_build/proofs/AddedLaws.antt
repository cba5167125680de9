-- Counts that rise.
use Rattle.std.proofs.Common.{◌≡◌, ◌≢◌, ℕ, zero, suc, ◌+◌, ◌≤◌, List, [], ◌∷◌, length, set, Bool, true, false, not, ◌&&◌, cond, Option, Some, None, slice_get, slice_index, IsTrue, refl, ap, sym, ◌∙◌, arith}
use Rattle.duct_definitions.specs.declared.listed.RuleCount.{RuleCount}
use Rattle.design_rules.specs.declared.facts.PairFacts.{PairFacts}
use Rattle.design_rules.specs.Meanings.{Meaning, all_allow, refuses_first, counted, raised}
use Rattle.net_build.specs.Asking.{added_from, added, counts_of}

counted_as : (rule : RuleCount) (n m : ℕ) → n ≡ m → ◌≡◌ {A = RuleCount} (record { name = rule.name; count = n }) (record { name = rule.name; count = m })
counted_as rule n m e = ap (λ k. record { name = rule.name; count = k }) e

-- nothing is added
pub added_from-none : (by : ℕ → ℕ) (k : ℕ) (refusals : List RuleCount) → ((i : ℕ) → by i ≡ 0) → refusals ≡ added_from by k refusals
added_from-none by k [] none = refl
added_from-none by k (rule ∷ rules) none =
    ap (λ r. r ∷ rules) (counted_as rule rule.count (rule.count + by k) (let e = none k in omega arith))
    ∙ ap (λ rs. record { name = rule.name; count = rule.count + by k } ∷ rs) (added_from-none by (k + 1) rules none)

-- the same is added
pub added_from-same : (by other : ℕ → ℕ) (k : ℕ) (refusals : List RuleCount) → ((i : ℕ) → by i ≡ other i) → added_from by k refusals ≡ added_from other k refusals
added_from-same by other k [] same = refl
added_from-same by other k (rule ∷ rules) same =
    ap (λ n. record { name = rule.name; count = rule.count + n } ∷ added_from by (k + 1) rules) (same k)
    ∙ ap (λ rs. record { name = rule.name; count = rule.count + other k } ∷ rs) (added_from-same by other (k + 1) rules same)

-- one after the other
pub added_from-then : (first more both : ℕ → ℕ) (k : ℕ) (refusals : List RuleCount) → ((i : ℕ) → both i ≡ first i + more i) → added_from more k (added_from first k refusals) ≡ added_from both k refusals
added_from-then first more both k [] sum = refl
added_from-then first more both k (rule ∷ rules) sum =
    ap (λ r. r ∷ added_from more (k + 1) (added_from first (k + 1) rules)) (counted_as rule (rule.count + first k + more k) (rule.count + both k) (let e = sum k in omega arith))
    ∙ ap (λ rs. record { name = rule.name; count = rule.count + both k } ∷ rs) (added_from-then first more both (k + 1) rules sum)

pub length-added_from : (by : ℕ → ℕ) (k : ℕ) (refusals : List RuleCount) → length (added_from by k refusals) ≡ length refusals
length-added_from by k [] = refl
length-added_from by k (rule ∷ rules) = ap suc (length-added_from by (k + 1) rules)

-- no count rises by more
pub counts-added_from : (by : ℕ → ℕ) (k most : ℕ) (refusals : List RuleCount) → ((i : ℕ) → by i ≤ most) → (i : ℕ) → slice_index (counts_of (added_from by k refusals)) i ≤ slice_index (counts_of refusals) i + most
counts-added_from by k most [] few i = omega arith
counts-added_from by k most (rule ∷ rules) few zero = (let e = few k in omega arith)
counts-added_from by k most (rule ∷ rules) few (suc i) = counts-added_from by (k + 1) most rules few i

-- one count rises by one
pub set-added_from : (by : ℕ → ℕ) (k i : ℕ) (refusals : List RuleCount) (rule : RuleCount) → slice_get refusals i ≡ Some rule → by (k + i) ≡ 1 → ((j : ℕ) → j ≢ k + i → by j ≡ 0)
    → set refusals i (record { name = rule.name; count = rule.count + 1 }) ≡ added_from by k refusals
set-added_from by k i [] rule at one others = absurd (cc at)
set-added_from by k zero (first ∷ rules) rule at one others =
    (let same : first ≡ rule = cc in
    let here : by k ≡ 1 = ap by (omega arith) ∙ one in
    ap (λ r. record { name = r.name; count = r.count + 1 } ∷ rules) (sym same)
    ∙ ap (λ n. record { name = first.name; count = first.count + n } ∷ rules) (sym here)
    ∙ ap (λ rs. record { name = first.name; count = first.count + by k } ∷ rs) (later by (k + 1) rules (λ j above. others j (λ e. absurd (omega arith)))))
  where
    later : (by : ℕ → ℕ) (k : ℕ) (rules : List RuleCount) → ((j : ℕ) → k ≤ j → by j ≡ 0) → rules ≡ added_from by k rules
    later by k [] none = refl
    later by k (rule ∷ rules) none =
        ap (λ r. r ∷ rules) (counted_as rule rule.count (rule.count + by k) (let e = none k (omega arith) in omega arith))
        ∙ ap (λ rs. record { name = rule.name; count = rule.count + by k } ∷ rs) (later by (k + 1) rules (λ j above. none j (omega arith)))
set-added_from by k (suc i) (first ∷ rules) rule at one others =
    (let other : by k ≡ 0 = others k (λ e. absurd (omega arith)) in
    ap (λ rs. first ∷ rs) (set-added_from by (k + 1) i rules rule at (ap by (omega arith) ∙ one) (λ j differs. others j (λ e. differs (omega arith))))
    ∙ ap (λ r. r ∷ added_from by (k + 1) rules) (counted_as first first.count (first.count + by k) (omega arith)))

pub count-at : (refusals : List RuleCount) (i : ℕ) (rule : RuleCount) → slice_get refusals i ≡ Some rule → slice_index (counts_of refusals) i ≡ rule.count
count-at [] i rule at = absurd (cc at)
count-at (first ∷ rules) zero rule at = (let same : first ≡ rule = cc in ap (λ r. r.count) same)
count-at (first ∷ rules) (suc i) rule at = count-at rules i rule at

-- ---- the rule that refuses first

both-false : (a b : Bool) → a ≡ false → (a && b) ≡ false
both-false a b e = ap (λ x. x && b) e

only-first : (a b : Bool) → (a && b) ≡ true → (a ≡ true) × (b ≡ true)
only-first true true e = (refl, refl)
only-first true false e = absurd (cc e)
only-first false b e = absurd (cc e)

not-true : (a : Bool) → not a ≡ true → a ≡ false
not-true true e = absurd (cc e)
not-true false e = refl

refuses_first-once : (rules : List Meaning) (f : PairFacts) (i j : ℕ) → refuses_first rules i f ≡ true → j ≢ i → refuses_first rules j f ≡ false
refuses_first-once [] f i j is other = refl
refuses_first-once (m ∷ ms) f zero zero is other = absurd (other refl)
refuses_first-once (m ∷ ms) f zero (suc j) is other = both-false (m f) (refuses_first ms j f) (not-true (m f) is)
refuses_first-once (m ∷ ms) f (suc i) zero is other = ap not (only-first (m f) (refuses_first ms i f) is).0
refuses_first-once (m ∷ ms) f (suc i) (suc j) is other =
    (let both = only-first (m f) (refuses_first ms i f) is in
    ap (λ a. a && refuses_first ms j f) both.0 ∙ refuses_first-once ms f i j both.1 (λ e. other (ap suc e)))

allowed-none : (rules : List Meaning) (f : PairFacts) (i : ℕ) → all_allow rules f ≡ true → refuses_first rules i f ≡ false
allowed-none [] f i all = refl
allowed-none (m ∷ ms) f zero all = ap not (only-first (m f) (all_allow ms f) all).0
allowed-none (m ∷ ms) f (suc i) all =
    (let both = only-first (m f) (all_allow ms f) all in ap (λ a. a && refuses_first ms i f) both.0 ∙ allowed-none ms f i both.1)

is-true : (b : Bool) → IsTrue b → b ≡ true
is-true b e = grind arith

-- the first refusal is counted
pub refusal-added : (rules : List Meaning) (f : PairFacts) (i : ℕ) (refusals : List RuleCount) (rule : RuleCount) → IsTrue (refuses_first rules i f) → slice_get refusals i ≡ Some rule
    → set refusals i (record { name = rule.name; count = rule.count + 1 }) ≡ added (λ j. cond (refuses_first rules j f) 1 0) refusals
refusal-added rules f i refusals rule is at =
    (let first : refuses_first rules i f ≡ true = is-true (refuses_first rules i f) is in
    set-added_from (λ j. cond (refuses_first rules j f) 1 0) 0 i refusals rule at
    (one first)
    (λ j other. ap (λ b. cond b 1 0) (refuses_first-once rules f i j first (λ e. other (omega arith)))))
  where
    one : refuses_first rules i f ≡ true → ◌≡◌ {A = ℕ} (cond (refuses_first rules (0 + i) f) 1 0) 1
    one first = ap (λ (j : ℕ). cond (refuses_first rules j f) 1 0) (omega arith) ∙ ap (λ b. cond b 1 0) first

pub none-added : (rules : List Meaning) (f : PairFacts) (refusals : List RuleCount) → IsTrue (all_allow rules f) → refusals ≡ added (λ j. cond (refuses_first rules j f) 1 0) refusals
none-added rules f refusals all =
    added_from-none (λ j. cond (refuses_first rules j f) 1 0) 0 refusals (λ i. ap (λ b. cond b 1 0) (allowed-none rules f i (is-true (all_allow rules f) all)))

pub counted-risen : (o : Option ℕ) (counts : List ℕ) (i : ℕ) → slice_index (counted o counts) i ≤ slice_index counts i + 1
counted-risen None counts i = omega arith
counted-risen (Some j) counts i = raised-risen j counts i
  where
    raised-risen : (j : ℕ) (counts : List ℕ) (i : ℕ) → slice_index (raised j counts) i ≤ slice_index counts i + 1
    raised-risen j [] i = omega arith
    raised-risen zero (n ∷ counts) zero = omega arith
    raised-risen zero (n ∷ counts) (suc i) = omega arith
    raised-risen (suc j) (n ∷ counts) zero = omega arith
    raised-risen (suc j) (n ∷ counts) (suc i) = raised-risen j counts i
