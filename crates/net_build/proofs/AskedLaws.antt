-- How rules go on while pairs are asked about.
use Rattle.std.proofs.Common.{◌≡◌, ℕ, ◌+◌, ◌<◌, ◌≤◌, List, map, length, slice_index, Option, refl, ap, sym, ◌∙◌, subst, arith}
use Rattle.design_rules.specs.Meanings.{Meaning, SameRules, counted}
use Rattle.std.proofs.lemmas.List.{length-map}
use Rattle.duct_definitions.specs.declared.listed.RuleCount.{RuleCount}
use Rattle.net_build.specs.Asking.{Asked, added, counts_of}
use Rattle.net_build.proofs.AddedLaws.{counted-risen, length-added_from, counts-added_from}

pub asked-none : {B : Type 0} (allows : B → Meaning) (label : B → List ℕ) (count : B → ℕ) (rules : List B) → Asked allows label count 0 rules rules
asked-none allows label count rules = record { same = record { meanings = refl; names = refl }; risen = λ i. omega arith }

pub asked-then : {B : Type 0} (allows : B → Meaning) (label : B → List ℕ) (count : B → ℕ) (n m k : ℕ) (old now new : List B) → Asked allows label count n old now → Asked allows label count m now new → n + m ≤ k
    → Asked allows label count k old new
asked-then allows label count n m k old now new first more few = record {
  same = record { meanings = more.same.meanings ∙ first.same.meanings; names = more.same.names ∙ first.same.names };
  risen = λ i. (let a = first.risen i in let b = more.risen i in omega arith);
}

pub asked-more : {B : Type 0} (allows : B → Meaning) (label : B → List ℕ) (count : B → ℕ) (n k : ℕ) (old new : List B) → Asked allows label count n old new → n ≤ k → Asked allows label count k old new
asked-more allows label count n k old new first few = record { same = first.same; risen = λ i. (let a = first.risen i in omega arith) }

pub asked-one : {B : Type 0} (allows : B → Meaning) (label : B → List ℕ) (count : B → ℕ) (o : Option ℕ) (old new : List B) → SameRules allows label old new → map count new ≡ counted o (map count old)
    → Asked allows label count 1 old new
asked-one allows label count o old new same counts = record {
  same = same;
  risen = λ i. subst (λ (ns : List ℕ). slice_index ns i ≤ slice_index (map count old) i + 1) (sym counts) (counted-risen o (map count old) i);
}

-- as many rules as before
pub asked-count : {B : Type 0} (allows : B → Meaning) (label : B → List ℕ) (count : B → ℕ) (n : ℕ) (old now : List B) → Asked allows label count n old now → length now ≡ length old
asked-count allows label count n old now asked =
    sym (length-map now label) ∙ ap length asked.same.names ∙ length-map old label

-- and as many counts
pub asked-long : {B : Type 0} (allows : B → Meaning) (label : B → List ℕ) (count : B → ℕ) (n : ℕ) (old now : List B) (by : ℕ → ℕ) (was are : List RuleCount) → Asked allows label count n old now → are ≡ added by was
    → length was ≡ length old → length are ≡ length now
asked-long allows label count n old now by was are asked is long =
    ap length is ∙ length-added_from by 0 was ∙ long ∙ sym (asked-count allows label count n old now asked)

-- no count is above what it was by more
pub added-space : (by : ℕ → ℕ) (most : ℕ) (was are : List RuleCount) → are ≡ added by was → ((i : ℕ) → by i ≤ most) → (i : ℕ) → slice_index (counts_of are) i ≤ slice_index (counts_of was) i + most
added-space by most was are is few i =
    subst (λ (rs : List RuleCount). slice_index (counts_of rs) i ≤ slice_index (counts_of was) i + most) (sym is) (counts-added_from by 0 most was few i)

-- so there is room for one more
pub added-room : (by : ℕ → ℕ) (g rest most : ℕ) (was are : List RuleCount) → are ≡ added by was → ((i : ℕ) → by i ≤ g) → rest + g < most → ((i : ℕ) → slice_index (counts_of was) i ≤ rest) → (i : ℕ) → slice_index (counts_of are) i < most
added-room by g rest most was are is few room space i = (let a = added-space by g was are is few i in let s = space i in omega arith)

pub added-left : (by : ℕ → ℕ) (g rest left : ℕ) (was are : List RuleCount) → are ≡ added by was → ((i : ℕ) → by i ≤ g) → rest + g ≤ left → ((i : ℕ) → slice_index (counts_of was) i ≤ rest) → (i : ℕ) → slice_index (counts_of are) i ≤ left
added-left by g rest left was are is few room space i = (let a = added-space by g was are is few i in let s = space i in omega arith)

pub asked-left : {B : Type 0} (allows : B → Meaning) (label : B → List ℕ) (count : B → ℕ) (n rest left : ℕ) (old now : List B) → Asked allows label count n old now → rest + n ≤ left → ((i : ℕ) → slice_index (map count old) i ≤ rest)
    → (i : ℕ) → slice_index (map count now) i ≤ left
asked-left allows label count n rest left old now asked room space i = (let a = asked.risen i in let s = space i in omega arith)

pub asked-few : {B : Type 0} (allows : B → Meaning) (label : B → List ℕ) (count : B → ℕ) (n most : ℕ) (old now : List B) → Asked allows label count n old now → length old ≤ most → length now ≤ most
asked-few allows label count n most old now asked few = (let e = asked-count allows label count n old now asked in omega arith)
