-- Members whose keys ascend: each value is the one at its key.
use Rattle.std.proofs.Common.{◌&&◌, ◌≡◌, ℕ, ◌≤◌, List, [], ◌∷◌, Bool, true, false, ◌||◌, Option, Some, IfSome, String, Global, string_bytes, Less, Greater, refl, ap, ◌∙◌, sym, subst, arith}
use Rattle.std.proofs.lemmas.Bool.{and_parts}
use Rattle.std.proofs.lemmas.Bool.Decides.{nat_tests}
use Rattle.std.proofs.lemmas.Cmp.{nat_list_cmp_total, tied_itself}
use Rattle.std.proofs.lemmas.Slice.Eq.{bytes_eq-Decides}
use Rattle.std.specs.List.{AllByRecursion, list_any}
use Rattle.std.specs.List.Sorted.{IsStrictlySortedBy}
use Rattle.std.specs.Map.{keys_of}
use Rattle.std.specs.Ordering.{nat_cmp, match_ordering, ordering_reverse}
use Rattle.std.specs.Str.{bytes_eq}
use Rattle.std.specs.String.{string_cmp}
use Rattle.std.specs.Cmp.Lexicographic.{slice_cmp}
use Rattle.toml.specs.Data.{Data, Members, no_members, member, get_member, members_depth, members_have_valid_dates}
use Rattle.toml.specs.View.{members_view}
use Rattle.toml.specs.declared.value.Value.{Value}
use Rattle.file_definitions.specs.Document.{has_only}
use Rattle.project_file.specs.Shallow.{AreShallow, IsShallow}
use Rattle.project_file.proofs.KindDepths.{Nests}
use Rattle.project_file.specs.Ascending.{IsBefore, KeysAscend}

abbrev pub Entry : Type 0
Entry = String Global × Value

-- the keys of a map ascend
before_all : (k : String Global) (es : List Entry) → AllByRecursion (λ y. string_cmp k y ≡ Less) (keys_of es) → IsBefore (string_bytes k) (members_view es)
before_all k [] all = tt
before_all k (e ∷ es) all = (all.0, before_all k es all.1)

pub ascend : (es : List Entry) → IsStrictlySortedBy string_cmp (keys_of es) → KeysAscend (members_view es)
unfolding IsStrictlySortedBy
ascend [] sorted = tt
ascend (e ∷ es) sorted = (before_all e.0 es sorted.0, ascend es sorted.1)

-- a fact of each key with its value
abbrev pub Each : (List ℕ → Data → Type 0) → Members → Type 0
Each R no_members = Unit {0}
Each R (member k d ms) = R k d × Each R ms

-- a later key is found behind the first
lifted : (k : List ℕ) (d : Data) (all ms : Members) → IsBefore k ms → Each (λ l e. get_member l all ≡ Some e) ms → Each (λ l e. get_member l (member k d all) ≡ Some e) ms
lifted k d all no_members before each = tt
lifted k d all (member l e ms) before each =
    let greater : slice_cmp nat_cmp l k ≡ Greater = nat_list_cmp_total.antisymm l k ∙ ap ordering_reverse before.0 in
    (ap (λ o. match_ordering o (get_member l all) (Some d) (get_member l all)) greater ∙ each.0, lifted k d all ms before.1 each.1)

-- each value is the one at its key
pub each_found : (ms : Members) → KeysAscend ms → Each (λ k d. get_member k ms ≡ Some d) ms
each_found no_members ascending = tt
each_found (member k d ms) ascending =
    (ap (λ o. match_ordering o (get_member k ms) (Some d) (get_member k ms)) (tied_itself nat_list_cmp_total k), lifted k d ms ms ascending.0 (each_found ms ascending.1))

-- a fact of each of some keys
abbrev pub AllOf : (List ℕ → Type 0) → List (List ℕ) → Type 0
AllOf Q [] = Unit {0}
AllOf Q (key ∷ keys) = Q key × AllOf Q keys

pub of_listed : (Q : List ℕ → Type 0) (keys : List (List ℕ)) (key : List ℕ) → AllOf Q keys → list_any (bytes_eq key) keys ≡ true → Q key
of_listed Q [] key all e = cc e
of_listed Q (listed ∷ keys) key all e = at (bytes_eq key listed) refl e (λ later. of_listed Q keys key all.1 later)
  where
    at : (b : Bool) → bytes_eq key listed ≡ b → (b || list_any (bytes_eq key) keys) ≡ true → (list_any (bytes_eq key) keys ≡ true → Q key) → Q key
    at true same e later = subst Q (sym ((bytes_eq-Decides key listed).0 same)) all.0
    at false other e later = later e

-- a fact of the value at each listed key is one of each value, where there is no other key
values_of : (P : Data → Type 0) (keys : List (List ℕ)) (all ms : Members) → AllOf (λ key. IfSome (get_member key all) P) keys → has_only keys ms ≡ true
    → Each (λ k d. get_member k all ≡ Some d) ms → Each (λ k d. P d) ms
values_of P keys all no_members given only found = tt
values_of P keys all (member k d ms) given only found =
    let parts = and_parts (list_any (bytes_eq k) keys) (has_only keys ms) only in
    let here = of_listed (λ key. IfSome (get_member key all) P) keys k given parts.0 in
    (subst (λ (o : Option Data). IfSome o P) found.0 here, values_of P keys all ms given parts.1 found.1)

-- so the members nest no deeper than the values at the listed keys
deepest : (n : ℕ) (ms : Members) → Each (λ k d. IsShallow n d) ms → AreShallow n ms
deepest n no_members each = (omega arith, refl)
deepest n (member k d ms) each =
    let later = deepest n ms each.1 in
    let here = each.0.0 in
    let behind = later.0 in
    (grind (arith, nat_tests), ap (λ b. b && members_have_valid_dates ms) each.0.1 ∙ later.1)

pub nests : (n : ℕ) (keys : List (List ℕ)) (ms : Members) → KeysAscend ms → has_only keys ms ≡ true → AllOf (λ key. Nests n (get_member key ms)) keys → AreShallow n ms
nests n keys ms ascending only given = deepest n ms (values_of (IsShallow n) keys ms ms given only (each_found ms ascending))
