-- Lists that are filled section by section.
use Rattle.std.proofs.Common.{◌≡◌, ℕ, zero, suc, ◌+◌, ◌<◌, ◌≤◌, List, [], ◌∷◌, ◌++◌, length, map, get_or, set, Bool, true, false, cond, Option, Some, None, refl, ap, ◌∙◌, sym, subst, inl, inr, arith}
use Rattle.std.proofs.lemmas.Bool.{eq-eqb, ne_eqb, cases_eq, lt-ltb}
use Rattle.std.proofs.lemmas.List.{append-nil, length-map, get_or-map, get_or_read, length-set, get_or-set_same, get_or-set_other}
use Rattle.std.proofs.lemmas.List.FromFn.{fill_by_all, length-range_with_len}
use Rattle.std.proofs.lemmas.List.Sums.{length-filter, count_by-le-length}
use Rattle.std.proofs.lemmas.Option.{unwrap_or-slice_get}
use Rattle.std.specs.Prelude.{◌==◌, ◌&&◌, nat_lt, filter, count_by, IfSome}
use Rattle.std.specs.List.{range_with_len}
use Rattle.duct_definitions.specs.Tree.{Tree, section_count, sections, is_number, children, is_leaf}
use Rattle.duct_definitions.proofs.SectionLists.{chosen-push}
use Rattle.air_tree.proofs.ListLaws.{child_list_at}
use Rattle.air_tree.specs.TreeLists.{neighbour_in, StandEarlier, children_among}

-- each place has what f makes of the children among the first sections
pub record AreFilled {X : Type 0} (f : List ℕ → X) (none : X) (done : ℕ) (neighbours : List (Option ℕ))
    (xs : List X) : Type 0 where
  pub count : length xs ≡ length neighbours
  pub each : (n : ℕ) → n < length neighbours → get_or xs n none ≡ f (children_among done neighbours n)

abbrev no_items : List ℕ
no_items = []

get_or-no_items : {Y : Type 0} (ys : List Y) (n : ℕ) → get_or (map (λ _. no_items) ys) n [] ≡ []
get_or-no_items [] n = refl
get_or-no_items (y ∷ ys) zero = refl
get_or-no_items (y ∷ ys) (suc n) = get_or-no_items ys n

no_value : (o : Option ℕ) → ((x : ℕ) → o ≡ Some x → ⊥) → o ≡ None
no_value None empty = refl
no_value (Some x) empty = absurd (empty x refl)

pub stands_earlier : (neighbours : List (Option ℕ)) (s n : ℕ) → StandEarlier neighbours → s < length neighbours
    → get_or neighbours s None ≡ Some n → n < s
stands_earlier neighbours s n earlier within at =
    subst (λ (o : Option ℕ). IfSome o (λ m. m < s)) (unwrap_or-slice_get neighbours s None ∙ at) (earlier s within)

-- one section more, and it stands at the fan
pub filled-at_fan : {X : Type 0} (f : List ℕ → X) (none : X) (done : ℕ) (neighbours : List (Option ℕ)) (xs : List X)
    → ((x : ℕ) → get_or neighbours done None ≡ Some x → ⊥) → AreFilled f none done neighbours xs
    → AreFilled f none (done + 1) neighbours xs
filled-at_fan f none done neighbours xs at filled = record {
  count = filled.count;
  each = λ n within.
      let here : neighbour_in neighbours done ≡ None = unwrap_or-slice_get neighbours done None ∙ no_value _ at in
      let same : children_among (done + 1) neighbours n ≡ children_among done neighbours n =
      chosen-push (λ c. is_number n (neighbour_in neighbours c)) done
      ∙ ap (λ o. children_among done neighbours n ++ cond (is_number n o) (done ∷ []) []) here
      ∙ append-nil (children_among done neighbours n) in
      filled.each n within ∙ ap f (sym same);
}

-- one section more, which is a child of s
pub filled-push : {X : Type 0} (f : List ℕ → X) (none : X) (done : ℕ) (neighbours : List (Option ℕ)) (xs : List X)
    (s : ℕ) (x : X)
    → get_or neighbours done None ≡ Some s → s < length neighbours
    → x ≡ f (children_among done neighbours s ++ done ∷ [])
    → AreFilled f none done neighbours xs → AreFilled f none (done + 1) neighbours (set xs s x)
filled-push f none done neighbours xs s x at in_range is filled = record {
  count = length-set xs s x ∙ filled.count;
  each = λ n within.
      let here : neighbour_in neighbours done ≡ Some s = unwrap_or-slice_get neighbours done None ∙ at in
      let more : children_among (done + 1) neighbours n ≡ children_among done neighbours n ++ cond (s == n)
      (done ∷ []) [] =
      chosen-push (λ c. is_number n (neighbour_in neighbours c)) done
      ∙ ap (λ o. children_among done neighbours n ++ cond (is_number n o) (done ∷ []) []) here in
      elim (cases_eq n s) [
        | inl same ↦
            let long : s < length xs = omega (arith, filled.count) in
            let found : get_or (set xs s x) n none ≡ x = ap (λ m. get_or (set xs s x) m none) same ∙
            get_or-set_same xs s x none long in
            let test : (s == n) ≡ true = eq-eqb s n (sym same) in
            found ∙ is ∙ ap (λ m. f (children_among done neighbours m ++ done ∷ [])) (sym same)
            ∙ ap (λ b. f (children_among done neighbours n ++ cond b (done ∷ []) [])) (sym test)
            ∙ ap f (sym more)
        | inr differs ↦
            let test : (s == n) ≡ false = ne_eqb s n (λ e. differs (sym e)) in
            let same : children_among (done + 1) neighbours n ≡ children_among done neighbours n =
            more ∙ ap (λ b. children_among done neighbours n ++ cond b (done ∷ []) []) test
            ∙ append-nil (children_among done neighbours n) in
            get_or-set_other xs s n x none differs ∙ filled.each n within ∙ ap f (sym same)
      ];
}

-- every section is done
pub filled-all : {X : Type 0} (f : List ℕ → X) (none : X) (neighbours : List (Option ℕ)) (xs : List X)
    → AreFilled f none (length neighbours) neighbours xs
    → xs ≡ map (λ n. f (children_among (length neighbours) neighbours n)) (range_with_len 0 (length neighbours))
filled-all f none neighbours xs filled =
    fill_by_all (λ n. f (children_among (length neighbours) neighbours n)) xs (length neighbours) none filled.count
    filled.each

-- nothing is done yet
pub filled-none : {Y : Type 0} (neighbours : List (Option ℕ)) (ys : List Y) (xs : List (List ℕ))
    → length ys ≡ length neighbours → xs ≡ map (λ _. []) ys → AreFilled (λ children. children) [] 0 neighbours xs
filled-none {Y} neighbours ys xs count are = record {
  count = ap (λ all. length all) are ∙ length-map ys (λ (y : Y). no_items) ∙ count;
  each = λ n within. ap (λ all. get_or all n []) are ∙ get_or-no_items ys n;
}

-- what f makes of the value that was read
pub read-map : {V : Type 0} (f : V → List ℕ) (values : List V) (n : ℕ) (value : V) → n < length values
    → value ≡ get_or values n value → f value ≡ get_or (map f values) n []
read-map f values n value within is =
    let in_map : n < length (map f values) = omega (arith, length-map values f) in
    get_or_read (map f values) n (f value) in_map (ap f is ∙ sym (get_or-map f values n value (f value) within)) []

-- out of n sections there are at most n children
pub children_among-few : (done : ℕ) (neighbours : List (Option ℕ)) (s : ℕ)
    → length (children_among done neighbours s) ≤ done
children_among-few done neighbours s =
    let test : ℕ → Bool = λ c. is_number s (neighbour_in neighbours c) in
    let count : length (children_among done neighbours s) ≡ count_by test (range_with_len 0 done) = length-filter
    test (range_with_len 0 done) in
    let most = count_by-le-length test (range_with_len 0 done) in
    let long = length-range_with_len 0 done in
    omega arith

-- a chosen number more, or one that isn't chosen
pub chosen-yes : (test : ℕ → Bool) (s : ℕ) (xs : List ℕ) → xs ≡ filter test (range_with_len 0 s) → test s ≡ true
    → xs ++ s ∷ [] ≡ filter test (range_with_len 0 (s + 1))
chosen-yes test s xs are is =
    ap (λ ys. ys ++ s ∷ []) are ∙ ap (λ b. filter test (range_with_len 0 s) ++ cond b (s ∷ []) []) (sym is) ∙ sym
    (chosen-push test s)

pub chosen-no : (test : ℕ → Bool) (s : ℕ) (xs : List ℕ) → xs ≡ filter test (range_with_len 0 s) → test s ≡ false
    → xs ≡ filter test (range_with_len 0 (s + 1))
chosen-no test s xs are is =
    are ∙ sym (append-nil (filter test (range_with_len 0 s)))
    ∙ ap (λ b. filter test (range_with_len 0 s) ++ cond b (s ∷ []) []) (sym is) ∙ sym (chosen-push test s)

-- a section that is in the tree is a leaf where its list of children is empty
pub leaf-here : (t : Tree) (lists : List (List ℕ)) (s : ℕ) (empty : Bool)
    → lists ≡ map (children t) (sections t) → s < section_count t → empty ≡ (length (get_or lists s []) == 0)
    → is_leaf t s ≡ empty
leaf-here t lists s empty are within is =
    let test : nat_lt s (section_count t) ≡ true = lt-ltb s (section_count t) within in
    ap (λ b. b && length (children t s) == 0) test
    ∙ ap (λ xs. length xs == 0) (sym (child_list_at t lists s [] are within)) ∙ sym is
