-- One step of a reader: the rules of a part, and then whether its name is new.
use Rattle.std.proofs.Common.{◌≡◌, ℕ, ◌+◌, ◌<◌, ◌≤◌, List, [], ◌∷◌, ◌++◌, length, take, drop, map, get_or, option_map, Bool, true, false, Option, Some, None, Result, Ok, Err, refl, ap, ◌∙◌, sym, subst, arith, length-take-le}
use Rattle.std.specs.Prelude.{slice_get, if◌then◌else◌, All}
use Rattle.std.proofs.lemmas.List.Elements.{All-same, All-push}
use Rattle.std.proofs.lemmas.Option.{slice_get_within, slice_get-map, slice_get-get_or}
use Rattle.duct_units.specs.declared.fault.Fault.{Fault}
use Rattle.duct_units.specs.Rules.{Rule, first_broken, or_else, unless_refused}
use Rattle.duct_units.proofs.RuleLaws.{first_broken-append, both_none, rule_holds}
use Rattle.file_definitions.specs.Elements.{each, each_after}
use Rattle.file_definitions.proofs.ElementLaws.{each_here, each_past, each_end, each_holds, take_at}
use Rattle.std.proofs.lemmas.List.{map-append}

-- what was read, where it was
pub read_ok : {Y : Type 0} (refusal : Option Fault) (value got : Y) → ◌≡◌ {A = Result Y Fault} (Ok got) (unless_refused refusal value) → (refusal ≡ None) × (got ≡ value)
read_ok None value got e = (refl, cc)
read_ok (Some fault) value got e = cc

-- why it wasn't
pub read_err : {Y : Type 0} (refusal : Option Fault) (value : Y) (fault : Fault) → ◌≡◌ {A = Result Y Fault} (Err fault) (unless_refused refusal value) → refusal ≡ Some fault
read_err None value fault e = cc
read_err (Some other) value fault e = cc

-- a rule that comes last
abbrev pub last : Bool → Fault → List Rule
last holds fault = record { holds = holds; fault = fault } ∷ []

-- where the reading stands at the i-th element: no rule of those before it is broken
abbrev pub HoldBefore : {A : Type 0} → (List A → A → List Rule) → List A → ℕ → Type 0
HoldBefore rules xs i = first_broken (each rules xs) ≡ first_broken (each_after rules (take i xs) (drop i xs))

-- the place of an element, from 1
pub place_of_element : {A : Type 0} (xs : List A) (i : ℕ) (x : A) → slice_get xs i ≡ Some x → length (take i xs) + 1 ≡ i + 1
place_of_element xs i x e = let within = slice_get_within xs i x e in ap (λ n. n + 1) (length-take-le i xs (omega arith))

-- An element's own rules, by its place from 1, and then whether it is new among those before it.
abbrev pub named : {A : Type 0} → (ℕ → A → List Rule) → (List A → A → Bool) → (ℕ → Fault) → List A → A → List Rule
named own new fault before x = own (length before + 1) x ++ last (new before x) (fault (length before + 1))

-- the first broken rule of the i-th element, from its own rules and whether it is new
named_at : {A : Type 0} (own : ℕ → A → List Rule) (new : List A → A → Bool) (fault : ℕ → Fault) (xs : List A) (i : ℕ) (x : A) (broken : Option Fault) (is_new : Bool) → slice_get xs i ≡ Some x
    → first_broken (own (i + 1) x) ≡ broken → new (take i xs) x ≡ is_new → first_broken (named own new fault (take i xs) x) ≡ or_else broken (first_broken (last is_new (fault (i + 1))))
named_at own new fault xs i x broken is_new at first same =
    let place = place_of_element xs i x at in
    first_broken-append (own (length (take i xs) + 1) x) (last (new (take i xs) x) (fault (length (take i xs) + 1)))
    ∙ ap (λ n. or_else (first_broken (own n x)) (first_broken (last (new (take i xs) x) (fault n)))) place
    ∙ ap (λ o. or_else o (first_broken (last (new (take i xs) x) (fault (i + 1))))) first
    ∙ ap (λ b. or_else broken (first_broken (last b (fault (i + 1))))) same

-- at the i-th element its own rules are broken, so they are the first of all
pub own_broken : {A : Type 0} (own : ℕ → A → List Rule) (new : List A → A → Bool) (fault : ℕ → Fault) (xs : List A) (i : ℕ) (x : A) (broken : Fault)
    → HoldBefore (named own new fault) xs i → slice_get xs i ≡ Some x → first_broken (own (i + 1) x) ≡ Some broken → first_broken (each (named own new fault) xs) ≡ Some broken
own_broken own new fault xs i x broken so_far at some =
    so_far ∙ each_here (named own new fault) xs i x broken at (named_at own new fault xs i x (Some broken) (new (take i xs) x) at some refl)

-- or it isn't new
pub not_new : {A : Type 0} (own : ℕ → A → List Rule) (new : List A → A → Bool) (fault : ℕ → Fault) (xs : List A) (i : ℕ) (x : A)
    → HoldBefore (named own new fault) xs i → slice_get xs i ≡ Some x → first_broken (own (i + 1) x) ≡ None → new (take i xs) x ≡ false
    → first_broken (each (named own new fault) xs) ≡ Some (fault (i + 1))
not_new own new fault xs i x so_far at none old = so_far ∙ each_here (named own new fault) xs i x (fault (i + 1)) at (named_at own new fault xs i x None false at none old)

-- or it is in order, and the first broken rule is a later element's
pub in_order : {A : Type 0} (own : ℕ → A → List Rule) (new : List A → A → Bool) (fault : ℕ → Fault) (xs : List A) (i : ℕ) (x : A)
    → HoldBefore (named own new fault) xs i → slice_get xs i ≡ Some x → first_broken (own (i + 1) x) ≡ None → new (take i xs) x ≡ true → HoldBefore (named own new fault) xs (i + 1)
in_order own new fault xs i x so_far at none new_one = so_far ∙ each_past (named own new fault) xs i x at (named_at own new fault xs i x None true at none new_one)

-- where no rule is broken, an element's own rules hold, and it is new
pub named_holds : {A : Type 0} (own : ℕ → A → List Rule) (new : List A → A → Bool) (fault : ℕ → Fault) (xs : List A) (i : ℕ) (x : A) → first_broken (each (named own new fault) xs) ≡ None → slice_get xs i ≡ Some x
    → (first_broken (own (length (take i xs) + 1) x) ≡ None) × (new (take i xs) x ≡ true)
named_holds own new fault xs i x none at =
    let n = length (take i xs) + 1 in
    let parts = both_none _ _ (sym (first_broken-append (own n x) (last (new (take i xs) x) (fault n))) ∙ each_holds (named own new fault) xs i x none at) in
    (parts.0, (rule_holds _ _ _ parts.1).0)

-- the elements up to the next one, mapped
pub map_next : {A B : Type 0} (f : A → B) (xs : List A) (i : ℕ) (x : A) → slice_get xs i ≡ Some x → map f (take (i + 1) xs) ≡ map f (take i xs) ++ f x ∷ []
map_next f xs i x at = ap (map f) (take_at xs i x at) ∙ map-append f (take i xs) (x ∷ [])

-- past the last element all rules hold
pub all_in_order : {A : Type 0} (rules : List A → A → List Rule) (xs : List A) (n : ℕ) → HoldBefore rules xs n → length xs ≤ n → first_broken (each rules xs) ≡ None
all_in_order rules xs n so_far few = so_far ∙ each_end rules (take n xs) xs n few

-- what was read so far, and what stands at the next place
pub grown : {A B : Type 0} (f : A → B) (xs : List A) (i : ℕ) (x : A) (ok : Bool) (old new : List B) (y : B) → slice_get xs i ≡ Some x
    → new ≡ (if ok then old ++ y ∷ [] else old) → ok ≡ true → old ≡ map f (take i xs) → y ≡ f x → new ≡ map f (take (i + 1) xs)
grown f xs i x ok old new y at is done so_far same =
    is ∙ ap (λ b. if b then old ++ y ∷ [] else old) done ∙ ap (λ ys. ys ++ y ∷ []) so_far ∙ ap (λ z. map f (take i xs) ++ z ∷ []) same ∙ sym (map_next f xs i x at)

-- the same where it is seen through a view
pub grown_view : {A B C : Type 0} (view : C → B) (f : A → B) (xs : List A) (i : ℕ) (x : A) (ok : Bool) (old new : List C) (y : C) → slice_get xs i ≡ Some x
    → new ≡ (if ok then old ++ y ∷ [] else old) → ok ≡ true → map view old ≡ map f (take i xs) → view y ≡ f x → map view new ≡ map f (take (i + 1) xs)
grown_view view f xs i x ok old new y at is done so_far same =
    ap (map view) (is ∙ ap (λ b. if b then old ++ y ∷ [] else old) done) ∙ map-append view old (y ∷ [])
    ∙ ap (λ ys. ys ++ view y ∷ []) so_far ∙ ap (λ z. map f (take i xs) ++ z ∷ []) same ∙ sym (map_next f xs i x at)

-- An element's rules, by its place from 1.
abbrev pub numbered : {A : Type 0} → (ℕ → A → List Rule) → List A → A → List Rule
numbered own before x = own (length before + 1) x

-- at the i-th element one is broken, so it is the first of all
pub numbered_broken : {A : Type 0} (own : ℕ → A → List Rule) (xs : List A) (i : ℕ) (x : A) (broken : Fault)
    → HoldBefore (numbered own) xs i → slice_get xs i ≡ Some x → first_broken (own (i + 1) x) ≡ Some broken → first_broken (each (numbered own) xs) ≡ Some broken
numbered_broken own xs i x broken so_far at some =
    so_far ∙ each_here (numbered own) xs i x broken at (subst (λ n. first_broken (own n x) ≡ Some broken) (sym (place_of_element xs i x at)) some)

-- or none is
pub numbered_holds : {A : Type 0} (own : ℕ → A → List Rule) (xs : List A) (i : ℕ) (x : A)
    → HoldBefore (numbered own) xs i → slice_get xs i ≡ Some x → first_broken (own (i + 1) x) ≡ None → HoldBefore (numbered own) xs (i + 1)
numbered_holds own xs i x so_far at none =
    so_far ∙ each_past (numbered own) xs i x at (subst (λ n. first_broken (own n x) ≡ None) (sym (place_of_element xs i x at)) none)

-- the same of the list itself
pub added : {A : Type 0} (xs : List A) (i : ℕ) (x : A) (ok : Bool) (old new : List A) → slice_get xs i ≡ Some x
    → new ≡ (if ok then old ++ x ∷ [] else old) → ok ≡ true → old ≡ take i xs → new ≡ take (i + 1) xs
added xs i x ok old new at is done so_far = is ∙ ap (λ b. if b then old ++ x ∷ [] else old) done ∙ ap (λ ys. ys ++ x ∷ []) so_far ∙ sym (take_at xs i x at)

-- what stands at a place of a list that is seen through a view
pub view_at : {A B : Type 0} (view : A → B) (xs : List A) (i : ℕ) (d : A) → i < length xs → slice_get (map view xs) i ≡ Some (view (get_or xs i d))
view_at view xs i d within = slice_get-map view xs i ∙ ap (option_map view) (slice_get-get_or xs i d within)

-- a fact that holds of what was read so far, and of what comes next
pub all_grown : {A : Type 0} (P : A → Type 0) (ok : Bool) (old new : List A) (y : A) → new ≡ (if ok then old ++ y ∷ [] else old) → ok ≡ true → All P old → P y → All P new
all_grown P ok old new y is done all one = All-same P new (old ++ y ∷ []) (is ∙ ap (λ b. if b then old ++ y ∷ [] else old) done) (All-push P old y all one)
