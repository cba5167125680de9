-- Which ways pass which sections.
use Rattle.std.proofs.Common.{◌≡◌, ◌≢◌, ℕ, zero, suc, ◌<◌, List, ◌∷◌, Bool, true, false, ◌||◌, Option, Some, None, IfSome, refl, ap, sym, ◌∙◌, subst, arith}
use Rattle.std.specs.Prelude.{◌==◌}
use Rattle.std.specs.List.{list_any}
use Rattle.std.proofs.lemmas.Bool.{eqb-true, eq-eqb}
use Rattle.duct_definitions.specs.Tree.{Tree, IsTree, section_count, neighbour, from_neighbour, way, passes}
use Rattle.duct_definitions.proofs.TreeLaws.{earlier}
use Rattle.duct_definitions.proofs.WayLaws.{way-first}

-- the way from what may be there passes s
abbrev pub passes_from : Tree → ℕ → Option ℕ → Bool
passes_from t s None = false
passes_from t s (Some x) = passes t s x

any-first : (test : ℕ → Bool) (x : ℕ) (xs : List ℕ) → list_any test (x ∷ xs) ≡ (test x || list_any test xs)
any-first test x xs = refl

from-is : (t : Tree) (s : ℕ) (o : Option ℕ) → list_any (λ y. y == s) (from_neighbour (way t) o) ≡ passes_from t s o
from-is t s None = refl
from-is t s (Some n) = refl

-- the way of x passes s, where x is s or the way of its neighbour passes s
pub passes-first : (t : Tree) (s x : ℕ) → IsTree t → x < section_count t → passes t s x ≡ ((x == s) || passes_from t s (neighbour t x))
passes-first t s x tree within =
    ap (list_any (λ y. y == s)) (way-first t x tree within)
    ∙ any-first (λ y. y == s) x (from_neighbour (way t) (neighbour t x))
    ∙ ap (λ b. (x == s) || b) (from-is t s (neighbour t x))

pub or-left : (a b : Bool) → a ≡ true → (a || b) ≡ true
or-left true b e = refl
or-left false b e = absurd (cc e)

pub or-right : (a b : Bool) → b ≡ true → (a || b) ≡ true
or-right true b e = refl
or-right false b e = e

pub or-cases : {C : Type 0} (a b : Bool) → (a || b) ≡ true → (a ≡ true → C) → (b ≡ true → C) → C
or-cases true b e left right = left refl
or-cases false b e left right = right e

pub passes-self : (t : Tree) (x : ℕ) → IsTree t → x < section_count t → passes t x x ≡ true
passes-self t x tree within = passes-first t x x tree within ∙ or-left (x == x) _ (eq-eqb x x refl)

-- the way of a section passes its neighbour
pub passes-beside : (t : Tree) (s n : ℕ) → IsTree t → s < section_count t → neighbour t s ≡ Some n → passes t n s ≡ true
passes-beside t s n tree within is =
    (let before = earlier t s n tree within is in
    passes-first t n s tree within ∙ ap (λ o. (s == n) || passes_from t n o) is ∙ or-right (s == n) (passes t n n) (passes-self t n tree (omega arith)))

-- one section further
goes-on : (t : Tree) (s y x : ℕ) → IsTree t → x < section_count t → ((n : ℕ) → n < x → passes t y n ≡ true → passes t s n ≡ true) → (o : Option ℕ) → neighbour t x ≡ o → passes_from t y o ≡ true → passes t s x ≡ true
goes-on t s y x tree within rest None is later = absurd (cc later)
goes-on t s y x tree within rest (Some n) is later =
    passes-first t s x tree within ∙ ap (λ o. (x == s) || passes_from t s o) is ∙ or-right (x == s) (passes t s n) (rest n (earlier t x n tree within is) later)

passes-through-within : (t : Tree) (s y x k : ℕ) → IsTree t → x < section_count t → x < k → passes t s y ≡ true → passes t y x ≡ true → passes t s x ≡ true
passes-through-within t s y x zero tree within less first second = absurd (omega arith)
passes-through-within t s y x (suc k) tree within less first second =
    or-cases (x == y) (passes_from t y (neighbour t x)) (sym (passes-first t y x tree within) ∙ second)
    (λ same. (let e : x ≡ y = eqb-true x y same in subst (λ (z : ℕ). passes t s z ≡ true) (sym e) first))
    (λ later. goes-on t s y x tree within (λ n before on. passes-through-within t s y n k tree (omega arith) (omega arith) first on) (neighbour t x) refl later)

-- a way that passes y passes what the way of y passes
pub passes-through : (t : Tree) (s y x : ℕ) → IsTree t → x < section_count t → passes t s y ≡ true → passes t y x ≡ true → passes t s x ≡ true
passes-through t s y x tree within first second = passes-through-within t s y x (suc x) tree within (omega arith) first second

-- a section that the way of x doesn't pass is another one
pub off-way : (t : Tree) (s x : ℕ) → IsTree t → x < section_count t → passes t s x ≡ false → s ≢ x
off-way t s x tree within off same = (let e : true ≡ false = sym (passes-self t x tree within) ∙ ap (λ z. passes t z x) (sym same) ∙ off in cc e)

-- no child of a section off the way is on it
pub child-off-way : (t : Tree) (s c x : ℕ) → IsTree t → c < section_count t → x < section_count t → neighbour t c ≡ Some s → passes t s x ≡ false → passes t c x ≡ false
child-off-way t s c x tree within named is off = by (passes t c x) refl
  where
    by : (b : Bool) → passes t c x ≡ b → b ≡ false
    by true on = (let e : true ≡ false = sym (passes-through t s c x tree named (passes-beside t c s tree within is) on) ∙ off in absurd (cc e))
    by false on = refl

-- what is next is a section
pub next-within : (t : Tree) (s : ℕ) → IsTree t → s < section_count t → IfSome (neighbour t s) (λ n. n < section_count t)
next-within t s tree within = by (neighbour t s) refl
  where
    by : (o : Option ℕ) → neighbour t s ≡ o → IfSome o (λ n. n < section_count t)
    by None is = tt
    by (Some n) is = (let before = earlier t s n tree within is in let less : n < section_count t = omega arith in less)
