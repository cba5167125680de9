-- The lists of a tree, as tests of places: children, roots, the sections beyond a section, and the leaves beyond it.
use Rattle.std.proofs.Common.{◌≡◌, ◌≢◌, ℕ, zero, suc, ◌<◌, Bool, true, false, refl, arith, ap, sym, ◌∙◌, cond, inl, inr, subst, Option, Some, None, List, [], ◌∷◌, ◌++◌, length}
use Rattle.std.proofs.lemmas.Bool.{and_parts, and_from, eqb-true, eq-eqb, lt-ltb, false_from_ne_true}
use Rattle.std.proofs.lemmas.List.Elements.{All-nil, All-cons, All-head, All-tail}
use Rattle.std.specs.Prelude.{◌&&◌, ◌==◌, All, filter, is_none}
use Rattle.std.specs.List.{range_with_len}
use Rattle.duct_units.specs.declared.side.Side.{Side}
use Rattle.duct_definitions.specs.Tree.{Tree, IsTree, section_count, sections, neighbour, side, is_number, children, is_leaf, is_root, roots, way, passes}
use Rattle.duct_units.specs.Side.{same_side}
use Rattle.duct_definitions.specs.Dampers.{leaves_beyond}
use Rattle.least_laws.specs.Least.{sections_beyond}
use Rattle.design_laws.proofs.Among.{Among, Among-filter, Among-filtered, Among-range, below-range, list_any-among, among-list_any}
use Rattle.design_laws.proofs.Beyond.{no_item, IsBeyond-from, IsBeyond-way, Among-leaves_beyond, is_within}
use Rattle.tree_sums.specs.Route.{Fan, At, same, goes_by}
use Rattle.tree_sums.proofs.Places.{same-true}
use Rattle.least_laws.proofs.TreePlaces.{place_of, next_in, neighbour-at, passes-goes_by}
use Rattle.duct_definitions.proofs.SectionLists.{chosen-suc}

pub All-among : {X : Type 0} (P : X → Type 0) (x : X) (xs : List X) → All P xs → Among x xs → P x
All-among P x [] all among = absurd among
All-among {X} P x (y ∷ ys) all (inl same) = subst (λ (z : X). P z) (sym same) (All-head P y ys all)
All-among P x (y ∷ ys) all (inr later) = All-among P x ys (All-tail P y ys all) later

pub All-from_among : {X : Type 0} (P : X → Type 0) (xs : List X) → ((x : X) → Among x xs → P x) → All P xs
All-from_among P [] each = All-nil P
All-from_among P (y ∷ ys) each =
    All-cons P y ys (each y (inl refl)) (All-from_among P ys (λ x later. each x (inr later)))

-- two tests that agree below n keep the same numbers
filter-range_same : (p q : ℕ → Bool) (n : ℕ) → ((k : ℕ) → k < n → p k ≡ q k)
    → filter p (range_with_len 0 n) ≡ filter q (range_with_len 0 n)
filter-range_same p q zero agree = refl
filter-range_same p q (suc n) agree =
    chosen-suc p n
    ∙ ap (λ xs. xs ++ cond (p n) (n ∷ []) []) (filter-range_same p q n (λ k less. agree k (omega arith)))
    ∙ ap (λ b. filter q (range_with_len 0 n) ++ cond b (n ∷ []) []) (agree n (omega arith))
    ∙ sym (chosen-suc q n)

filter-range_none : (p : ℕ → Bool) (n : ℕ) → ((k : ℕ) → k < n → p k ≡ false) → filter p (range_with_len 0 n) ≡ []
filter-range_none p zero none = refl
filter-range_none p (suc n) none =
    chosen-suc p n
    ∙ ap (λ xs. xs ++ cond (p n) (n ∷ []) []) (filter-range_none p n (λ k less. none k (omega arith)))
    ∙ ap (λ b. cond b (n ∷ []) []) (none n (omega arith))

is_number-same : (s : ℕ) (x : Side) (o : Option ℕ) → is_number s o ≡ same (place_of x o) (At s)
is_number-same s x None = refl
is_number-same s x (Some n) = refl

pub children-same : (t : Tree) (s : ℕ) → children t s ≡ filter (λ c. same (next_in t c) (At s)) (sections t)
children-same t s =
    filter-range_same (λ c. is_number s (neighbour t c)) (λ c. same (next_in t c) (At s)) (section_count t)
    (λ c less. is_number-same s (side t c) (neighbour t c))

and-true : (b : Bool) → (b && true) ≡ b
and-true true = refl
and-true false = refl

and-false : (b : Bool) → (b && false) ≡ false
and-false true = refl
and-false false = refl

is_root-same : (x y : Side) (o : Option ℕ) → (same_side y x && is_none o) ≡ same (place_of y o) (Fan x)
is_root-same x y None = and-true (same_side y x)
is_root-same x y (Some n) = and-false (same_side y x)

pub roots-same : (t : Tree) (x : Side) → roots t x ≡ filter (λ s. same (next_in t s) (Fan x)) (sections t)
roots-same t x =
    filter-range_same (λ s. same_side (side t s) x && is_root t s) (λ s. same (next_in t s) (Fan x)) (section_count t)
    (λ s less.
    ap (λ b. same_side (side t s) x && (b && is_none (neighbour t s))) (lt-ltb s (section_count t) less)
    ∙ is_root-same x (side t s) (neighbour t s))

-- no section stands beyond a leaf
pub leaf-end : (t : Tree) (leaf : ℕ) → is_leaf t leaf ≡ true → (c : ℕ) → c < section_count t → next_in t c ≢ At leaf
leaf-end t leaf is c less next =
    let child : is_number leaf (neighbour t c) ≡ true = rw (neighbour-at t c leaf next) (eq-eqb leaf leaf refl) in
    let among : Among c (children t leaf) =
    Among-filter (λ y. is_number leaf (neighbour t y)) c (sections t)
    (Among-range 0 (section_count t) c (omega arith) (omega arith)) child in
    no_item c (children t leaf) among (eqb-true _ _ (and_parts _ _ is).1)

-- and a section beyond which none stands is a leaf
pub end-leaf : (t : Tree) (leaf : ℕ) → leaf < section_count t
    → ((c : ℕ) → c < section_count t → next_in t c ≢ At leaf) → is_leaf t leaf ≡ true
end-leaf t leaf within end =
    let none : children t leaf ≡ [] =
    children-same t leaf
    ∙ filter-range_none (λ c. same (next_in t c) (At leaf)) (section_count t)
    (λ c less.
    false_from_ne_true (same (next_in t c) (At leaf)) (λ is. end c less (same-true (next_in t c) (At leaf) is))) in
    and_from _ _ (lt-ltb leaf (section_count t) within) (ap (λ cs. length cs == 0) none)

module _ (t : Tree) (tree : IsTree t) (s : ℕ) (P : ℕ → Type 0) where
  -- what holds of all sections beyond s
  pub All-beyond : All P (sections_beyond t s)
      → (k : ℕ) → k < section_count t → goes_by (next_in t) (At s) k ≡ true → P k
  All-beyond all k less by =
      All-among P k (sections_beyond t s) all
      (Among-filter (passes t s) k (sections t) (Among-range 0 (section_count t) k (omega arith) (omega arith))
      (passes-goes_by t tree s k ∙ by))

  pub All-from_beyond : ((k : ℕ) → k < section_count t → goes_by (next_in t) (At s) k ≡ true → P k)
      → All P (sections_beyond t s)
  All-from_beyond each =
      All-from_among P (sections_beyond t s) (λ k among.
      let found = Among-filtered (passes t s) k (sections t) among in
      let below = below-range 0 (section_count t) k found.0 in
      each k (omega arith) (sym (passes-goes_by t tree s k) ∙ found.1))

  -- what holds of all leaves beyond s
  pub All-leaves : All P (leaves_beyond t s)
      → (leaf : ℕ) → leaf < section_count t → ((c : ℕ) → c < section_count t → next_in t c ≢ At leaf)
      → goes_by (next_in t) (At s) leaf ≡ true → P leaf
  All-leaves all leaf less end by =
      All-among P leaf (leaves_beyond t s) all
      (Among-leaves_beyond t s leaf
      (IsBeyond-way t s leaf tree (end-leaf t leaf less end)
      (among-list_any s (way t leaf) (passes-goes_by t tree s leaf ∙ by))))

  pub All-from_leaves : ((leaf : ℕ) → leaf < section_count t → ((c : ℕ) → c < section_count t → next_in t c ≢ At leaf)
      → goes_by (next_in t) (At s) leaf ≡ true → P leaf) → All P (leaves_beyond t s)
  All-from_leaves each =
      All-from_among P (leaves_beyond t s) (λ leaf among.
      let beyond = IsBeyond-from t s leaf among in
      each leaf (is_within t leaf beyond.is) (leaf-end t leaf beyond.is)
      (sym (passes-goes_by t tree s leaf) ∙ list_any-among s (way t leaf) beyond.passed))
