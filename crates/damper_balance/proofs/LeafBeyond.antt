-- Leaves, children and ways: every section has a leaf beyond it, a leaf beyond an inner section is beyond one of its
-- children, and a way stays within the tree.
use Rattle.std.proofs.Common.{◌≡◌, ℕ, zero, suc, ◌+◌, ◌<◌, ◌≤◌, ◌⊎◌, inl, inr, List, [], ◌∷◌, length, true, false, Option, Some, None, refl, ap, ◌∙◌, sym, subst, arith}
use Rattle.std.proofs.lemmas.Bool.{and_parts, and_from, both_ways, eqb-true, eq-eqb, lt-ltb}
use Rattle.std.specs.Prelude.{◌&&◌, ◌==◌, nat_lt}
use Rattle.duct_definitions.specs.Tree.{Tree, IsTree, section_count, sections, neighbour, is_number, children, is_leaf, way}
use Rattle.duct_definitions.proofs.TreeLaws.{earlier}
use Rattle.design_laws.proofs.Among.{Among, Among-filter, Among-filtered, Among-range, below-range}
use Rattle.design_laws.proofs.Ways.{neighbour_side, along_way}
use Rattle.design_laws.proofs.Beyond.{IsBeyond, IsBeyond-way, goes_on, no_item, is_within}

number_is : (s : ℕ) (o : Option ℕ) → is_number s o ≡ true → o ≡ Some s
number_is s None is = absurd (both_ways false refl is)
number_is s (Some n) is = ap Some (eqb-true n s is)

-- a child is a section whose neighbour is the section
pub child_is : (t : Tree) (s c : ℕ) → Among c (children t s) → (c < section_count t) × (neighbour t c ≡ Some s)
child_is t s c among =
    let found = Among-filtered (λ x. is_number s (neighbour t x)) c (sections t) among in
    let below = below-range 0 (section_count t) c found.0 in
    (omega arith, number_is s (neighbour t c) found.1)

pub is_child : (t : Tree) (s c : ℕ) → c < section_count t → neighbour t c ≡ Some s → Among c (children t s)
is_child t s c within next =
    Among-filter (λ x. is_number s (neighbour t x)) c (sections t)
    (Among-range 0 (section_count t) c (omega arith) (omega arith))
    (rw next (eq-eqb s s refl))

pub leaf_or_child : (t : Tree) (s : ℕ) → s < section_count t
    → (is_leaf t s ≡ true) ⊎ ((c : ℕ) × Among c (children t s))
leaf_or_child t s within =
    elim (children t s) as
    (λ (cs : List ℕ). ((nat_lt s (section_count t) && length cs == 0) ≡ true) ⊎ ((c : ℕ) × Among c cs)) [
      | [] ↦ inl (and_from _ _ (lt-ltb s (section_count t) within) refl)
      | c ∷ cs ↦ inr (c, inl refl)
    ]

-- the sections of a way are sections of the tree
pub on_way_within : (t : Tree) (leaf s : ℕ) → IsTree t → leaf < section_count t → Among s (way t leaf)
    → s < section_count t
on_way_within t leaf s tree within among =
    along_way t tree (λ (y : ℕ). y < section_count t)
    (λ y n inside next _. let before = earlier t y n tree inside next in omega arith)
    (suc leaf) leaf (omega arith) within within s among

-- what is beyond a child is beyond the section
pub IsBeyond-neighbour : (t : Tree) (s c leaf : ℕ) → IsTree t → Among c (children t s) → IsBeyond t c leaf
    → IsBeyond t s leaf
IsBeyond-neighbour t s c leaf tree child beyond =
    let (within, next) = child_is t s c child in
    record {
      is = beyond.is;
      same = beyond.same ∙ sym (neighbour_side t c s tree within next);
      passed = goes_on t leaf c s tree (is_within t leaf beyond.is) beyond.passed next;
    }

beyond_within : (t : Tree) → IsTree t → (k s : ℕ) → section_count t ≤ s + k → s < section_count t
    → (leaf : ℕ) × IsBeyond t s leaf
beyond_within t tree zero s last within = absurd (omega arith)
beyond_within t tree (suc k) s last within =
    elim (leaf_or_child t s within) [
      | inl is ↦ (s, IsBeyond-way t s s tree is (inl refl))
      | inr child ↦
          let (c, among) = child in
          let (inside, next) = child_is t s c among in
          let later = earlier t c s tree inside next in
          let (leaf, beyond) = beyond_within t tree k c (omega arith) inside in
          (leaf, IsBeyond-neighbour t s c leaf tree among beyond)
    ]

-- each section has a leaf beyond it
pub leaf_beyond : (t : Tree) (s : ℕ) → IsTree t → s < section_count t → (leaf : ℕ) × IsBeyond t s leaf
leaf_beyond t s tree within = beyond_within t tree (section_count t) s (omega arith) within

-- a section on the leaf's way is the leaf, or has a child on that way
abbrev IsPassed : Tree → ℕ → ℕ → Type 0
IsPassed t leaf s = Among s (way t leaf) × ((s ≡ leaf) ⊎ ((c : ℕ) × (Among c (children t s) × Among c (way t leaf))))

-- a leaf beyond a section with a child is beyond a child
pub child_before : (t : Tree) (s c leaf : ℕ) → IsTree t → Among c (children t s) → IsBeyond t s leaf
    → (g : ℕ) × (Among g (children t s) × IsBeyond t g leaf)
child_before t s c leaf tree child beyond =
    let within = is_within t leaf beyond.is in
    let found : IsPassed t leaf s =
    along_way t tree (IsPassed t leaf)
    (λ y n inside next held. (
      goes_on t leaf y n tree within held.0 next,
      inr
          (y, (is_child t n y inside next, held.0)),
    ))
    (suc leaf) leaf (omega arith) within (inl refl, inl refl) s beyond.passed in
    elim found.1 [
      | inl same ↦
          absurd (no_item c (children t leaf) (subst (λ (y : ℕ). Among c (children t y)) same child)
          (eqb-true _ _ (and_parts _ _ beyond.is).1))
      | inr passed ↦
          let (g, (among, on_way)) = passed in
          (g, (among, IsBeyond-way t g leaf tree beyond.is on_way))
    ]
