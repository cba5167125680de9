-- Which leaves are beyond a section.
use Rattle.std.proofs.Common.{◌≡◌, ℕ, suc, ◌<◌, ◌⊎◌, inl, inr, List, [], ◌∷◌, length, true, Some, refl, ◌∙◌, sym, subst, arith}
use Rattle.std.proofs.lemmas.Bool.{and_parts, and_from, eqb-true, eq-eqb, ltb-true}
use Rattle.std.specs.Prelude.{◌&&◌}
use Rattle.duct_units.specs.declared.side.Side.{Side}
use Rattle.duct_definitions.specs.Tree.{Tree, IsTree, section_count, sections, neighbour, side, is_number, children, is_leaf, leaves, way, passes}
use Rattle.duct_units.specs.Side.{same_side}
use Rattle.duct_definitions.specs.Dampers.{leaves_beyond}
use Rattle.duct_definitions.proofs.TreeLaws.{earlier}
use Rattle.design_laws.proofs.Among.{Among, Among-filter, Among-filtered, Among-range, list_any-among, among-list_any}
use Rattle.duct_definitions.proofs.WayLaws.{way-beside}
use Rattle.design_laws.proofs.Ways.{neighbour_side, along_way}
use Rattle.duct_units.proofs.SideLaws.{same_side-same, same_side-true}

among_sections : (t : Tree) (s : ℕ) → s < section_count t → Among s (sections t)
among_sections t s within = Among-range 0 (section_count t) s (omega arith) (omega arith)

-- of a leaf's way: within the tree, on the leaf's side
stays : (t : Tree) (leaf s : ℕ) → IsTree t → leaf < section_count t → Among s (way t leaf)
    → (s < section_count t) × (side t s ≡ side t leaf)
stays t leaf s tree within among =
    along_way t tree (λ y. (y < section_count t) × (side t y ≡ side t leaf))
    (λ y n inside is same.
    let before = earlier t y n tree inside is in
    (omega arith, neighbour_side t y n tree inside is ∙ same.1))
    (suc leaf) leaf (omega arith) within (within, refl) s among

-- the neighbour of a section on the way is on the way
pub goes_on : (t : Tree) (leaf s n : ℕ) → IsTree t → leaf < section_count t → Among s (way t leaf)
    → neighbour t s ≡ Some n → Among n (way t leaf)
goes_on t leaf s n tree within among is =
    let held : (y : ℕ) → Among y (way t s) → Among y (way t leaf) =
    along_way t tree (λ x. (y : ℕ) → Among y (way t x) → Among y (way t leaf))
    (λ x m inside next all y later. all y (subst (Among y) (sym (way-beside t x m tree inside next)) (inr later)))
    (suc leaf) leaf (omega arith) within (λ y here. here) s among in
    held n (subst (Among n) (sym (way-beside t s n tree (stays t leaf s tree within among).0 is)) (inr (inl refl)))

pub no_item : (x : ℕ) (xs : List ℕ) → Among x xs → length xs ≡ 0 → ⊥
no_item x [] among none = among
no_item x (y ∷ ys) among none = absurd (omega arith)

-- a leaf is on no other section's way
pub alone_on_way : (t : Tree) (leaf x : ℕ) → IsTree t → is_leaf t leaf ≡ true → x < section_count t
    → Among leaf (way t x) → leaf ≡ x
alone_on_way t leaf x tree is within among =
    let found : (leaf ≡ x) ⊎ ((c : ℕ) × ((c < section_count t) × (neighbour t c ≡ Some leaf))) =
    along_way t tree (λ s. (s ≡ x) ⊎ ((c : ℕ) × ((c < section_count t) × (neighbour t c ≡ Some s))))
    (λ s n inside next _. inr (s, (inside, next))) (suc x) x (omega arith) within (inl refl) leaf among in
    elim found [
      | inl same ↦ same
      | inr child ↦
          let (c, (inside, next)) = child in
          let among_children : Among c (children t leaf) =
          Among-filter (λ y. is_number leaf (neighbour t y)) c (sections t) (among_sections t c inside)
          (rw next (eq-eqb leaf leaf refl)) in
          absurd (no_item c (children t leaf) among_children (eqb-true _ _ (and_parts _ _ is).1))
    ]

pub is_within : (t : Tree) (leaf : ℕ) → is_leaf t leaf ≡ true → leaf < section_count t
is_within t leaf is = ltb-true leaf (section_count t) (and_parts _ _ is).0

pub Among-leaves : (t : Tree) (x : Side) (leaf : ℕ) → is_leaf t leaf ≡ true → side t leaf ≡ x → Among leaf (leaves t x)
Among-leaves t x leaf is same =
    Among-filter (λ s. same_side (side t s) x && is_leaf t s) leaf (sections t)
    (among_sections t leaf (is_within t leaf is))
    (and_from _ _ (subst (λ y. same_side (side t leaf) y ≡ true) same (same_side-same (side t leaf))) is)

-- a leaf beyond the section is a leaf of the section's side whose way passes the section
pub record IsBeyond (t : Tree) (s leaf : ℕ) : Type 0 where
  pub is : is_leaf t leaf ≡ true
  pub same : side t leaf ≡ side t s
  pub passed : Among s (way t leaf)

pub Among-leaves_beyond : (t : Tree) (s leaf : ℕ) → IsBeyond t s leaf → Among leaf (leaves_beyond t s)
Among-leaves_beyond t s leaf beyond =
    Among-filter (passes t s) leaf (leaves t (side t s)) (Among-leaves t (side t s) leaf beyond.is beyond.same)
    (list_any-among s (way t leaf) beyond.passed)

pub IsBeyond-from : (t : Tree) (s leaf : ℕ) → Among leaf (leaves_beyond t s) → IsBeyond t s leaf
IsBeyond-from t s leaf among =
    let found = Among-filtered (passes t s) leaf (leaves t (side t s)) among in
    let passing = Among-filtered (λ y. same_side (side t y) (side t s) && is_leaf t y) leaf (sections t) found.0 in
    let (same, is) = and_parts (same_side (side t leaf) (side t s)) (is_leaf t leaf) passing.1 in
    record {
      is = is;
      same = same_side-true (side t leaf) (side t s) same;
      passed = among-list_any s (way t leaf) found.1;
    }

-- a section on a leaf's way has the leaf beyond it
pub IsBeyond-way : (t : Tree) (s leaf : ℕ) → IsTree t → is_leaf t leaf ≡ true → Among s (way t leaf) → IsBeyond t s leaf
IsBeyond-way t s leaf tree is among =
    record { is = is; same = sym (stays t leaf s tree (is_within t leaf is) among).1; passed = among }
