-- How deep sections stand, and leaves that are sorted by it.
use Rattle.std.proofs.Common.{◌≡◌, ℕ, ◌+◌, ◌<◌, ◌≤◌, List, [], ◌∷◌, ◌++◌, length, map, get_or, Option, Some, None, false, ap, sym, ◌∙◌, arith}
use Rattle.std.specs.Prelude.{All}
use Rattle.std.specs.Ordering.{nat_cmp, is_lt}
use Rattle.std.specs.List.{range_with_len}
use Rattle.std.specs.List.Sorted.{IsSortedBy, IsPermutation}
use Rattle.std.proofs.lemmas.Cmp.{nat_cmp_total}
use Rattle.std.proofs.lemmas.Bool.Decides.{nat_tests}
use Rattle.std.proofs.lemmas.List.Sorted.{sorted_far, All-permutation}
use Rattle.std.proofs.lemmas.List.MinMax.{IsStrictWeakOrder-flip, ranks_by}
use Rattle.std.proofs.lemmas.List.FromFn.{get_or-map-range_with_len, map-range_with_len_more}
use Rattle.duct_definitions.specs.Tree.{Tree, IsTree, section_count, sections, neighbour}
use Rattle.duct_definitions.proofs.WayLaws.{way-at_fan, way-beside}
use Rattle.tree_contract.specs.Depths.{depth, AreDeepestFirst}

pub depth-at_fan : (t : Tree) (s : ℕ) → neighbour t s ≡ None → depth t s ≡ 1
depth-at_fan t s is = ap length (way-at_fan t s is)

pub depth-beside : (t : Tree) (s n : ℕ) → IsTree t → s < section_count t → neighbour t s ≡ Some n
    → depth t n + 1 ≡ depth t s
depth-beside t s n tree within is =
    let longer = ap length (way-beside t s n tree within is) in
    omega arith

-- the same where the neighbour was looked up in an equal tree
pub depth-found : (t same : Tree) (s n : ℕ) (found : Option ℕ) → IsTree t → s < section_count t → same ≡ t
    → found ≡ neighbour same s → found ≡ Some n → depth t n + 1 ≡ depth t s
depth-found t same s n found tree within equal looked_up is =
    depth-beside t s n tree within (sym (looked_up ∙ ap (λ (tree : Tree). neighbour tree s) equal) ∙ is)

-- the depth of a section before section s
pub depth-read : (t : Tree) (before : List ℕ) (s n d : ℕ) → before ≡ map (depth t) (range_with_len 0 s) → n < s
    → get_or before n d ≡ depth t n
depth-read t before s n d are less =
    ap (λ (l : List ℕ). get_or l n d) are ∙ get_or-map-range_with_len (depth t) 0 s n n d less (omega arith)

-- the depth of one section more
pub depths-more : (t : Tree) (s d : ℕ) (old new : List ℕ) → new ≡ old ++ d ∷ [] → old ≡ map (depth t) (range_with_len 0 s)
    → d ≡ depth t s → new ≡ map (depth t) (range_with_len 0 (s + 1))
depths-more t s d old new pushed before this =
    pushed
    ∙ ap (λ (l : List ℕ). l ++ d ∷ []) before
    ∙ ap (λ (n : ℕ). map (depth t) (range_with_len 0 s) ++ n ∷ []) this
    ∙ sym (map-range_with_len_more (depth t) 0 s s (omega arith))

not_less : (a b : ℕ) → is_lt (nat_cmp a b) ≡ false → b ≤ a
not_less a b test = grind (arith, nat_tests)

-- in what is sorted by falling numbers, none is greater than one before it
falls : (number : ℕ → ℕ) (xs : List ℕ) → IsSortedBy (λ x y. is_lt (nat_cmp (number y) (number x))) xs
    → (i j : ℕ) → i < j → j < length xs → number (get_or xs j 0) ≤ number (get_or xs i 0)
falls number xs sorted i j before inside =
    let first = number (get_or xs i 0) in
    let second = number (get_or xs j 0) in
    not_less first second
    (sorted_far (λ x y. is_lt (nat_cmp (number y) (number x)))
    (IsStrictWeakOrder-flip (λ x y. is_lt (nat_cmp (number x) (number y))) (ranks_by nat_cmp_total number))
    xs sorted i j 0 (omega arith) inside)

-- sections that are sorted by their listed depths
pub deepest : (t : Tree) (depths xs ys : List ℕ) → depths ≡ map (depth t) (sections t)
    → All (λ s. s < section_count t) xs → IsPermutation xs ys
    → IsSortedBy (λ x y. is_lt (nat_cmp (get_or depths y 0) (get_or depths x 0))) ys → AreDeepestFirst t ys
deepest t depths xs ys are within moved sorted i j before inside =
    let all = All-permutation (λ s. s < section_count t) xs ys moved within in
    let first = depth-read t depths (section_count t) (get_or ys i 0) 0 are (all i 0 (omega arith)) in
    let second = depth-read t depths (section_count t) (get_or ys j 0) 0 are (all j 0 inside) in
    let fall = falls (λ s. get_or depths s 0) ys sorted i j before inside in
    omega arith
