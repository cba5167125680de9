-- A made network is a network.
use Rattle.std.proofs.Common.{◌≡◌, ℕ, zero, suc, ◌+◌, ◌*◌, ◌<◌, ◌≤◌, List, [], map, length, true, false, Option, Some, None, codes, cond, refl, ap, sym, ◌∙◌, subst, arith, length-append}
use Rattle.std.specs.Prelude.{is_none, if◌then◌else◌, All, IsTrue}
use Rattle.std.specs.List.{range_with_len, flat_map}
use Rattle.std.proofs.lemmas.Bool.{ltb-true}
use Rattle.std.proofs.lemmas.Bool.Decides.{nat_tests}
use Rattle.std.proofs.lemmas.List.Elements.{All-nil, All-append}
use Rattle.std.proofs.lemmas.List.FromFn.{length-map-range_with_len, get_or-map-range_with_len}
use Rattle.duct_definitions.specs.declared.design.Pair.{Pair}
use Rattle.duct_definitions.specs.declared.design.NetFan.{NetFan}
use Rattle.duct_definitions.specs.Tree.{Tree, neighbour, section_count, is_before}
use Rattle.duct_definitions.specs.Network.{Network, IsNetwork, IsSection, IsFan, AreFans, AreNames, IsBounded, columns, columns_beside, size_count, sizes_of}
use Rattle.duct_definitions.specs.Network as network
use Rattle.duct_units.specs.Name.{is_name}
use Rattle.duct_definitions.proofs.TreeLaws.{earlier}
use Rattle.duct_load.specs.Made.{neighbour_of, columns_of, is_left_out, loss_of, price_of, pair_of, pairs_in_size, pairs_of, numbered, names_with, fan_of, tree_of, made}
use Rattle.duct_load.proofs.NameLaws.{names_with-AreNames}
use Rattle.duct_load.proofs.TreeLaws.{at, stands_before, neighbour-tree_of, section_count-tree_of, tree_of-IsTree}

-- at most 24 sizes stand beside a section of a network
pub columns_few : (net : Network) (s : ℕ) → IsNetwork net → s < section_count net.tree → columns net s ≤ 24
columns_few net s valid within =
    elim (neighbour net.tree s) as (λ o. neighbour net.tree s ≡ o → columns_beside net o ≤ 24) [
      | None ↦ λ e. omega arith
      | Some n ↦ λ e. (let first : n < s = earlier net.tree s n valid.tree within e in (valid.sections n (omega arith)).few)
    ] refl

-- ---- pairs

pair_bounded : (i k g : ℕ) → i < 500 → k < 8 → IsBounded (pair_of i k g)
pair_bounded i k g section size =
    let loss : loss_of i k g ≤ 1000 = grind (arith, nat_tests) in
    let price : price_of i k g ≤ 1000 = omega arith in
    elim (is_left_out i k g) as (λ b. IsBounded (cond b None (Some (record { loss = loss_of i k g; price = price_of i k g })))) [
      | true ↦ tt
      | false ↦ (omega arith, omega arith)
    ]

-- what holds of each number below the count holds of all that is made from them
all_made : {X : Type 0} (P : X → Type 0) (f : ℕ → X) (n : ℕ) → ((i : ℕ) → i < n → P (f i)) → All P (map f (range_with_len 0 n))
all_made P f n each k d within =
    let count = length-map-range_with_len f 0 n in
    subst P (sym (get_or-map-range_with_len f 0 n k k d (omega arith) (omega arith))) (each k (omega arith))

all_flat : (f : ℕ → List (Option Pair)) (a n : ℕ) → ((k : ℕ) → k < a + n → All IsBounded (f k)) → All IsBounded (flat_map f (range_with_len a n))
all_flat f a zero each = All-nil IsBounded
all_flat f a (suc n) each = All-append IsBounded (f a) (flat_map f (range_with_len (a + 1) n)) (each a (omega arith)) (all_flat f (a + 1) n (λ k low. each k (omega arith)))

pairs_bounded : (i : ℕ) → i < 500 → All IsBounded (pairs_of i)
pairs_bounded i section =
    all_flat (pairs_in_size i) 0 8 (λ k size. all_made IsBounded (pair_of i k) (columns_of i) (λ g beside. pair_bounded i k g section size))

length_flat : (f : ℕ → List (Option Pair)) (count a n : ℕ) → ((k : ℕ) → length (f k) ≡ count) → length (flat_map f (range_with_len a n)) ≡ n * count
length_flat f count a zero each = omega arith
length_flat f count a (suc n) each =
    let rest = length_flat f count (a + 1) n each in
    let both = length-append (f a) (flat_map f (range_with_len (a + 1) n)) in
    let first = each a in
    grind arith

pairs_count : (i : ℕ) → length (pairs_of i) ≡ 8 * columns_of i
pairs_count i = length_flat (pairs_in_size i) (columns_of i) 0 8 (λ k. length-map-range_with_len (pair_of i k) 0 (columns_of i))

-- ---- sections

sizes_made : (n s : ℕ) → s < n → sizes_of (made n) s ≡ names_with 107 8
sizes_made n s within = at (λ i. names_with 107 8) n s [] within

size_count_made : (n s : ℕ) → s < n → size_count (made n) s ≡ 8
size_count_made n s within = ap length (sizes_made n s within) ∙ refl

pairs_made : (n s : ℕ) → s < n → network.pairs_of (made n) s ≡ pairs_of s
pairs_made n s within = at pairs_of n s [] within

columns_made : (n s : ℕ) → s < n → columns (made n) s ≡ columns_of s
columns_made n s within =
    ap (columns_beside (made n)) (neighbour-tree_of n s within)
    ∙ elim (neighbour_of s) as (λ o. is_before s o ≡ true → columns_beside (made n) o ≡ (if is_none o then 1 else 8)) [
      | None ↦ λ e. refl
      | Some m ↦ λ e. (let earlier_one : m < s = ltb-true m s e in size_count_made n m (omega arith))
    ] (stands_before s)

section_made : (n s : ℕ) → n ≤ 500 → s < n → IsSection (made n) s
section_made n s few within = record {
  some = (let e = size_count_made n s within in omega arith);
  few = (let e = size_count_made n s within in omega arith);
  sizes = subst AreNames (sym (sizes_made n s within)) (names_with-AreNames 107 8 (grind arith) (omega arith));
  pairs = ap length (pairs_made n s within) ∙ pairs_count s
      ∙ ap (λ c. 8 * c) (sym (columns_made n s within)) ∙ ap (λ (k : ℕ). k * columns (made n) s) (sym (size_count_made n s within));
  bounds = subst (All IsBounded) (sym (pairs_made n s within)) (pairs_bounded s (omega arith));
}

-- ---- fans

fans_made : AreFans (map fan_of (range_with_len 0 8))
fans_made = record {
  names = names_with-AreNames 102 8 (grind arith) (omega arith);
  bounds = all_made IsFan fan_of 8 (λ j low. record { some_pressure = omega arith; pressure = omega arith; cost = omega arith });
  few = omega (arith, length-map-range_with_len fan_of 0 8);
}

no_fans : AreFans []
no_fans = record {
  names = record { form = All-nil (λ name. IsTrue (is_name name)); distinct = λ i j first within. absurd (omega arith) };
  bounds = All-nil IsFan;
  few = omega arith;
}

-- the made network is a network
pub made_is_network : (n : ℕ) → 1 ≤ n → n ≤ 500 → IsNetwork (made n)
made_is_network n some few =
    let count = section_count-tree_of n in
    record {
      name = grind arith;
      tree = tree_of-IsTree n some few;
      names = names_with-AreNames 115 n (grind arith) few;
      name_count = length-map-range_with_len (numbered 115) 0 n ∙ sym count;
      size_lists = length-map-range_with_len (λ i. names_with 107 8) 0 n ∙ sym count;
      pair_lists = length-map-range_with_len pairs_of 0 n ∙ sym count;
      sections = λ s within. section_made n s few (omega arith);
      fans = fans_made;
      return_fans = no_fans;
    }

-- its parts make it
pub made_of_parts : (n : ℕ) (name : List ℕ) (tree : Tree) (names : List (List ℕ)) (sizes : List (List (List ℕ))) (pairs : List (List (Option Pair))) (fans : List NetFan)
    → name ≡ codes "made" → tree ≡ tree_of n → names ≡ names_with 115 n → sizes ≡ map (λ i. names_with 107 8) (range_with_len 0 n) → pairs ≡ map pairs_of (range_with_len 0 n) → fans ≡ map fan_of (range_with_len 0 8)
    → ◌≡◌ {A = Network} (record { name = name; tree = tree; names = names; sizes = sizes; pairs = pairs; fans = fans; return_fans = [] }) (made n)
made_of_parts n name tree names sizes pairs fans a b c d e f = cc
