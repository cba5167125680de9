-- A network is valid where it passes a test of each of its rules.
use Rattle.std.proofs.Common.{◌≡◌, ℕ, List, [], ◌∷◌, length, map, Bool, true, false, not, refl, subst}
use Rattle.std.proofs.lemmas.Bool.{and_parts, eqb-true, leb-true, both_ways, not-true}
use Rattle.std.proofs.lemmas.Cmp.{nat_list_eq_equiv}
use Rattle.std.proofs.lemmas.List.Elements.{All-nil, All-cons}
use Rattle.std.specs.Prelude.{◌&&◌, ◌==◌, ◌*◌, nat_le, nat_eq, is_none, Option, Some, None, slice_get, All}
use Rattle.std.specs.List.{list_all}
use Rattle.std.specs.Cmp.Lexicographic.{pointwise}
use Rattle.duct_units.specs.Name.{is_name}
use Rattle.duct_units.specs.Rules.{first_broken}
use Rattle.duct_definitions.specs.declared.design.Pair.{Pair}
use Rattle.duct_definitions.specs.declared.design.NetFan.{NetFan}
use Rattle.duct_definitions.specs.declared.limits.TheConstants.{MAX_SIZES, MAX_FANS, MAX_PRESSURE, MAX_FAN_COST, MAX_LOSS, MAX_PRICE}
use Rattle.duct_definitions.specs.Tree.{Tree, IsTree, section_count, tree_rules}
use Rattle.duct_definitions.specs.Network.{Network, AreNames, IsFan, AreFans, IsBounded, IsSection, IsNetwork, sizes_of, size_count, pairs_of, columns}
use Rattle.duct_definitions.proofs.Below.{all_below, all_below-holds}

-- each item that passes the test has the property
All-tested : {X : Type 0} (P : X → Type 0) (test : X → Bool) → ((x : X) → test x ≡ true → P x)
    → (xs : List X) → list_all test xs ≡ true → All P xs
All-tested P test holds [] passed = All-nil P
All-tested P test holds (x ∷ xs) passed =
    let parts = and_parts (test x) (list_all test xs) passed in
    All-cons P x xs (holds x parts.0) (All-tested P test holds xs parts.1)

abbrev pub are_equal : Option (List ℕ) → Option (List ℕ) → Bool
are_equal None None = true
are_equal (Some name) (Some other) = pointwise nat_eq name other
are_equal name other = false

are_equal-same : (name : Option (List ℕ)) → are_equal name name ≡ true
are_equal-same None = refl
are_equal-same (Some name) = nat_list_eq_equiv.refl name

abbrev pub are_names : List (List ℕ) → Bool
are_names names =
    list_all is_name names
    && all_below (length names) (λ j. all_below j (λ i. not (are_equal (slice_get names i) (slice_get names j))))

AreNames-tested : (names : List (List ℕ)) → are_names names ≡ true → AreNames names
AreNames-tested names passed =
    let (form, distinct) = and_parts _ _ passed in
    record {
      form = All-tested (λ name. is_name name ≡ true) is_name (λ name is. is) names form;
      distinct = λ i j before within same.
          let all : ℕ → Bool = λ l. all_below l (λ k. not (are_equal (slice_get names k) (slice_get names l))) in
          let differ : (not (are_equal (slice_get names i) (slice_get names j))) ≡ true =
          all_below-holds j (λ k. not (are_equal (slice_get names k) (slice_get names j)))
          (all_below-holds (length names) all distinct j within) i before in
          both_ways (are_equal (slice_get names i) (slice_get names j)) (not-true _ differ)
          (subst (λ o. are_equal (slice_get names i) o ≡ true) same (are_equal-same (slice_get names i)));
    }

abbrev pub is_fan : NetFan → Bool
is_fan fan = nat_le 1 fan.pressure && (nat_le fan.pressure MAX_PRESSURE && nat_le fan.cost MAX_FAN_COST)

IsFan-tested : (fan : NetFan) → is_fan fan ≡ true → IsFan fan
IsFan-tested fan passed =
    let (some_pressure, rest) = and_parts _ _ passed in
    let (pressure, cost) = and_parts _ _ rest in
    record {
      some_pressure = leb-true 1 fan.pressure some_pressure;
      pressure = leb-true fan.pressure MAX_PRESSURE pressure;
      cost = leb-true fan.cost MAX_FAN_COST cost;
    }

abbrev pub are_fans : List NetFan → Bool
are_fans fans = are_names (map (λ fan. fan.name) fans) && (list_all is_fan fans && nat_le (length fans) MAX_FANS)

AreFans-tested : (fans : List NetFan) → are_fans fans ≡ true → AreFans fans
AreFans-tested fans passed =
    let (names, rest) = and_parts _ _ passed in
    let (bounds, few) = and_parts _ _ rest in
    record {
      names = AreNames-tested (map (λ fan. fan.name) fans) names;
      bounds = All-tested IsFan is_fan IsFan-tested fans bounds;
      few = leb-true (length fans) MAX_FANS few;
    }

abbrev pub is_bounded : Option Pair → Bool
is_bounded None = true
is_bounded (Some pair) = nat_le pair.loss MAX_LOSS && nat_le pair.price MAX_PRICE

IsBounded-tested : (pair : Option Pair) → is_bounded pair ≡ true → IsBounded pair
IsBounded-tested None passed = tt
IsBounded-tested (Some pair) passed =
    let (loss, price) = and_parts _ _ passed in
    (leb-true pair.loss MAX_LOSS loss, leb-true pair.price MAX_PRICE price)

abbrev pub is_section : Network → ℕ → Bool
is_section net s =
    (nat_le 1 (size_count net s) && nat_le (size_count net s) MAX_SIZES)
    && (are_names (sizes_of net s)
    && (length (pairs_of net s) == size_count net s * columns net s && list_all is_bounded (pairs_of net s)))

IsSection-tested : (net : Network) (s : ℕ) → is_section net s ≡ true → IsSection net s
IsSection-tested net s passed =
    let (counts, rest) = and_parts _ _ passed in
    let (some, few) = and_parts _ _ counts in
    let (names, pairs) = and_parts _ _ rest in
    let (places, bounds) = and_parts _ _ pairs in
    record {
      some = leb-true 1 (size_count net s) some;
      few = leb-true (size_count net s) MAX_SIZES few;
      sizes = AreNames-tested (sizes_of net s) names;
      pairs = eqb-true (length (pairs_of net s)) (size_count net s * columns net s) places;
      bounds = All-tested IsBounded is_bounded IsBounded-tested (pairs_of net s) bounds;
    }

abbrev pub is_tree : Tree → Bool
is_tree t = length t.sides == length t.neighbours && is_none (first_broken (tree_rules t))

pub none_tested : {X : Type 0} (o : Option X) → is_none o ≡ true → o ≡ None
none_tested None passed = refl
none_tested (Some x) passed = absurd (both_ways false refl passed)

IsTree-tested : (t : Tree) → is_tree t ≡ true → IsTree t
IsTree-tested t passed =
    let (sides, rules) = and_parts _ _ passed in
    record {
      sides = eqb-true (length t.sides) (length t.neighbours) sides;
      rules = none_tested (first_broken (tree_rules t)) rules;
    }

abbrev pub has_lists : Network → Bool
has_lists net =
    (length net.names == section_count net.tree && length net.sizes == section_count net.tree)
    && length net.pairs == section_count net.tree

abbrev pub has_names : Network → Bool
has_names net = is_name net.name && are_names net.names

abbrev pub is_network : Network → Bool
is_network net =
    (is_tree net.tree && (has_lists net && has_names net))
    && (all_below (section_count net.tree) (is_section net) && (are_fans net.fans && are_fans net.return_fans))

pub IsNetwork-tested : (net : Network) → is_network net ≡ true → IsNetwork net
IsNetwork-tested net passed =
    let (whole, each) = and_parts _ _ passed in
    let (tree, texts) = and_parts _ _ whole in
    let (lists, names) = and_parts _ _ texts in
    let (counts, pair_lists) = and_parts _ _ lists in
    let (name_count, size_lists) = and_parts _ _ counts in
    let (name, section_names) = and_parts _ _ names in
    let (sections, both_fans) = and_parts _ _ each in
    let (fans, return_fans) = and_parts _ _ both_fans in
    record {
      name = name;
      tree = IsTree-tested net.tree tree;
      names = AreNames-tested net.names section_names;
      name_count = eqb-true (length net.names) (section_count net.tree) name_count;
      size_lists = eqb-true (length net.sizes) (section_count net.tree) size_lists;
      pair_lists = eqb-true (length net.pairs) (section_count net.tree) pair_lists;
      sections = λ s within.
          IsSection-tested net s (all_below-holds (section_count net.tree) (is_section net) sections s within);
      fans = AreFans-tested net.fans fans;
      return_fans = AreFans-tested net.return_fans return_fans;
    }
