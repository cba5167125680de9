-- What holds of a catalogue with one more size.
use Rattle.std.proofs.Common.{◌≡◌, ℕ, ◌+◌, ◌<◌, ◌≤◌, List, [], ◌∷◌, ◌++◌, length, Bool, true, false, cond, Option, Some, None, is_some, IfSome, refl, sym, ap, ◌∙◌, subst, arith, length-append}
use Rattle.std.proofs.Common.{get_or, slice_get, Vec}
use Rattle.std.specs.Global.{Global}
use Rattle.std.specs.Option.{option_map_or}
use Rattle.std.proofs.lemmas.Option.{slice_get_read}
use Rattle.size_catalogue.specs.Numbers.{numbers_at, with_number}
use Rattle.std.specs.Prelude.{◌==◌, nat_lt, not, unwrap_or, if◌then◌else◌}
use Rattle.std.proofs.lemmas.List.{map-append}
use Rattle.std.proofs.lemmas.List.Elements.{All-push, All-weaker}
use Rattle.std.proofs.lemmas.Bool.{eqb-true, eq-eqb, ltb-true}
use Rattle.std.proofs.lemmas.Bool.Decides.{nat_tests}
use Rattle.size_catalogue.specs.declared.limits.TheConstants.{MAX_LISTS, MAX_LIST_SIZES}
use Rattle.size_catalogue.specs.declared.row.Size.{Size}
use Rattle.size_catalogue.specs.declared.row.SizeRow.{SizeRow}
use Rattle.name_index.specs.Places.{place_of, is_among}
use Rattle.size_catalogue.specs.Places.{EachOnce}
use Rattle.size_catalogue.specs.SizeRow.{IsRowInBounds}
use Rattle.size_catalogue.specs.Catalogue.{Catalogue, IsCatalogue, IsSize, names_of, numbers_of, list_number, lists_with, size_in_list, with_size}
use Rattle.name_index.proofs.PlaceLaws.{place_of-within}
use Rattle.size_catalogue.proofs.PlaceLaws.{EachOnce-push, not_among}
use Rattle.size_catalogue.proofs.NumberLaws.{few_sizes, numbers_of-push}

-- 16 lists of 24 sizes are 384 sizes
pub few : (catalogue : Catalogue) → IsCatalogue catalogue → length catalogue.sizes ≤ 384
few catalogue is = omega (arith, few_sizes (length catalogue.lists) MAX_LIST_SIZES catalogue.sizes is.in_lists is.sizes_fit, is.lists_fit)

-- ---- the list of a row

place_or_next : (found : Option ℕ) (n : ℕ) → IfSome found (λ p. p < n) → unwrap_or found n ≤ n
place_or_next None n within = omega arith
place_or_next (Some p) n within = omega arith

-- it is a list of the catalogue or the next one
pub list_number-most : (name : List ℕ) (lists : List (List ℕ)) → list_number name lists ≤ length lists
list_number-most name lists = place_or_next (place_of name lists) (length lists) (place_of-within name lists)

-- with it there are as many lists as before, or one more
record Widens (found : Option ℕ) (name : List ℕ) (lists : List (List ℕ)) : Type 0 where
  most : length lists ≤ length (cond (is_some found) lists (lists ++ name ∷ []))
  there : unwrap_or found (length lists) < length (cond (is_some found) lists (lists ++ name ∷ []))

widens : (found : Option ℕ) (name : List ℕ) (lists : List (List ℕ)) → IfSome found (λ p. p < length lists) → Widens found name lists
widens None name lists within = record { most = omega (arith, length-append lists (name ∷ [])); there = omega (arith, length-append lists (name ∷ [])) }
widens (Some p) name lists within = record { most = omega arith; there = omega arith }

lists_once : (name : List ℕ) (lists : List (List ℕ)) → EachOnce lists → EachOnce (lists_with name lists)
lists_once name lists once =
    elim (is_among name lists) as (λ b. is_among name lists ≡ b → EachOnce (cond b lists (lists ++ name ∷ []))) [
      | true ↦ λ _. once
      | false ↦ λ absent. EachOnce-push lists name once (not_among name lists absent)
    ] refl

-- every list but that of the row was there before
older : (found : Option ℕ) (name : List ℕ) (lists : List (List ℕ)) (j : ℕ) → j < length (cond (is_some found) lists (lists ++ name ∷ [])) → (unwrap_or found (length lists) == j) ≡ false → j < length lists
older None name lists j less other = before (length lists) j (omega (arith, length-append lists (name ∷ []))) other
  where
    before : (n j : ℕ) → j < n + 1 → (n == j) ≡ false → j < n
    before n j less other = grind (arith, nat_tests)
older (Some p) name lists j less other = less

-- ---- one more size

length-with_number : (same : Bool) (numbers : List ℕ) (n most : ℕ) → length numbers ≤ most → (same ≡ true → length numbers < most) → length (with_number same numbers n) ≤ most
length-with_number true numbers n most within room = let less = room refl in omega (arith, length-append numbers (n ∷ []))
length-with_number false numbers n most within room = within

sizes_fit : (sizes : List Size) (last : Size) → ((j : ℕ) → length (numbers_of j sizes) ≤ MAX_LIST_SIZES) → length (numbers_of last.list sizes) < MAX_LIST_SIZES
    → (j : ℕ) → length (numbers_of j (sizes ++ last ∷ [])) ≤ MAX_LIST_SIZES
sizes_fit sizes last each room j =
    subst (λ (ns : List ℕ). length ns ≤ MAX_LIST_SIZES) (sym (numbers_of-push j sizes last))
    (length-with_number (last.list == j) (numbers_of j sizes) (length sizes) MAX_LIST_SIZES (each j) (λ same. subst (λ (i : ℕ). length (numbers_of i sizes) < MAX_LIST_SIZES) (eqb-true last.list j same) room))

used : (same : Bool) (numbers : List ℕ) (n : ℕ) → (same ≡ false → 0 < length numbers) → 0 < length (with_number same numbers n)
used true numbers n others = omega (arith, length-append numbers (n ∷ []))
used false numbers n others = others refl

-- each list has a size, also with one more
lists_used : (lists grown : List (List ℕ)) (sizes : List Size) (last : Size) → ((j : ℕ) → j < length lists → 0 < length (numbers_of j sizes)) → ((j : ℕ) → j < length grown → (last.list == j) ≡ false → j < length lists)
    → (j : ℕ) → j < length grown → 0 < length (numbers_of j (sizes ++ last ∷ []))
lists_used lists grown sizes last each older j less =
    subst (λ (ns : List ℕ). 0 < length ns) (sym (numbers_of-push j sizes last)) (used (last.list == j) (numbers_of j sizes) (length sizes) (λ other. each j (older j less other)))

pub size_in_bounds : (j : ℕ) (row : SizeRow) → IsRowInBounds row → IsSize (size_in_list j row)
size_in_bounds j row is = record { name = is.name; area = is.area; height = is.height; metre = is.metre; join = is.join; step = is.step }

pub names_of-push : (sizes : List Size) (last : Size) → names_of (sizes ++ last ∷ []) ≡ names_of sizes ++ last.name ∷ []
names_of-push sizes last = map-append (λ size. size.name) sizes (last ∷ [])

-- a row that breaks none of the rules leaves a catalogue
pub IsCatalogue-with_size : (catalogue : Catalogue) (row : SizeRow) → IsCatalogue catalogue → IsRowInBounds row
    → is_among row.name (names_of catalogue.sizes) ≡ false
    → length (lists_with row.list catalogue.lists) ≤ MAX_LISTS
    → length (numbers_of (list_number row.list catalogue.lists) catalogue.sizes) < MAX_LIST_SIZES
    → IsCatalogue (with_size catalogue row)
IsCatalogue-with_size catalogue row is bounds new few_lists room =
    let j = list_number row.list catalogue.lists in
    let wide = widens (place_of row.list catalogue.lists) row.list catalogue.lists (place_of-within row.list catalogue.lists) in
    let lists = lists_with row.list catalogue.lists in
    record {
      lists_fit = few_lists;
      sizes_fit = sizes_fit catalogue.sizes (size_in_list j row) is.sizes_fit room;
      lists_used = lists_used catalogue.lists lists catalogue.sizes (size_in_list j row) is.lists_used (older (place_of row.list catalogue.lists) row.list catalogue.lists);
      in_lists = All-push (λ size. size.list < length lists) catalogue.sizes (size_in_list j row)
          (All-weaker (λ size. size.list < length catalogue.lists) (λ size. size.list < length lists) (λ size less. omega (arith, wide.most)) catalogue.sizes is.in_lists) wide.there;
      bounds = All-push IsSize catalogue.sizes (size_in_list j row) is.bounds (size_in_bounds j row bounds);
      lists_once = lists_once row.list catalogue.lists is.lists_once;
      names_once = subst EachOnce (sym (names_of-push catalogue.sizes (size_in_list j row))) (EachOnce-push (names_of catalogue.sizes) row.name is.names_once (not_among row.name (names_of catalogue.sizes) new));
    }

-- ---- as it is held

-- the numbers of each list, with one more
pub numbers_held : (sizes : List Size) (last : Size) (at grown : ℕ → List ℕ) (n : ℕ) → ((j : ℕ) → at j ≡ numbers_of j sizes) → n ≡ length sizes
    → ((j : ℕ) → grown j ≡ with_number (last.list == j) (at j) n) → (j : ℕ) → grown j ≡ numbers_of j (sizes ++ last ∷ [])
numbers_held sizes last at grown n held count more j =
    more j
    ∙ ap (λ (ns : List ℕ). with_number (last.list == j) ns n) (held j)
    ∙ ap (λ (k : ℕ). with_number (last.list == j) (numbers_of j sizes) k) count
    ∙ sym (numbers_of-push j sizes last)

-- as many lists of numbers as lists
pub as_many : (name : List ℕ) (lists : List (List ℕ)) (rows grown : ℕ) → rows ≡ length lists
    → grown ≡ (if list_number name lists == rows then rows + 1 else rows) → grown ≡ length (lists_with name lists)
as_many name lists rows grown same more = more ∙ widened (place_of name lists) name lists rows (place_of-within name lists) same
  where
    widened : (found : Option ℕ) (name : List ℕ) (lists : List (List ℕ)) (rows : ℕ) → IfSome found (λ p. p < length lists) → rows ≡ length lists
        → (if unwrap_or found (length lists) == rows then rows + 1 else rows) ≡ length (cond (is_some found) lists (lists ++ name ∷ []))
    widened None name lists rows within same = ap (λ (b : Bool). cond b (rows + 1) rows) (eq-eqb (length lists) rows (sym same)) ∙ omega (arith, length-append lists (name ∷ []))
    widened (Some p) name lists rows within same = ap (λ (b : Bool). cond b (rows + 1) rows) (differs p rows (omega arith)) ∙ same
      where
        differs : (a b : ℕ) → a < b → (a == b) ≡ false
        differs a b less = grind (arith, nat_tests)

-- the catalogue with one more size, from its parts
pub with_size_is : (catalogue : Catalogue) (row : SizeRow) (lists : List (List ℕ)) (sizes : List Size) → lists ≡ lists_with row.list catalogue.lists
    → sizes ≡ catalogue.sizes ++ size_in_list (list_number row.list catalogue.lists) row ∷ []
    → with_size catalogue row ≡ record { lists = lists; sizes = sizes }
with_size_is catalogue row lists sizes is_lists is_sizes = rw (is_lists, is_sizes) refl

-- a name that was added was not there
pub not_there : (name : List ℕ) (names : List (List ℕ)) (sizes : List Size) → names ≡ names_of sizes → true ≡ not (is_among name names) → is_among name (names_of sizes) ≡ false
not_there name names sizes same new = ap (is_among name) (sym same) ∙ turned (is_among name names) new
  where
    turned : (b : Bool) → true ≡ not b → b ≡ false
    turned true e = cc e
    turned false e = refl

-- a number that was added had room
pub had_room : (at : ℕ → List ℕ) (list j : ℕ) (sizes : List Size) → ((i : ℕ) → at i ≡ numbers_of i sizes) → list ≡ j
    → true ≡ nat_lt (length (at list)) MAX_LIST_SIZES → length (numbers_of j sizes) < MAX_LIST_SIZES
had_room at list j sizes held same less =
    let here : length (at list) ≡ length (numbers_of j sizes) = ap length (held list) ∙ ap (λ (i : ℕ). length (numbers_of i sizes)) same in
    let below : length (at list) < MAX_LIST_SIZES = ltb-true (length (at list)) MAX_LIST_SIZES (sym less) in
    omega arith

-- the k-th number that is held of a list
pub number_is : (lists : List (Vec ℕ Global)) (list k n : ℕ) (numbers : Vec ℕ Global) (held : List ℕ) → list < length lists → numbers ≡ get_or lists list numbers
    → numbers_at lists list ≡ held → k < length held → n ≡ get_or numbers.items k n → slice_get held k ≡ Some n
number_is lists list k n numbers held inside at holds place is =
    let here : slice_get lists list ≡ Some numbers = slice_get_read lists (length lists) list numbers refl inside at in
    let items : held ≡ numbers.items = sym holds ∙ ap (λ (found : Option (Vec ℕ Global)). option_map_or (λ ns. ns.items) found []) here in
    let less : k < length numbers.items = subst (λ (ns : List ℕ). k < length ns) items place in
    ap (λ (ns : List ℕ). slice_get ns k) items ∙ slice_get_read numbers.items (length numbers.items) k n refl less is
