-- The sizes of a list: their numbers rise, and their names differ.
use Rattle.std.proofs.Common.{◌≡◌, ℕ, zero, suc, ◌+◌, ◌<◌, ◌≤◌, List, [], ◌∷◌, map, length, Bool, true, false, cond, Option, Some, None, is_some, slice_get, IfSome, All, IsTrue, refl, ap, sym, ◌∙◌, arith}
use Rattle.std.specs.Prelude.{◌==◌, unwrap_or}
use Rattle.std.specs.Option.{option_map_or}
use Rattle.duct_units.specs.Name.{is_name}
use Rattle.duct_definitions.specs.Network.{AreNames}
use Rattle.name_index.specs.Places.{place_of, is_among}
use Rattle.name_index.proofs.PlaceLaws.{place_of-within}
use Rattle.size_catalogue.specs.declared.row.Size.{Size}
use Rattle.size_catalogue.specs.Catalogue.{Catalogue, IsCatalogue, IsSize, names_of, numbers_of, numbers_from}
use Rattle.size_catalogue.proofs.NumberLaws.{numbers_of-below}
use Rattle.net_build.specs.Catalogues.{numbers_named, size_at, no_size}

-- ---- the numbers of a list rise

-- all from the bound on, each above those before it
abbrev pub Rising : ℕ → List ℕ → Type 0
Rising low [] = Unit {0}
Rising low (n ∷ ns) = (low ≤ n) × Rising (n + 1) ns

lower : (low other : ℕ) (ns : List ℕ) → low ≤ other → Rising other ns → Rising low ns
lower low other [] less up = up
lower low other (n ∷ ns) less up = ((let l = up.0 in omega arith), up.1)

rising-step : (b : Bool) (i : ℕ) (ns : List ℕ) → Rising (i + 1) ns → Rising i (cond b (i ∷ ns) ns)
rising-step true i ns up = (omega arith, up)
rising-step false i ns up = lower i (i + 1) ns (omega arith) up

rising : (j i : ℕ) (sizes : List Size) → Rising i (numbers_from j i sizes)
rising j i [] = tt
rising j i (size ∷ sizes) = rising-step (size.list == j) i (numbers_from j (i + 1) sizes) (rising j (i + 1) sizes)

at-least : (low : ℕ) (ns : List ℕ) (k n : ℕ) → Rising low ns → slice_get ns k ≡ Some n → low ≤ n
at-least low [] k n up at = absurd (cc at)
at-least low (m ∷ ns) zero n up at = (let same : m ≡ n = cc in let l = up.0 in omega arith)
at-least low (m ∷ ns) (suc k) n up at = (let l = up.0 in let r = at-least (m + 1) ns k n up.1 at in omega arith)

-- of two numbers of a list the later one is greater
later-greater : (low : ℕ) (ns : List ℕ) (i j m n : ℕ) → Rising low ns → i < j → slice_get ns i ≡ Some m → slice_get ns j ≡ Some n → m < n
later-greater low [] i j m n up less at_i at_j = absurd (cc at_i)
later-greater low (x ∷ ns) zero zero m n up less at_i at_j = absurd (omega arith)
later-greater low (x ∷ ns) zero (suc j) m n up less at_i at_j = (let same : x ≡ m = cc in let r = at-least (x + 1) ns j n up.1 at_j in omega arith)
later-greater low (x ∷ ns) (suc i) zero m n up less at_i at_j = absurd (omega arith)
later-greater low (x ∷ ns) (suc i) (suc j) m n up less at_i at_j = later-greater (x + 1) ns i j m n up.1 (omega arith) at_i at_j

-- ---- the sizes of a named list

named-some : (sizes : Catalogue) (list : List ℕ) → IsCatalogue sizes → is_among list sizes.lists ≡ true → 1 ≤ length (numbers_named sizes list)
named-some sizes list is among = by (place_of list sizes.lists) (place_of-within list sizes.lists) among
  where
    by : (o : Option ℕ) → IfSome o (λ p. p < length sizes.lists) → is_some o ≡ true → 1 ≤ length (option_map_or (λ j. numbers_of j sizes.sizes) o [])
    by None within there = absurd (cc there)
    by (Some j) within there = (let u = is.lists_used j within in omega arith)

pub list-some : (sizes : Catalogue) (list : List ℕ) → IsCatalogue sizes → is_among list sizes.lists ≡ true → 1 ≤ length (numbers_named sizes list)
list-some sizes list is among = named-some sizes list is among

pub list-few : (sizes : Catalogue) (list : List ℕ) → IsCatalogue sizes → length (numbers_named sizes list) ≤ 24
list-few sizes list is = by (place_of list sizes.lists)
  where
    by : (o : Option ℕ) → length (option_map_or (λ j. numbers_of j sizes.sizes) o []) ≤ 24
    by None = omega arith
    by (Some j) = (let f = is.sizes_fit j in omega arith)

-- ---- their names

there : (ns : List ℕ) (k : ℕ) → k < length ns → (n : ℕ) × (slice_get ns k ≡ Some n)
there [] k less = absurd (omega arith)
there (n ∷ ns) zero less = (n, refl)
there (n ∷ ns) (suc k) less = there ns k (omega arith)

name-at : (sizes : List Size) (n : ℕ) → n < length sizes → slice_get (names_of sizes) n ≡ Some (unwrap_or (slice_get sizes n) no_size).name
name-at [] n less = absurd (omega arith)
name-at (size ∷ sizes) zero less = refl
name-at (size ∷ sizes) (suc n) less = name-at sizes n (omega arith)

size-is : (sizes : List Size) (n : ℕ) → All IsSize sizes → n < length sizes → IsSize (unwrap_or (slice_get sizes n) no_size)
size-is [] n all less = absurd (omega arith)
size-is (size ∷ sizes) zero all less = all 0 size (omega arith)
size-is (size ∷ sizes) (suc n) all less = size-is sizes n (λ i d within. all (suc i) d (omega arith)) (omega arith)

map-get : (f : ℕ → List ℕ) (ns : List ℕ) (k n : ℕ) → slice_get ns k ≡ Some n → slice_get (map f ns) k ≡ Some (f n)
map-get f [] k n at = absurd (cc at)
map-get f (m ∷ ns) zero n at = (let same : m ≡ n = cc in ap (λ x. Some (f x)) same)
map-get f (m ∷ ns) (suc k) n at = map-get f ns k n at

length-mapped : (f : ℕ → List ℕ) (ns : List ℕ) → length (map f ns) ≡ length ns
length-mapped f [] = refl
length-mapped f (n ∷ ns) = ap suc (length-mapped f ns)

all-mapped : (P : List ℕ → Type 0) (f : ℕ → List ℕ) (ns : List ℕ) → ((k n : ℕ) → slice_get ns k ≡ Some n → P (f n)) → All P (map f ns)
all-mapped P f [] each k d less = absurd (omega arith)
all-mapped P f (n ∷ ns) each zero d less = each 0 n refl
all-mapped P f (n ∷ ns) each (suc k) d less = all-mapped P f ns (λ i m at. each (suc i) m at) k d (omega arith)

names-of-numbers : (sizes : Catalogue) (ns : List ℕ) → IsCatalogue sizes → Rising 0 ns → ((k n : ℕ) → slice_get ns k ≡ Some n → n < length sizes.sizes) → AreNames (map (λ n. (size_at sizes n).name) ns)
names-of-numbers sizes ns is up within = record {
  form = all-mapped (λ name. IsTrue (is_name name)) (λ n. (size_at sizes n).name) ns (λ k n at. (size-is sizes.sizes n is.bounds (within k n at)).name);
  distinct = λ i j less inside same.
      (let l = length-mapped (λ n. (size_at sizes n).name) ns in
      let a = there ns i (omega arith) in
      let b = there ns j (omega arith) in
      let greater = later-greater 0 ns i j a.0 b.0 up less a.1 b.1 in
      let one : Some (size_at sizes a.0).name ≡ Some (size_at sizes b.0).name = sym (map-get (λ n. (size_at sizes n).name) ns i a.0 a.1) ∙ same ∙ map-get (λ n. (size_at sizes n).name) ns j b.0 b.1 in
      let name : (size_at sizes a.0).name ≡ (size_at sizes b.0).name = cc in
      let first : place_of (size_at sizes a.0).name (names_of sizes.sizes) ≡ Some a.0 = is.names_once a.0 (size_at sizes a.0).name (name-at sizes.sizes a.0 (within i a.0 a.1)) in
      let second : place_of (size_at sizes b.0).name (names_of sizes.sizes) ≡ Some b.0 = is.names_once b.0 (size_at sizes b.0).name (name-at sizes.sizes b.0 (within j b.0 b.1)) in
      let same_place : Some a.0 ≡ Some b.0 = sym first ∙ ap (λ n. place_of n (names_of sizes.sizes)) name ∙ second in
      let equal : a.0 ≡ b.0 = cc in
      omega arith);
}

pub list-names : (sizes : Catalogue) (list : List ℕ) → IsCatalogue sizes → AreNames (map (λ n. (size_at sizes n).name) (numbers_named sizes list))
list-names sizes list is = by (place_of list sizes.lists)
  where
    by : (o : Option ℕ) → AreNames (map (λ n. (size_at sizes n).name) (option_map_or (λ j. numbers_of j sizes.sizes) o []))
    by None = record { form = λ k d less. absurd (omega arith); distinct = λ i j less within. absurd (omega arith) }
    by (Some j) = names-of-numbers sizes (numbers_of j sizes.sizes) is (rising j 0 sizes.sizes) (λ k n at. numbers_of-below j sizes.sizes k n at)
