-- What the sections take of each size, with one more section.
use Rattle.std.proofs.Common.{◌≡◌, ℕ, ◌+◌, List, [], ◌∷◌, ◌++◌, length, map, Bool, true, false, cond, ◌||◌, refl, ap, subst, ◌∙◌, sym, length-append, append-nil, arith}
use Rattle.std.specs.Prelude.{sum_by}
use Rattle.std.specs.List.{list_any, IsDistinct, AllByRecursion}
use Rattle.std.specs.Str.{bytes_eq}
use Rattle.std.proofs.lemmas.Slice.Eq.{bytes_eq-Decides}
use Rattle.std.proofs.lemmas.List.{map-append}
use Rattle.std.proofs.lemmas.List.Elements.{filter-append}
use Rattle.std.proofs.lemmas.List.Sums.{sum_by_push}
use Rattle.material_takeoff.specs.declared.record.SizeUse.{SizeUse}
use Rattle.material_takeoff.specs.Uses.{Measured, without, order_of_use, listed_in, size_use, uses}
use Rattle.material_takeoff.specs.Counting.{section_use, together, with_use}
use Rattle.material_takeoff.proofs.OrderOfUse.{with_name, same_name, bytes_eq-other, order_of_use-push, IsDistinct-order_of_use, list_any-without}

-- the names of the sections' sizes
abbrev pub sizes_of : List Measured → List (List ℕ)
sizes_of sections = map (λ s. s.0.size) sections

-- what sections in a list of their own take
abbrev use_of : List ℕ → List Measured → SizeUse
use_of size listed = record { name = size; count = length listed; length = sum_by (λ s. s.1) listed; price = sum_by (λ s. s.0.price) listed }

use_of-push : (size : List ℕ) (listed : List Measured) (e : Measured) → use_of size (listed ++ e ∷ []) ≡ together (use_of size listed) (section_use e)
use_of-push size listed e =
    let count : length (listed ++ e ∷ []) ≡ length listed + 1 = omega (arith, length-append listed (e ∷ [])) in
    let metres = sum_by_push (λ (s : Measured). s.1) listed e in
    let price = sum_by_push (λ (s : Measured). s.0.price) listed e in
    cc (count, metres, price)

-- a section of the size is counted
pub size_use-same : (sections : List Measured) (e : Measured) (size : List ℕ) → bytes_eq size e.0.size ≡ true
    → size_use (sections ++ e ∷ []) size ≡ together (size_use sections size) (section_use e)
size_use-same sections e size same =
    ap (use_of size) (filter-append (λ s. bytes_eq size s.0.size) sections (e ∷ []) ∙ ap (λ b. listed_in size sections ++ cond b (e ∷ []) []) same)
    ∙ use_of-push size (listed_in size sections) e

-- the first section of a size is all that is taken of it
size_use-first : (sections : List Measured) (e : Measured) → listed_in e.0.size sections ≡ [] → size_use (sections ++ e ∷ []) e.0.size ≡ section_use e
size_use-first sections e none =
    let metres : 0 + e.1 ≡ e.1 = omega arith in
    let price : 0 + e.0.price ≡ e.0.price = omega arith in
    let alone : together (use_of e.0.size []) (section_use e) ≡ section_use e = cc (metres, price) in
    size_use-same sections e e.0.size ((bytes_eq-Decides e.0.size e.0.size).1 refl)
    ∙ ap (λ listed. together (use_of e.0.size listed) (section_use e)) none ∙ alone

-- a section of another size is not
pub size_use-other : (sections : List Measured) (e : Measured) (size : List ℕ) → bytes_eq size e.0.size ≡ false
    → size_use (sections ++ e ∷ []) size ≡ size_use sections size
size_use-other sections e size other =
    ap (use_of size) (filter-append (λ s. bytes_eq size s.0.size) sections (e ∷ []) ∙ ap (λ b. listed_in size sections ++ cond b (e ∷ []) []) other
    ∙ append-nil (listed_in size sections))

-- the same of sizes that are all others
uses_of_others : (sections : List Measured) (e : Measured) (names : List (List ℕ)) → AllByRecursion (λ y. bytes_eq e.0.size y ≡ false) names
    → map (size_use (sections ++ e ∷ [])) names ≡ map (size_use sections) names
uses_of_others sections e [] others = refl
uses_of_others sections e (m ∷ ms) others =
    let head = size_use-other sections e m (bytes_eq-other e.0.size m others.0) in
    let tail = uses_of_others sections e ms others.1 in
    cc (head, tail)

or_false : (a b : Bool) → (a || b) ≡ false → (a ≡ false) × (b ≡ false)
or_false true b e = cc
or_false false b e = (refl, e)

-- no section is listed in a size that stands nowhere
pub listed_in-none : (sections : List Measured) (n : List ℕ) → list_any (λ m. bytes_eq m n) (order_of_use (sizes_of sections)) ≡ false → listed_in n sections ≡ []
listed_in-none [] n none = refl
listed_in-none (e ∷ sections) n none =
    let (apart, rest) = or_false (bytes_eq e.0.size n) (list_any (λ m. bytes_eq m n) (without e.0.size (order_of_use (sizes_of sections)))) none in
    let later = listed_in-none sections n (sym (list_any-without e.0.size n apart (order_of_use (sizes_of sections))) ∙ rest) in
    ap (λ b. cond b (e ∷ listed_in n sections) (listed_in n sections)) (bytes_eq-other e.0.size n apart) ∙ later

with_use-mapped : (sections : List Measured) (e : Measured) (names : List (List ℕ)) → IsDistinct bytes_eq names
    → (list_any (λ m. bytes_eq m e.0.size) names ≡ false → listed_in e.0.size sections ≡ [])
    → with_use (map (size_use sections) names) (section_use e) ≡ map (size_use (sections ++ e ∷ [])) (with_name names e.0.size)
unfolding IsDistinct
with_use-mapped sections e [] distinct unused =
    ap (λ u. u ∷ []) (sym (size_use-first sections e (unused refl)))
with_use-mapped sections e (m ∷ ms) distinct unused =
    elim (bytes_eq m e.0.size) as (λ b. bytes_eq m e.0.size ≡ b → ((b || list_any (λ m. bytes_eq m e.0.size) ms) ≡ false → listed_in e.0.size sections ≡ [])
    → cond b (together (size_use sections m) (section_use e) ∷ map (size_use sections) ms) (size_use sections m ∷ with_use (map (size_use sections) ms) (section_use e))
    ≡ map (size_use (sections ++ e ∷ [])) (cond b (m ∷ ms) (m ∷ with_name ms e.0.size))) [
      | true ↦ λ same _.
          let head = size_use-same sections e m same in
          let others = subst (λ q. AllByRecursion (λ y. bytes_eq q y ≡ false) ms) (same_name m e.0.size same) distinct.0 in
          let tail = uses_of_others sections e ms others in
          cc (head, tail)
      | false ↦ λ other unused'.
          let head = size_use-other sections e m other in
          let tail = with_use-mapped sections e ms distinct.1 unused' in
          cc (head, tail)
    ] refl unused

-- what the sections take, with one more section
pub uses-push : (sections : List Measured) (e : Measured) → uses (sections ++ e ∷ []) ≡ with_use (uses sections) (section_use e)
uses-push sections e =
    let names : order_of_use (sizes_of (sections ++ e ∷ [])) ≡ with_name (order_of_use (sizes_of sections)) e.0.size
    = ap order_of_use (map-append (λ (s : Measured). s.0.size) sections (e ∷ [])) ∙ order_of_use-push (sizes_of sections) e.0.size in
    ap (map (size_use (sections ++ e ∷ []))) names
    ∙ sym (with_use-mapped sections e (order_of_use (sizes_of sections)) (IsDistinct-order_of_use (sizes_of sections)) (listed_in-none sections e.0.size))
