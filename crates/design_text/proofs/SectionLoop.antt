-- The loop over the lines of sections: those so far and those that are left are all.
use Rattle.std.proofs.Common.{◌≡◌, ℕ, zero, suc, ◌+◌, ◌-◌, ◌<◌, ◌≤◌, List, [], ◌∷◌, ◌++◌, Some, None, refl, sym, ap, ◌∙◌, append_assoc, arith}
use Rattle.std.proofs.lemmas.List.{append-nil}
use Rattle.duct_definitions.specs.declared.listed.ListedSection.{ListedSection}
use Rattle.design_text.specs.Fields.{section_at, sections_at}

-- the sections before others
abbrev pub prepended : List ListedSection → List ListedSection × List ℕ → List ListedSection × List ℕ
prepended front x = (front ++ x.0, x.1)

prepended-onto : (front : List ListedSection) (s : ListedSection) (x : List ListedSection × List ℕ) → prepended front (s ∷ x.0, x.1) ≡ prepended (front ++ s ∷ []) x
prepended-onto front s x = ap (λ (ss : List ListedSection). (ss, x.1)) (sym (append_assoc front (s ∷ []) x.0))

-- where a line of a section stands, it is the next
pub goes_on : (front : List ListedSection) (most i : ℕ) (bytes : List ℕ) (s : ListedSection) (after : List ℕ) (all : List ListedSection × List ℕ) → i < most
    → section_at bytes ≡ Some (s, after) → prepended front (sections_at (most - i) bytes) ≡ all
    → prepended (front ++ s ∷ []) (sections_at (most - (i + 1)) after) ≡ all
unfolding sections_at
goes_on front most i bytes s after all lt found so_far =
    let k : most - i ≡ suc (most - (i + 1)) = omega arith in
    let one : prepended front (sections_at (most - i) bytes) ≡ prepended (front ++ s ∷ []) (sections_at (most - (i + 1)) after) =
    rw (k, found) (prepended-onto front s (sections_at (most - (i + 1)) after)) in
    sym one ∙ so_far

no_more : (n : ℕ) (bytes : List ℕ) → section_at bytes ≡ None → sections_at n bytes ≡ ([], bytes)
unfolding sections_at
no_more zero bytes none = refl
no_more (suc n) bytes none = rw none refl

-- where none stands, those so far are all
pub ends : (front : List ListedSection) (most i : ℕ) (bytes : List ℕ) (all : List ListedSection × List ℕ)
    → section_at bytes ≡ None → prepended front (sections_at (most - i) bytes) ≡ all → (front, bytes) ≡ all
unfolding sections_at
ends front most i bytes all none so_far =
    sym (ap (λ (ss : List ListedSection). (ss, bytes)) (append-nil front)) ∙ ap (prepended front) (sym (no_more (most - i) bytes none)) ∙ so_far

-- as many as there may be are all
pub is_full : (front : List ListedSection) (most i : ℕ) (bytes : List ℕ) (all : List ListedSection × List ℕ) → most ≤ i
    → prepended front (sections_at (most - i) bytes) ≡ all → (front, bytes) ≡ all
unfolding sections_at
is_full front most i bytes all past so_far =
    let k : most - i ≡ 0 = omega arith in
    let one : prepended front (sections_at (most - i) bytes) ≡ (front, bytes) = rw k (ap (λ (ss : List ListedSection). (ss, bytes)) (append-nil front)) in
    sym one ∙ so_far
