-- All sizes together take what all sections do.
use Rattle.std.proofs.Common.{◌≡◌, ℕ, ◌+◌, List, [], ◌∷◌, ◌++◌, length, map, refl, ap, ◌∙◌, sym, append_assoc, append-nil, arith}
use Rattle.std.specs.Prelude.{sum_by, sum}
use Rattle.std.specs.List.{zip}
use Rattle.std.proofs.lemmas.List.Sums.{sum_by-cons}
use Rattle.std.proofs.lemmas.Slice.Zip.{firsts-zip, seconds-zip, length-zip}
use Rattle.duct_definitions.specs.declared.listed.ListedSection.{ListedSection}
use Rattle.duct_definitions.specs.declared.listed.Listed.{Listed}
use Rattle.material_takeoff.specs.declared.record.SizeUse.{SizeUse}
use Rattle.material_takeoff.specs.Uses.{Measured, uses, take_off, AddsUp}
use Rattle.material_takeoff.specs.Counting.{section_use, together}
use Rattle.material_takeoff.proofs.WithUse.{sum_by-with_use}
use Rattle.material_takeoff.proofs.OneMore.{uses-push}

-- of sections behind others
sum_by-uses-append : (f : SizeUse → ℕ) → ((u more : SizeUse) → f (together u more) ≡ f u + f more) → (before after : List Measured)
    → sum_by f (uses (before ++ after)) ≡ sum_by f (uses before) + sum_by (λ e. f (section_use e)) after
sum_by-uses-append f adds before [] = omega (arith, ap (λ es. sum_by f (uses es)) (append-nil before))
sum_by-uses-append f adds before (e ∷ after) =
    let step : sum_by f (uses (before ++ e ∷ [])) ≡ sum_by f (uses before) + f (section_use e)
    = ap (sum_by f) (uses-push before e) ∙ sum_by-with_use f adds (uses before) (section_use e) in
    let rest = sum_by-uses-append f adds (before ++ e ∷ []) after in
    let all : sum_by f (uses (before ++ e ∷ after)) ≡ sum_by f (uses ((before ++ e ∷ []) ++ after))
    = ap (λ es. sum_by f (uses es)) (sym (append_assoc before (e ∷ []) after)) in
    omega (arith, sum_by-cons (λ (e : Measured). f (section_use e)) e after)

pub sum_by-uses : (f : SizeUse → ℕ) → ((u more : SizeUse) → f (together u more) ≡ f u + f more) → (sections : List Measured)
    → sum_by f (uses sections) ≡ sum_by (λ e. f (section_use e)) sections
sum_by-uses f adds sections = let all = sum_by-uses-append f adds [] sections in omega (arith, all)

sum_by-mapped : {A B : Type 0} (f : B → ℕ) (g : A → B) (xs : List A) → sum_by (λ x. f (g x)) xs ≡ sum_by f (map g xs)
sum_by-mapped f g [] = refl
sum_by-mapped f g (x ∷ xs) = omega (arith, sum_by-cons (λ x. f (g x)) x xs, sum_by-cons f (g x) (map g xs), sum_by-mapped f g xs)

ones : (sections : List Measured) → sum_by (λ _. 1) sections ≡ length sections
ones [] = refl
ones (e ∷ sections) = omega (arith, sum_by-cons (λ (_ : Measured). 1) e sections, ones sections)

-- the material list of a design adds up
pub adds_up : (lengths : List ℕ) (l : Listed) → length l.sections ≡ length lengths → AddsUp lengths l (take_off lengths l)
adds_up lengths l same =
    let sections = zip l.sections lengths in
    let firsts = firsts-zip l.sections lengths (sym same) in
    let seconds = seconds-zip l.sections lengths (sym same) in
    record {
      total_count = sum_by-uses (λ u. u.count) (λ _ _. refl) sections ∙ ones sections ∙ (let pairs = length-zip l.sections lengths in omega arith);
      total_length = sum_by-uses (λ u. u.length) (λ _ _. refl) sections ∙ sum_by-mapped (λ n. n) (λ (s : Measured). s.1) sections ∙ ap sum seconds;
      total_price = sum_by-uses (λ u. u.price) (λ _ _. refl) sections ∙ sum_by-mapped (λ (s : ListedSection). s.price) (λ (s : Measured). s.0) sections
          ∙ ap (sum_by (λ s. s.price)) firsts;
    }
