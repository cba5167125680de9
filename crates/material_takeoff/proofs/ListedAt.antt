-- Whether a section of a name is listed at a place.
use Rattle.std.proofs.Common.{◌≡◌, ℕ, ◌<◌, ◌≤◌, ltb, List, length, map, get_or, Bool, option_map, Some, None, ap, ◌∙◌, sym, arith}
use Rattle.std.specs.Prelude.{slice_get, IsTrue}
use Rattle.std.specs.Str.{bytes_eq}
use Rattle.std.proofs.lemmas.Bool.{ltb-true}
use Rattle.std.proofs.lemmas.Slice.Eq.{bytes_eq-Decides}
use Rattle.std.proofs.lemmas.Option.{slice_get-map, slice_get_past, slice_get-get_or}
use Rattle.duct_definitions.specs.declared.listed.ListedSection.{ListedSection}

-- a section stands there
pub listed_there : (sections : List ListedSection) (place : ℕ) (section : ListedSection) (name : List ℕ) (same : Bool) → place < length sections
    → section ≡ get_or sections place section → same ≡ bytes_eq (get_or sections place section).name name
    → (IsTrue same → slice_get (map (λ s. s.name) sections) place ≡ Some name)
    × (slice_get (map (λ s. s.name) sections) place ≡ Some name → IsTrue same)
listed_there sections place section name same less read at =
    let is : same ≡ bytes_eq section.name name = at ∙ ap (λ (s : ListedSection). bytes_eq s.name name) (sym read) in
    let there : slice_get (map (λ s. s.name) sections) place ≡ Some section.name
    = slice_get-map (λ s. s.name) sections place
    ∙ ap (option_map (λ (s : ListedSection). s.name)) (slice_get-get_or sections place section less ∙ ap (λ s. Some s) (sym read)) in (
      (λ yes. there ∙ ap (λ n. Some n) ((bytes_eq-Decides section.name name).0 (sym is ∙ yes))),
      (λ e. let equal : section.name ≡ name = cc in is ∙ (bytes_eq-Decides section.name name).1 equal),
    )

-- no section stands there
pub listed_nowhere : (sections : List ListedSection) (place : ℕ) (name : List ℕ) → length sections ≤ place
    → slice_get (map (λ s. s.name) sections) place ≡ Some name → ⊥
listed_nowhere sections place name past e =
    let none : slice_get (map (λ s. s.name) sections) place ≡ None
    = slice_get-map (λ s. s.name) sections place ∙ ap (option_map (λ (s : ListedSection). s.name)) (slice_get_past sections place past) in
    cc

-- the test of a place that is past the end fails
pub not_less : (place n : ℕ) → IsTrue (ltb place n) → n ≤ place → ⊥
not_less place n less past = let inside = ltb-true place n less in omega arith
