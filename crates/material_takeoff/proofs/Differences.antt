-- The first difference of two lists of names.
use Rattle.std.proofs.Common.{◌≡◌, ℕ, ◌+◌, ◌<◌, ◌≤◌, List, [], length, take, get_or, Some, refl, ap, ◌∙◌, sym, arith}
use Rattle.std.specs.Prelude.{slice_get}
use Rattle.std.proofs.lemmas.Option.{slice_get_past, slice_get-get_or, get_or_from_slice_get, slice_get_within}
use Rattle.std.proofs.lemmas.List.{take_more_same, take_all}
use Rattle.material_takeoff.specs.Agreement.{IsFirstDifference}

-- the lists agree so far, and at this place
pub agree_more : (names listed : List (List ℕ)) (s : ℕ) (name : List ℕ) → take s names ≡ take s listed → s < length names
    → name ≡ get_or names s name → slice_get listed s ≡ Some name → take (s + 1) names ≡ take (s + 1) listed
agree_more names listed s name so_far less read there =
    take_more_same names listed s name less (slice_get_within listed s name there) so_far
    (sym read ∙ sym (get_or_from_slice_get listed s name name there))

-- the name at this place is another one, or the second list ends
pub differs_here : (names listed : List (List ℕ)) (s : ℕ) (name : List ℕ) → take s names ≡ take s listed → s < length names
    → name ≡ get_or names s name → (slice_get listed s ≡ Some name → ⊥) → IsFirstDifference names listed (s + 1)
differs_here names listed s name so_far less read other = record {
  place = s;
  number = refl;
  before = so_far;
  differs = λ e. other (sym e ∙ slice_get-get_or names s name less ∙ ap (λ n. Some n) (sym read));
}

-- the first list ends before the second
pub differs_at_end : (names listed : List (List ℕ)) (s : ℕ) → take s names ≡ take s listed → s ≡ length names → length names < length listed
    → IsFirstDifference names listed (length names + 1)
differs_at_end names listed s so_far ended less = record {
  place = s;
  number = omega arith;
  before = so_far;
  differs = λ e.
      let d : List ℕ = [] in
      let past = slice_get_past names s (omega arith) in
      let there = slice_get-get_or listed s d (omega arith) in
      cc;
}

-- both lists end
pub agree_all : (names listed : List (List ℕ)) (s : ℕ) → take s names ≡ take s listed → length names ≤ s → length listed ≤ s → names ≡ listed
agree_all names listed s so_far first second = sym (take_all s names first) ∙ so_far ∙ take_all s listed second
