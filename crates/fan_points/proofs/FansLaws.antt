-- Fans with one more.
use Rattle.std.proofs.Common.{◌≡◌, ◌≢◌, ℕ, zero, suc, ◌+◌, ◌<◌, ◌≤◌, List, [], ◌∷◌, ◌++◌, length, Bool, true, false, not, cond, Option, Some, None, option_map, is_some, slice_get, IsTrue, inl, inr, refl, ap, sym, ◌∙◌, subst, arith, length-append}
use Rattle.std.specs.Str.{bytes_eq}
use Rattle.std.proofs.lemmas.Slice.Eq.{bytes_eq-Decides}
use Rattle.std.proofs.lemmas.Bool.Decides.{eqb_tells}
use Rattle.duct_units.specs.Name.{is_name}
use Rattle.duct_definitions.specs.Network.{AreNames}
use Rattle.name_index.specs.Places.{place_of, is_among}
use Rattle.std.proofs.lemmas.List.{map-append}
use Rattle.std.proofs.lemmas.List.Elements.{All-push}
use Rattle.fan_points.specs.declared.limits.TheConstants.{MAX_POINTS}
use Rattle.fan_points.specs.declared.row.FanRow.{FanRow}
use Rattle.fan_points.specs.FanRow.{IsFanInBounds}
use Rattle.fan_points.specs.Fans.{IsFan, IsFans, names_of}

pub names_of-push : (fans : List FanRow) (last : FanRow) → names_of (fans ++ last ∷ []) ≡ names_of fans ++ last.name ∷ []
names_of-push fans last = map-append (λ (fan : FanRow). fan.name) fans (last ∷ [])

-- ---- names of which no two are equal

-- a name that stands at a place is among the names
among_at : (names : List (List ℕ)) (i : ℕ) (name : List ℕ) → slice_get names i ≡ Some name → is_among name names ≡ true
among_at [] i name e = cc
among_at (first ∷ names) zero name e =
    let same : first ≡ name = cc in
    ap (λ b. is_some (cond b (Some 0) (option_map (λ p. p + 1) (place_of name names)))) ((bytes_eq-Decides first name).1 same)
among_at (first ∷ names) (suc i) name e =
    either (bytes_eq first name) (place_of name names) (among_at names i name e)
  where
    either : (b : Bool) (o : Option ℕ) → is_some o ≡ true → is_some (cond b (Some 0) (option_map (λ p. p + 1) o)) ≡ true
    either true o e = refl
    either false None e = cc
    either false (Some p) e = refl

early : {A : Type 0} (xs : List A) (y : A) (i : ℕ) → i < length xs → slice_get (xs ++ y ∷ []) i ≡ slice_get xs i
early [] y i less = absurd (omega arith)
early (x ∷ xs) y zero less = refl
early (x ∷ xs) y (suc i) less = early xs y i (omega arith)

late : {A : Type 0} (xs : List A) (y : A) → slice_get (xs ++ y ∷ []) (length xs) ≡ Some y
late [] y = refl
late (x ∷ xs) y = late xs y

-- a new name at the end leaves no two equal
distinct-push : (names : List (List ℕ)) (last : List ℕ) → ((i j : ℕ) → i < j → j < length names → slice_get names i ≢ slice_get names j) → is_among last names ≡ false
    → (i j : ℕ) → i < j → j < length (names ++ last ∷ []) → slice_get (names ++ last ∷ []) i ≢ slice_get (names ++ last ∷ []) j
distinct-push names last apart new i j less within same =
    elim (eqb_tells j (length names)) [
      | inl p ↦
          (let before : i < length names = (let q = p.1 in omega arith) in
          let at : slice_get names i ≡ Some last = sym (early names last i before) ∙ same ∙ ap (slice_get (names ++ last ∷ [])) p.1 ∙ late names last in
          let there = among_at names i last at in
          cc)
      | inr p ↦
          (let q = p.1 in
          let e = length-append names (last ∷ []) in
          let before : j < length names = omega arith in
          apart i j less before (sym (early names last i (omega arith)) ∙ same ∙ early names last j before))
    ]

AreNames-push : (names : List (List ℕ)) (last : List ℕ) → AreNames names → IsTrue (is_name last) → is_among last names ≡ false → AreNames (names ++ last ∷ [])
AreNames-push names last are form new = record {
  form = All-push (λ name. IsTrue (is_name name)) names last are.form form;
  distinct = distinct-push names last are.distinct new;
}

-- a name that was added was not there
pub not_there : (name : List ℕ) (names : List (List ℕ)) (fans : List FanRow) → names ≡ names_of fans → true ≡ not (is_among name names) → is_among name (names_of fans) ≡ false
not_there name names fans same new = ap (is_among name) (sym same) ∙ turned (is_among name names) new
  where
    turned : (b : Bool) → true ≡ not b → b ≡ false
    turned true e = cc e
    turned false e = refl

-- a row that breaks none of the rules leaves a catalogue
pub IsFans-push : (fans : List FanRow) (last : FanRow) → IsFans fans → IsFanInBounds last → last.low ≤ last.high → is_among last.name (names_of fans) ≡ false → length fans < MAX_POINTS → IsFans (fans ++ last ∷ [])
IsFans-push fans last is bounds order new room = record {
  few = omega (arith, length-append fans (last ∷ []));
  bounds = All-push IsFan fans last is.bounds (record { bounds = bounds; order = order });
  names = subst AreNames (sym (names_of-push fans last)) (AreNames-push (names_of fans) last.name is.names bounds.name new);
}
