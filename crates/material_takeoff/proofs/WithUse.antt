-- One more use among those of the sizes so far, by the place of its size.
use Rattle.std.proofs.Common.{◌≡◌, ℕ, suc, ◌+◌, List, [], ◌∷◌, ◌++◌, map, true, false, cond, get_or, set, Option, Some, None, option_map, refl, ap, subst, ◌∙◌, sym, arith}
use Rattle.std.specs.Str.{bytes_eq}
use Rattle.std.specs.Prelude.{sum_by}
use Rattle.std.proofs.lemmas.List.Sums.{sum_by-cons}
use Rattle.name_index.specs.Places.{place_of}
use Rattle.material_takeoff.specs.declared.record.SizeUse.{SizeUse}
use Rattle.material_takeoff.specs.Counting.{together, with_use}

-- the sizes of the uses
abbrev pub sizes : List SizeUse → List (List ℕ)
sizes us = map (λ u. u.name) us

-- ---- a size that is there

at_later : (o : Option ℕ) (u more d : SizeUse) (us rest : List SizeUse) (p : ℕ)
    → ((q : ℕ) → o ≡ Some q → rest ≡ set us q (together (get_or us q d) more))
    → option_map (λ q. q + 1) o ≡ Some p → u ∷ rest ≡ set (u ∷ us) p (together (get_or (u ∷ us) p d) more)
at_later None u more d us rest p step e = cc
at_later (Some q) u more d us rest p step e =
    let is : suc q ≡ p = let later : q + 1 ≡ p = cc in omega arith in
    subst (λ n. u ∷ rest ≡ set (u ∷ us) n (together (get_or (u ∷ us) n d) more)) is (ap (λ r. u ∷ r) (step q refl))

-- the use of a size that is there is replaced by both together
pub with_use-at : (us : List SizeUse) (more d : SizeUse) (p : ℕ) → place_of more.name (sizes us) ≡ Some p
    → with_use us more ≡ set us p (together (get_or us p d) more)
with_use-at [] more d p e = cc
with_use-at (u ∷ us) more d p e =
    elim (bytes_eq u.name more.name) as (λ b. cond b (Some 0) (option_map (λ q. q + 1) (place_of more.name (sizes us))) ≡ Some p
    → cond b (together u more ∷ us) (u ∷ with_use us more) ≡ set (u ∷ us) p (together (get_or (u ∷ us) p d) more)) [
      | true ↦ λ here. let is : 0 ≡ p = cc in subst (λ n. together u more ∷ us ≡ set (u ∷ us) n (together (get_or (u ∷ us) n d) more)) is refl
      | false ↦ at_later (place_of more.name (sizes us)) u more d us (with_use us more) p (λ q. with_use-at us more d q)
    ] e

sizes_later : (o : Option ℕ) (u : SizeUse) (us rest : List SizeUse) (p : ℕ) → ((q : ℕ) → o ≡ Some q → sizes rest ≡ sizes us)
    → option_map (λ q. q + 1) o ≡ Some p → sizes (u ∷ rest) ≡ sizes (u ∷ us)
sizes_later None u us rest p step e = cc
sizes_later (Some q) u us rest p step e = ap (λ names. u.name ∷ names) (step q refl)

-- and the sizes stay
pub sizes-with_use : (us : List SizeUse) (more : SizeUse) (p : ℕ) → place_of more.name (sizes us) ≡ Some p
    → sizes (with_use us more) ≡ sizes us
sizes-with_use [] more p e = cc
sizes-with_use (u ∷ us) more p e =
    elim (bytes_eq u.name more.name) as (λ b. cond b (Some 0) (option_map (λ q. q + 1) (place_of more.name (sizes us))) ≡ Some p
    → sizes (cond b (together u more ∷ us) (u ∷ with_use us more)) ≡ sizes (u ∷ us)) [
      | true ↦ λ here. refl
      | false ↦ sizes_later (place_of more.name (sizes us)) u us (with_use us more) p (λ q. sizes-with_use us more q)
    ] e

-- ---- a size that is new

none_later : (o : Option ℕ) → option_map (λ q. q + 1) o ≡ None → o ≡ None
none_later None e = refl
none_later (Some q) e = cc

-- a use of a new size stands behind all
pub with_use-new : (us : List SizeUse) (more : SizeUse) → place_of more.name (sizes us) ≡ None → with_use us more ≡ us ++ more ∷ []
with_use-new [] more e = refl
with_use-new (u ∷ us) more e =
    elim (bytes_eq u.name more.name) as (λ b. cond b (Some 0) (option_map (λ q. q + 1) (place_of more.name (sizes us))) ≡ None
    → cond b (together u more ∷ us) (u ∷ with_use us more) ≡ u ∷ (us ++ more ∷ [])) [
      | true ↦ λ here. cc
      | false ↦ λ none. ap (λ r. u ∷ r) (with_use-new us more (none_later (place_of more.name (sizes us)) none))
    ] e

-- ---- sums

-- a part of the uses that is added where two stand together
pub sum_by-with_use : (f : SizeUse → ℕ) → ((u more : SizeUse) → f (together u more) ≡ f u + f more)
    → (us : List SizeUse) (more : SizeUse) → sum_by f (with_use us more) ≡ sum_by f us + f more
sum_by-with_use f adds [] more = refl
sum_by-with_use f adds (u ∷ us) more =
    elim (bytes_eq u.name more.name) as (λ b. sum_by f (cond b (together u more ∷ us) (u ∷ with_use us more)) ≡ sum_by f (u ∷ us) + f more) [
      | true ↦ omega (arith, sum_by-cons f (together u more) us, sum_by-cons f u us, adds u more)
      | false ↦ omega (arith, sum_by-cons f u (with_use us more), sum_by-cons f u us, sum_by-with_use f adds us more)
    ]

-- ---- what is written

-- the use at the place of the size, with the new one
pub with_use-written : (us : List SizeUse) (more found taken : SizeUse) (p : ℕ) → place_of more.name (sizes us) ≡ Some p
    → found ≡ get_or us p found → taken ≡ together found more → set us p taken ≡ with_use us more
with_use-written us more found taken p there read is =
    ap (λ u. set us p u) (is ∙ ap (λ u. together u more) read) ∙ sym (with_use-at us more found p there)

-- a part of the uses after one more
pub sum_by_one_more : (f : SizeUse → ℕ) → ((u more : SizeUse) → f (together u more) ≡ f u + f more)
    → (us after : List SizeUse) (more : SizeUse) → after ≡ with_use us more → sum_by f after ≡ sum_by f us + f more
sum_by_one_more f adds us after more e = ap (sum_by f) e ∙ sum_by-with_use f adds us more
