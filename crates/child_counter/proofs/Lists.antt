-- The lists of outcomes that passes keep.
use Rattle.std.proofs.Common.{◌≡◌, ◌⊎◌, ℕ, zero, suc, ◌+◌, ◌<◌, List, [], ◌∷◌, ◌++◌, set, length, Some, refl, ap, sym, ◌∙◌, arith, inl, inr, append_assoc, subst}
use Rattle.std.proofs.lemmas.List.Sums.{sum_by-cons, sum_by-append, sum_by_push}
use Rattle.std.proofs.lemmas.Bool.Decides.{eqb_tells}
use Rattle.std.specs.Prelude.{◌==◌, slice_get}
use Rattle.std.specs.List.{flat_map}
use mathlib.Core.Option.{some, some-injective}
use lib.ListN.{get_elem?}
use Rattle.atomic_table.proofs.Lists.{at_longer, set_else}
use Rattle.contract_join.specs.declared.outcome.Outcome.{Outcome}
use Rattle.contract_join.specs.Outcomes.{section_of}
use Rattle.child_counter.specs.declared.view.PassView.{PassView}
use Rattle.child_counter.specs.Passes.{times, all_of, StandsIn, IsPublished}
use Rattle.child_counter.specs.Shown.{one_if}
use Rattle.child_counter.proofs.Sums.{set_at}

module _ {A : Type 0} where
  -- what stands in two lists, one after the other
  pub get-before : (xs ys : List A) (k : ℕ) (x : A) → slice_get xs k ≡ Some x → slice_get (xs ++ ys) k ≡ Some x
  get-before [] ys k x is = absurd (cc is)
  get-before (z ∷ zs) ys zero x is = is
  get-before (z ∷ zs) ys (suc k) x is = get-before zs ys k x is

  pub get-behind : (xs ys : List A) (k : ℕ) → slice_get (xs ++ ys) (length xs + k) ≡ slice_get ys k
  get-behind [] ys k = ap (slice_get ys) (omega arith)
  get-behind (z ∷ zs) ys k = ap (slice_get (z ∷ (zs ++ ys)))
      (let e : length (z ∷ zs) + k ≡ suc (length zs + k) = omega arith in e) ∙ get-behind zs ys k

  -- what stands in a list with one more at its end stands before it, or is it
  pub get-push : (xs : List A) (x y : A) (k : ℕ) → slice_get (xs ++ x ∷ []) k ≡ Some y
      → (slice_get xs k ≡ Some y) ⊎ ((k ≡ length xs) × (x ≡ y))
  get-push [] x y zero is = inr (refl, cc is)
  get-push [] x y (suc k) is = absurd (cc is)
  get-push (z ∷ zs) x y zero is = inl is
  get-push (z ∷ zs) x y (suc k) is = elim (get-push zs x y k is) [ inl p ↦ inl p | inr p ↦ inr (ap suc p.0, p.1) ]

pub stands-before : (xs ys : List Outcome) (o : Outcome) → StandsIn xs o → StandsIn (xs ++ ys) o
stands-before xs ys o h = (h.0, get-before xs ys h.0 o h.1)

pub stands-behind : (xs ys : List Outcome) (o : Outcome) → StandsIn ys o → StandsIn (xs ++ ys) o
stands-behind xs ys o h = (length xs + h.0, get-behind xs ys h.0 ∙ h.1)

pub stands-last : (xs : List Outcome) (o : Outcome) → StandsIn (xs ++ o ∷ []) o
stands-last xs o = stands-behind xs (o ∷ []) o (0, refl)

pub stands-either : (xs ys : List Outcome) (o : Outcome) → StandsIn (xs ++ ys) o → StandsIn xs o ⊎ StandsIn ys o
stands-either xs ys o h = either xs h.0 h.1
  where
    either : (zs : List Outcome) (k : ℕ) → slice_get (zs ++ ys) k ≡ Some o → StandsIn zs o ⊎ StandsIn ys o
    either [] k is = inr (k, is)
    either (z ∷ zs) zero is = inl (0, is)
    either (z ∷ zs) (suc k) is = elim (either zs k is) [ inl p ↦ inl (suc p.0, p.1) | inr p ↦ inr p ]

-- an outcome that stands in a list counts
pub stands-counts : (xs : List Outcome) (o : Outcome) → StandsIn xs o → 0 < times (section_of o) xs
stands-counts xs o h = counts xs h.0 h.1
  where
    counts : (ys : List Outcome) (k : ℕ) → slice_get ys k ≡ Some o → 0 < times (section_of o) ys
    counts [] k is = absurd (cc is)
    counts (y ∷ ys) zero is =
        let same : y ≡ o = cc is in
        let one : one_if (section_of y == section_of o) ≡ 1 =
        ap (λ z. one_if (section_of z == section_of o)) same
        ∙ elim (eqb_tells (section_of o) (section_of o)) [ inl p ↦ ap one_if p.0 | inr p ↦ absurd (p.1 refl) ] in
        let a = sum_by-cons (λ z. one_if (section_of z == section_of o)) y ys in
        omega arith
    counts (y ∷ ys) (suc k) is =
        let rest = counts ys k is in
        let a = sum_by-cons (λ z. one_if (section_of z == section_of o)) y ys in
        omega arith

-- and a section that counts stands there
pub counts-stand : (s : ℕ) (xs : List Outcome) → 0 < times s xs → (o : Outcome) × StandsIn xs o × (section_of o ≡ s)
counts-stand s [] more = absurd (omega arith)
counts-stand s (x ∷ xs) more =
    let a = sum_by-cons (λ z. one_if (section_of z == s)) x xs in
    elim (eqb_tells (section_of x) s) [
      | inl p ↦ (x, (0, refl), p.1)
      | inr p ↦ (
          let none : one_if (section_of x == s) ≡ 0 = ap one_if p.0 in
          let rest = counts-stand s xs (omega arith) in
          (rest.0, (suc rest.1.0, rest.1.1), rest.2))
    ]

pub times-append : (s : ℕ) (xs ys : List Outcome) → times s (xs ++ ys) ≡ times s xs + times s ys
times-append s xs ys = sum_by-append (λ z. one_if (section_of z == s)) xs ys

pub times-push : (s : ℕ) (xs : List Outcome) (o : Outcome)
    → times s (xs ++ o ∷ []) ≡ times s xs + one_if (section_of o == s)
times-push s xs o = sum_by_push (λ z. one_if (section_of z == s)) xs o

-- the lists of two passes, one after the other
pub flat-append : (xss yss : List (List Outcome)) → flat_map (λ xs. xs) (xss ++ yss) ≡ flat_map
    (λ xs. xs) xss ++ flat_map (λ xs. xs) yss
flat-append [] yss = refl
flat-append (xs ∷ xss) yss = ap (λ l. xs ++ l) (flat-append xss yss)
    ∙ sym (append_assoc xs (flat_map (λ ys. ys) xss) (flat_map (λ ys. ys) yss))

-- what is published stays published where a pass keeps all that it has
pub published-set : (views : List PassView) (i : ℕ) (v w : PassView) → get_elem? views i ≡ some v
    → ((o : Outcome) → StandsIn (all_of v) o → StandsIn (all_of w) o)
    → (o : Outcome) → IsPublished views o → IsPublished (set views i w) o
published-set views i v w at keeps o h =
    elim (eqb_tells h.0 i) [
      | inl p ↦ (
          let here : get_elem? views i ≡ some h.1 = ap (get_elem? views) (sym p.1) ∙ h.2 in
          let same : h.1 ≡ v = some-injective h.1 v (sym here ∙ at) in
          (i, w, set_at views i v w at, keeps o (subst (λ x. StandsIn (all_of x) o) same h.3)))
      | inr p ↦ (h.0, h.1, set_else views i h.0 w p.1 ∙ h.2, h.3)
    ]

pub published-more : (views more : List PassView) (o : Outcome) → IsPublished views o → IsPublished (views ++ more) o
published-more views more o h = (h.0, h.1, at_longer views more h.0 h.1 h.2, h.3)

-- what a pass has published is published
pub published-by : (views : List PassView) (i : ℕ) (v : PassView) (o : Outcome) → get_elem? views i ≡ some v
    → StandsIn (all_of v) o → IsPublished views o
published-by views i v o at h = (i, v, at, h)
