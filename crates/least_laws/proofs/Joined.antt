-- What the sum over the sections next to a place says of each price.
use Rattle.std.proofs.Common.{◌≡◌, ℕ, zero, suc, ◌+◌, ◌<◌, true, false, refl, arith, ap, sym, ◌∙◌, cond, inl, inr, subst, Option, Some, None}
use Rattle.std.proofs.lemmas.Option.{same_Some}
use Rattle.std.proofs.lemmas.Bool.Decides.{eqb_tells}
use Rattle.tree_sums.specs.Route.{Place, same}
use Rattle.tree_sums.specs.Sums.{gated, total}
use Rattle.duct_units.specs.Prices.{both_of}
use Rattle.least_laws.proofs.Ducts.{joined}
use Rattle.least_laws.proofs.LeastBelow.{value}

-- all prices at the sections next to o are there, and v is their sum
pub record IsJoined (next : ℕ → Place) (o : Place) (h : ℕ → Option ℕ) (m v : ℕ) : Type 0 where
  pub there : (c : ℕ) → c < m → same (next c) o ≡ true → h c ≡ Some (value (h c))
  pub sum : v ≡ total (λ c. gated (same (next c) o) (value (h c))) m

-- the price at some section next to o is not there
pub record IsMissing (next : ℕ → Place) (o : Place) (h : ℕ → Option ℕ) (m : ℕ) : Type 0 where
  pub at : ℕ
  pub below : at < m
  pub beside : same (next at) o ≡ true
  pub none : h at ≡ None

module _ (next : ℕ → Place) (o : Place) (h : ℕ → Option ℕ) where
  missing-more : (m : ℕ) → IsMissing next o h m → IsMissing next o h (suc m)
  missing-more m old =
      record { at = old.at; below = (let less = old.below in omega arith); beside = old.beside; none = old.none }

  pub joined-none : (m : ℕ) → joined next o h m ≡ None → IsMissing next o h m
  joined-none zero none = absurd (cc none)
  joined-none (suc m) none =
      elim (same (next m) o) as
      (λ b. same (next m) o ≡ b → cond b (both_of (joined next o h m) (h m)) (joined next o h m) ≡ None
      → IsMissing next o h (suc m)) [
        | false ↦ λ apart is. missing-more m (joined-none m is)
        | true ↦ λ beside is. elim (joined next o h m) as
            (λ a. joined next o h m ≡ a → both_of a (h m) ≡ None → IsMissing next o h (suc m)) [
              | None ↦ λ before _. missing-more m (joined-none m before)
              | Some x ↦ λ before last. elim (h m) as
                  (λ d. h m ≡ d → both_of (Some x) d ≡ None → IsMissing next o h (suc m)) [
                    | None ↦ λ at _. record { at = m; below = omega arith; beside = beside; none = at }
                    | Some y ↦ λ at both. absurd (cc both)
                  ] refl last
            ] refl is
      ] refl none

  joined-apart : (m v : ℕ) → same (next m) o ≡ false → IsJoined next o h m v → IsJoined next o h (suc m) v
  joined-apart m v apart old = record {
    there = λ c less beside. elim (eqb_tells c m) [
      | inl equal ↦
          let no : false ≡ true = sym apart ∙ ap (λ d. same (next d) o) (sym equal.1) ∙ beside in absurd (cc no)
      | inr other ↦ old.there c (let differ = other.1 in omega arith) beside
    ];
    sum = (
        let so_far = old.sum in
        let nothing : gated (same (next m) o) (value (h m)) ≡ 0 = ap (λ b. gated b (value (h m))) apart in
        omega arith);
  }

  joined-beside : (m x y : ℕ) → same (next m) o ≡ true → h m ≡ Some y → IsJoined next o h m x
      → IsJoined next o h (suc m) (x + y)
  joined-beside m x y beside at old = record {
    there = λ c less too. elim (eqb_tells c m) [
      | inl equal ↦
          let here = equal.1 in
          let is : h c ≡ Some y = ap h here ∙ at in
          is ∙ ap Some (sym (ap value is))
      | inr other ↦ old.there c (let differ = other.1 in omega arith) too
    ];
    sum = (
        let so_far = old.sum in
        let here : value (h m) ≡ y = ap value at in
        let more : gated (same (next m) o) (value (h m)) ≡ value (h m) = ap (λ b. gated b (value (h m))) beside in
        omega arith);
  }

  pub joined-some : (m v : ℕ) → joined next o h m ≡ Some v → IsJoined next o h m v
  joined-some zero v some = record { there = λ c less beside. absurd (omega arith); sum = same_Some v 0 (sym some) }
  joined-some (suc m) v some =
      elim (same (next m) o) as
      (λ b. same (next m) o ≡ b → cond b (both_of (joined next o h m) (h m)) (joined next o h m) ≡ Some v
      → IsJoined next o h (suc m) v) [
        | false ↦ λ apart is. joined-apart m v apart (joined-some m v is)
        | true ↦ λ beside is. elim (joined next o h m) as
            (λ a. joined next o h m ≡ a → both_of a (h m) ≡ Some v → IsJoined next o h (suc m) v) [
              | None ↦ λ before last. absurd (cc last)
              | Some x ↦ λ before last. elim (h m) as
                  (λ d. h m ≡ d → both_of (Some x) d ≡ Some v → IsJoined next o h (suc m) v) [
                    | None ↦ λ at both. absurd (cc both)
                    | Some y ↦ λ at both.
                        subst (IsJoined next o h (suc m)) (same_Some (x + y) v both)
                        (joined-beside m x y beside at (joined-some m x before))
                  ] refl last
            ] refl is
      ] refl some
