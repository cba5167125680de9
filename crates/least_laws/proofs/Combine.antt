-- One sizing for a section and all beyond it, from one for each of its children.
use Rattle.std.proofs.Common.{◌≡◌, ℕ, zero, suc, ◌<◌, true, false, refl, arith, ap, sym, ◌∙◌, cond, ◌==◌, inl, inr, ◌&&◌}
use Rattle.std.proofs.lemmas.Bool.{false_from_ne_true, and_parts, and_from, ne_eqb}
use Rattle.std.proofs.lemmas.Bool.Decides.{eqb_tells}
use Rattle.duct_units.specs.declared.side.Side.{Side}
use Rattle.tree_sums.specs.Route.{Place, Fan, At, same, Falls, goes_by}
use Rattle.tree_sums.proofs.Places.{same-refl, same-true}
use Rattle.tree_sums.proofs.Split.{goes_by-le}
use Rattle.tree_sums.proofs.Beyond.{only_child}
use Rattle.least_laws.proofs.Ducts.{size_at}

-- what the sizing of the child of s beyond which t lies says of t: G c is that of child c
abbrev pub pick : (ℕ → Place) → ℕ → (ℕ → ℕ → ℕ) → ℕ → ℕ → ℕ
pick next s G zero t = 0
pick next s G (suc m) t = cond (same (next m) (At s) && goes_by next (At m) t) (G m t) (pick next s G m t)

-- size k at s, size g next to it, and beyond it what the children's sizings say
abbrev pub combined : (ℕ → Place) → ℕ → ℕ → ℕ → (ℕ → ℕ → ℕ) → ℕ → ℕ → ℕ
combined next s k g G n t = cond (t == s) k (cond (same (next s) (At t)) g (pick next s G n t))

module _ (next : ℕ → Place) (falls : Falls next) (s : ℕ) (G : ℕ → ℕ → ℕ) where
  pick-is : (c t n : ℕ) → c < n → next c ≡ At s → goes_by next (At c) t ≡ true → pick next s G n t ≡ G c t
  pick-is c t zero within child by = absurd (omega arith)
  pick-is c t (suc n) within child by =
      elim (same (next n) (At s) && goes_by next (At n) t) as
      (λ b. (same (next n) (At s) && goes_by next (At n) t) ≡ b → cond b (G n t) (pick next s G n t) ≡ G c t) [
        | true ↦ λ both.
            let parts = and_parts (same (next n) (At s)) (goes_by next (At n) t) both in
            ap (λ d. G d t) (only_child next falls s n c (same-true (next n) (At s) parts.0) child t parts.1 by)
        | false ↦ λ not_both. pick-is c t n
            (elim (eqb_tells c n) [
              | inl equal ↦
                  let here : same (next n) (At s) ≡ true =
                  ap (λ d. same (next d) (At s)) (sym equal.1) ∙ ap (λ o. same o (At s)) child ∙ same-refl (At s) in
                  let passed : goes_by next (At n) t ≡ true = ap (λ d. goes_by next (At d) t) (sym equal.1) ∙ by in
                  let apart : true ≡ false =
                  sym (and_from (same (next n) (At s)) (goes_by next (At n) t) here passed) ∙ not_both in
                  absurd (cc apart)
              | inr other ↦ let differ = other.1 in omega arith
            ]) child by
      ] refl

  pub combined-beyond : (k g n c t : ℕ) → c < n → next c ≡ At s → goes_by next (At c) t ≡ true
      → combined next s k g G n t ≡ G c t
  combined-beyond k g n c t within child by =
      let most = goes_by-le next falls c t by in
      let less = falls c s child in
      let not_here : (t == s) ≡ false = ne_eqb t s (omega arith) in
      let not_next : same (next s) (At t) ≡ false =
      false_from_ne_true (same (next s) (At t))
      (λ is. let before = falls s t (same-true (next s) (At t) is) in omega arith) in
      ap (λ b. cond b k (cond (same (next s) (At t)) g (pick next s G n t))) not_here
      ∙ ap (λ b. cond b g (pick next s G n t)) not_next
      ∙ pick-is c t n within child by

  pub combined-here : (k g n : ℕ) → combined next s k g G n s ≡ k
  combined-here k g n = ap (λ b. cond b k (cond (same (next s) (At s)) g (pick next s G n s))) (same-refl (At s))

  pub combined-beside : (k g n : ℕ) → ((x : Side) → next s ≡ Fan x → g ≡ 0)
      → size_at (combined next s k g G n) (next s) ≡ g
  combined-beside k g n beside =
      elim (next s) as (λ o. next s ≡ o → size_at (combined next s k g G n) o ≡ g) [
        | Fan x ↦ λ is. sym (beside x is)
        | At q ↦ λ is.
            let before = falls s q is in
            ap (λ b. cond b k (cond (same (next s) (At q)) g (pick next s G n q))) (ne_eqb q s (omega arith))
            ∙ ap (λ b. cond b g (pick next s G n q)) (ap (λ o. same o (At q)) is ∙ same-refl (At q))
      ] refl
