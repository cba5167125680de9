-- A section and what lies beyond it: some end lies beyond each section, so a section loses no more than its budget; and
-- the prices are the section's and those beyond its children.
use Rattle.std.proofs.Common.{◌≡◌, ℕ, zero, suc, ◌+◌, ◌<◌, ◌≤◌, true, false, refl, arith, ap, sym, ◌∙◌, ◌≢◌, ◌⊎◌, inl, inr}
use Rattle.std.proofs.lemmas.Bool.Decides.{eqb_tells}
use Rattle.tree_sums.specs.Route.{Place, At, same, Falls, goes_by}
use Rattle.tree_sums.specs.Sums.{gated, total, along}
use Rattle.tree_sums.proofs.Places.{same-refl, same-true}
use Rattle.tree_sums.proofs.Split.{beyond-section}
use Rattle.tree_sums.proofs.Along.{along-split, along-self}
use Rattle.tree_sums.proofs.Beyond.{goes_by-from, goes_by-self, beyond-cases}
use Rattle.least_laws.proofs.Ducts.{Ducts, loss, price, IsEnd, IsSizing, price_sum}

find_child : (next : ℕ → Place) (s m : ℕ)
    → ((c : ℕ) × (c < m) × (next c ≡ At s)) ⊎ ((c : ℕ) → c < m → next c ≢ At s)
find_child next s zero = inr (λ c less. absurd (omega arith))
find_child next s (suc m) =
    elim (same (next m) (At s)) as
    (λ b. same (next m) (At s) ≡ b
    → ((c : ℕ) × (c < suc m) × (next c ≡ At s)) ⊎ ((c : ℕ) → c < suc m → next c ≢ At s)) [
      | true ↦ λ is. inl (m, omega arith, same-true (next m) (At s) is)
      | false ↦ λ apart. elim (find_child next s m) [
        | inl found ↦ inl (found.0, (let less = found.1 in omega arith), found.2)
        | inr none ↦ inr (λ c less is. elim (eqb_tells c m) [
          | inl equal ↦
              let both : false ≡ true =
              sym apart ∙ ap (λ d. same (next d) (At s)) (sym equal.1)
              ∙ ap (λ o. same o (At s)) is ∙ same-refl (At s) in
              cc both
          | inr other ↦ none c (let differ = other.1 in omega arith) is
        ])
      ]
    ] refl

module _ (net : Ducts) (falls : Falls net.next) where
  -- some end lies beyond each section
  end_beyond : (k s : ℕ) → s < net.count → net.count ≤ s + k
      → (t : ℕ) × (t < net.count) × IsEnd net t × (goes_by net.next (At s) t ≡ true)
  end_beyond zero s within enough = absurd (omega arith)
  end_beyond (suc k) s within enough =
      elim (find_child net.next s net.count) [
        | inl child ↦
            let less = falls child.0 s child.2 in
            let end = end_beyond k child.0 child.1 (omega arith) in
            (end.0, end.1, end.2, goes_by-from net.next falls (At s) child.0 child.2 end.0 end.3)
        | inr none ↦ (s, within, none, goes_by-self net.next falls s)
      ]

  pub loss-fits : (s b : ℕ) (f : ℕ → ℕ) → s < net.count → IsSizing net (At s) b f → loss net f s ≤ b
  loss-fits s b f within sizing =
      let end = end_beyond net.count s within (omega arith) in
      let whole : along net.next (loss net f) (At s) end.0 ≤ b = sizing.within end.0 end.1 end.2 end.3 in
      elim (beyond-cases net.next falls s end.0 end.3) [
        | inl first ↦
            let alone : along net.next (loss net f) (At s) end.0 ≡ loss net f s =
            ap (along net.next (loss net f) (At s)) first ∙ along-self net.next falls (loss net f) s in
            omega arith
        | inr later ↦
            let parts = along-split net.next falls (loss net f) (At s) later.0 later.1 end.0 later.2 in
            omega arith
      ]

  -- the prices of a section and of what lies beyond its children
  pub price_sum-split : (s : ℕ) (f : ℕ → ℕ) → s < net.count
      → price_sum net f (At s)
      ≡ price net f s + total (λ c. gated (same (net.next c) (At s)) (price_sum net f (At c))) net.count
  price_sum-split s f within = beyond-section net.next falls (price net f) net.count s within
