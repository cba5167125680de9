-- A sizing from a section on is one from each child on, and the sizings of the children combine to one.
use Rattle.std.proofs.Common.{◌≡◌, ℕ, ◌+◌, ◌-◌, ◌<◌, ◌≤◌, true, arith, ap, sym, ◌∙◌, inl, inr, subst, Some}
use Rattle.duct_definitions.specs.declared.design.Pair.{Pair}
use Rattle.duct_definitions.specs.Designs.{loss_of, price_of}
use Rattle.tree_sums.specs.Route.{At, same, Falls, goes_by}
use Rattle.tree_sums.specs.Sums.{gated, total, beyond, along}
use Rattle.tree_sums.proofs.Totals.{total-cong}
use Rattle.tree_sums.proofs.Places.{same-true, gated-cong}
use Rattle.tree_sums.proofs.Split.{goes_by-le, beyond-section}
use Rattle.tree_sums.proofs.Along.{along-split, along-self}
use Rattle.tree_sums.proofs.Beyond.{goes_by-from, first-step, beyond-cases, along-cong, beyond-cong}
use Rattle.least_laws.proofs.Ducts.{Ducts, size_at, chosen, loss, price, IsBeside, IsSizing, price_sum}
use Rattle.least_laws.proofs.Combine.{combined, combined-beyond, combined-here, combined-beside}

-- a sizing for each child of s, beside size k
pub record AreSizings (net : Ducts) (s k b : ℕ) (G : ℕ → ℕ → ℕ) : Type 0 where
  pub beside : (c : ℕ) → c < net.count → net.next c ≡ At s → G c s ≡ k
  pub sizing : (c : ℕ) → c < net.count → net.next c ≡ At s → IsSizing net (At c) b (G c)

module _ (net : Ducts) (falls : Falls net.next) where
  -- within what the section leaves of the budget
  pub sizing-child : (s c b : ℕ) (f : ℕ → ℕ) → net.next c ≡ At s → IsSizing net (At s) b f
      → IsSizing net (At c) (b - loss net f s) f
  sizing-child s c b f child sizing =
      let more : (t : ℕ) → goes_by net.next (At c) t ≡ true → goes_by net.next (At s) t ≡ true =
      goes_by-from net.next falls (At s) c child in
      record {
        in_range = λ t less by. sizing.in_range t less (more t by);
        there = λ t less by. sizing.there t less (more t by);
        within = λ t less end by.
            let parts = along-split net.next falls (loss net f) (At s) c child t by in
            let whole = sizing.within t less end (more t by) in
            omega arith;
      }

  -- a section beyond s is beyond a child within the network
  pub child-within : (c t : ℕ) → t < net.count → goes_by net.next (At c) t ≡ true → c < net.count
  child-within c t less by = let most = goes_by-le net.next falls c t by in omega arith

  module _ (s k g b : ℕ) (G : ℕ → ℕ → ℕ) (are : AreSizings net s k b G) where
    chosen-beyond : (c : ℕ) → c < net.count → net.next c ≡ At s → (t : ℕ) → goes_by net.next (At c) t ≡ true
        → chosen net (combined net.next s k g G net.count) t ≡ chosen net (G c) t
    chosen-beyond c within child t by =
        let f = combined net.next s k g G net.count in
        let here : f t ≡ G c t = combined-beyond net.next falls s G k g net.count c t within child by in
        let beside : size_at f (net.next t) ≡ size_at (G c) (net.next t) =
        elim (first-step net.next falls c t by) [
          | inl first ↦
              let to_s : net.next t ≡ At s = ap net.next (sym first) ∙ child in
              ap (size_at f) to_s
              ∙ combined-here net.next falls s G k g net.count
              ∙ sym (ap (size_at (G c)) to_s ∙ are.beside c within child)
          | inr later ↦
              ap (size_at f) later.1
              ∙ combined-beyond net.next falls s G k g net.count c later.0 within child later.2
              ∙ sym (ap (size_at (G c)) later.1)
        ] in
        ap (λ z. net.pair t z (size_at f (net.next t))) here ∙ ap (λ z. net.pair t (G c t) z) beside

    chosen-here : IsBeside net s g → chosen net (combined net.next s k g G net.count) s ≡ net.pair s k g
    chosen-here fan =
        let f = combined net.next s k g G net.count in
        ap (λ z. net.pair s z (size_at f (net.next s))) (combined-here net.next falls s G k g net.count)
        ∙ ap (λ z. net.pair s k z) (combined-beside net.next falls s G k g net.count fan)

    -- the combined sizing loses on each route what the pair loses and what the child's sizing does
    combined-within : (p : Pair) → loss net (combined net.next s k g G net.count) s ≡ p.loss
        → (c t : ℕ) → c < net.count → net.next c ≡ At s → t < net.count → goes_by net.next (At c) t ≡ true
        → along net.next (loss net (combined net.next s k g G net.count)) (At s) t
        ≡ along net.next (loss net (G c)) (At c) t + p.loss
    combined-within p here c t within child less by =
        let f = combined net.next s k g G net.count in
        along-split net.next falls (loss net f) (At s) c child t by
        ∙ ap (λ z. along net.next (loss net f) (At c) t + z) here
        ∙ ap (λ z. z + p.loss)
        (along-cong net.next falls (loss net f) (loss net (G c)) c net.count
        (λ u _ passed. ap loss_of (chosen-beyond c within child u passed)) t less by)

    pub combined-price : (p : Pair) → s < net.count → IsBeside net s g → net.pair s k g ≡ Some p
        → price_sum net (combined net.next s k g G net.count) (At s)
        ≡ p.price + total (λ c. gated (same (net.next c) (At s)) (price_sum net (G c) (At c))) net.count
    combined-price p within fan is =
        let f = combined net.next s k g G net.count in
        let here : price net f s ≡ p.price = ap price_of (chosen-here fan ∙ is) in
        let rest : ℕ → ℕ = λ c. gated (same (net.next c) (At s)) (beyond net.next (price net f) net.count (At c)) in
        beyond-section net.next falls (price net f) net.count s within
        ∙ ap (λ z. z + total rest net.count) here
        ∙ ap (λ z. p.price + z)
        (total-cong rest (λ c. gated (same (net.next c) (At s)) (price_sum net (G c) (At c))) net.count
        (λ c less. gated-cong (same (net.next c) (At s)) _ _ (λ child.
        beyond-cong net.next (price net f) (price net (G c)) net.count c
        (λ u _ passed. ap price_of (chosen-beyond c less (same-true (net.next c) (At s) child) u passed)))))

  pub combined-sizing : (s k g b : ℕ) (p : Pair) (G : ℕ → ℕ → ℕ) → s < net.count → k < net.sizes s → IsBeside net s g
      → net.pair s k g ≡ Some p → p.loss ≤ b → AreSizings net s k (b - p.loss) G
      → IsSizing net (At s) b (combined net.next s k g G net.count)
  combined-sizing s k g b p G within in_range fan is fits are =
      let f = combined net.next s k g G net.count in
      let here : chosen net f s ≡ Some p = chosen-here s k g (b - p.loss) G are fan ∙ is in
      let lost : loss net f s ≡ p.loss = ap loss_of here in
      record {
        in_range = λ t less by. elim (beyond-cases net.next falls s t by) [
          | inl first ↦
              subst (λ u. f u < net.sizes u) (sym first)
              (subst (λ z. z < net.sizes s) (sym (combined-here net.next falls s G k g net.count)) in_range)
          | inr later ↦
              let child = child-within later.0 t less later.2 in
              subst (λ z. z < net.sizes t)
              (sym (combined-beyond net.next falls s G k g net.count later.0 t child later.1 later.2))
              ((are.sizing later.0 child later.1).in_range t less later.2)
        ];
        there = λ t less by. elim (beyond-cases net.next falls s t by) [
          | inl first ↦ (p, ap (chosen net f) first ∙ here)
          | inr later ↦
              let child = child-within later.0 t less later.2 in
              let pair = (are.sizing later.0 child later.1).there t less later.2 in
              (pair.0, chosen-beyond s k g (b - p.loss) G are later.0 child later.1 t later.2 ∙ pair.1)
        ];
        within = λ t less end by. elim (beyond-cases net.next falls s t by) [
          | inl first ↦
              let whole : along net.next (loss net f) (At s) t ≡ loss net f s =
              ap (along net.next (loss net f) (At s)) first ∙ along-self net.next falls (loss net f) s in
              omega arith
          | inr later ↦
              let child = child-within later.0 t less later.2 in
              let whole = combined-within s k g (b - p.loss) G are p lost later.0 t child later.1 less later.2 in
              let part = (are.sizing later.0 child later.1).within t less end later.2 in
              omega arith
        ];
      }
