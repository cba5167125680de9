-- The least of a whole side is the sum of the leasts of the sections at the fan.
use Rattle.std.proofs.Common.{◌≡◌, ℕ, ◌<◌, ◌≤◌, true, false, refl, arith, ap, sym, ◌∙◌, subst, Option, Some, None}
use Rattle.duct_units.specs.declared.side.Side.{Side}
use Rattle.tree_sums.specs.Route.{Fan, At, same, Falls, goes_by}
use Rattle.tree_sums.specs.Sums.{gated, total}
use Rattle.tree_sums.proofs.Totals.{total-cong, total-le, total-tight}
use Rattle.tree_sums.proofs.Places.{same-refl, same-true, gated-cong}
use Rattle.tree_sums.proofs.Split.{beyond-fan}
use Rattle.tree_sums.proofs.Along.{along-split}
use Rattle.tree_sums.proofs.Beyond.{goes_by-from, fan-cases}
use Rattle.least_laws.proofs.Ducts.{Ducts, size_at, loss, price, IsSizing, price_sum, IsLeastSum, joined}
use Rattle.least_laws.proofs.LeastBelow.{value}
use Rattle.least_laws.proofs.Joined.{joined-none, joined-some}
use Rattle.least_laws.proofs.ChildSizings.{child-within}
use Rattle.least_laws.proofs.Unique.{least-unique}
use Rattle.least_laws.proofs.Optimal.{IsOptimal}

-- what leasts gives for the sections at the fan are their leasts
abbrev pub AreRootSums : Ducts → (ℕ → ℕ → ℕ → Option ℕ) → Type 0
AreRootSums net leasts =
    (x : Side) (r b : ℕ) → r < net.count → net.next r ≡ Fan x → IsLeastSum net r 0 b (leasts r 0 b)

-- the sum of the leasts of a side's sections at the fan
abbrev pub side_sum : Ducts → (ℕ → ℕ → ℕ → Option ℕ) → Side → ℕ → Option ℕ
side_sum net leasts x b = joined net.next (Fan x) (λ r. leasts r 0 b) net.count

-- the least of a side is there, and f costs no less
pub record IsSideBound (net : Ducts) (leasts : ℕ → ℕ → ℕ → Option ℕ) (x : Side) (b : ℕ) (f : ℕ → ℕ) : Type 0 where
  pub y : ℕ
  pub is : side_sum net leasts x b ≡ Some y
  pub le : y ≤ price_sum net f (Fan x)

module _ (net : Ducts) (falls : Falls net.next) (x : Side) where
  pub sizing-root : (r b : ℕ) (f : ℕ → ℕ) → net.next r ≡ Fan x → IsSizing net (Fan x) b f → IsSizing net (At r) b f
  sizing-root r b f root sizing =
      let more : (t : ℕ) → goes_by net.next (At r) t ≡ true → goes_by net.next (Fan x) t ≡ true =
      goes_by-from net.next falls (Fan x) r root in
      record {
        in_range = λ t less by. sizing.in_range t less (more t by);
        there = λ t less by. sizing.there t less (more t by);
        within = λ t less end by.
            let parts = along-split net.next falls (loss net f) (Fan x) r root t by in
            let whole = sizing.within t less end (more t by) in
            omega arith;
      }

  module _ (leasts : ℕ → ℕ → ℕ → Option ℕ) (known : AreRootSums net leasts) (b : ℕ) (f : ℕ → ℕ) where
    root-bound : (r : ℕ) → r < net.count → net.next r ≡ Fan x → IsSizing net (Fan x) b f
        → (y : ℕ) × (leasts r 0 b ≡ Some y) × (y ≤ price_sum net f (At r))
    root-bound r less root sizing =
        let beside : size_at f (net.next r) ≡ 0 = ap (size_at f) root in
        let mine = sizing-root r b f root sizing in
        elim (leasts r 0 b) as (λ o. IsLeastSum net r 0 b o → (y : ℕ) × (o ≡ Some y) × (y ≤ price_sum net f (At r))) [
          | None ↦ λ none. absurd (none f beside mine)
          | Some y ↦ λ least. (y, refl, least.1 f beside mine)
        ] (known x r b less root)

    roots-le : IsSizing net (Fan x) b f
        → (r : ℕ) → r < net.count
        → gated (same (net.next r) (Fan x)) (value (leasts r 0 b))
        ≤ gated (same (net.next r) (Fan x)) (price_sum net f (At r))
    roots-le sizing r less =
        elim (same (net.next r) (Fan x)) as
        (λ q. same (net.next r) (Fan x) ≡ q → gated q (value (leasts r 0 b)) ≤ gated q (price_sum net f (At r))) [
          | true ↦ λ beside.
              let found = root-bound r less (same-true (net.next r) (Fan x) beside) sizing in
              let at : value (leasts r 0 b) ≡ found.0 = ap value found.1 in
              let most = found.2 in
              omega arith
          | false ↦ λ apart. omega arith
        ] refl

    pub side-bound : IsSizing net (Fan x) b f → IsSideBound net leasts x b f
    side-bound sizing =
        let h : ℕ → Option ℕ = λ r. leasts r 0 b in
        elim (joined net.next (Fan x) h net.count) as
        (λ o. joined net.next (Fan x) h net.count ≡ o → IsSideBound net leasts x b f) [
          | None ↦ λ none.
              let gap = joined-none net.next (Fan x) h net.count none in
              let found = root-bound gap.at gap.below (same-true (net.next gap.at) (Fan x) gap.beside) sizing in
              let both : None ≡ Some found.0 = sym gap.none ∙ found.1 in
              absurd (cc both)
          | Some u ↦ λ some.
              let sum = (joined-some net.next (Fan x) h net.count u some).sum in
              let whole = beyond-fan net.next falls (price net f) net.count x in
              let parts = total-le (λ r. gated (same (net.next r) (Fan x)) (value (h r)))
              (λ r. gated (same (net.next r) (Fan x)) (price_sum net f (At r))) net.count (roots-le sizing) in
              record { y = u; is = some; le = omega arith }
        ] refl

    -- a sizing of a side that costs the sum of the leasts costs the least from each section at the fan on
    pub side-tight : (y : ℕ) → IsSizing net (Fan x) b f → side_sum net leasts x b ≡ Some y
        → price_sum net f (Fan x) ≤ y → (r : ℕ) → r < net.count → net.next r ≡ Fan x → IsOptimal net r 0 b f
    side-tight y sizing some tight r less root =
        let h : ℕ → Option ℕ = λ r. leasts r 0 b in
        let joined_is = joined-some net.next (Fan x) h net.count y some in
        let sum = joined_is.sum in
        let whole = beyond-fan net.next falls (price net f) net.count x in
        let beside : same (net.next r) (Fan x) ≡ true = ap (λ o. same o (Fan x)) root ∙ same-refl (Fan x) in
        let equal = total-tight (λ r. gated (same (net.next r) (Fan x)) (value (h r)))
        (λ r. gated (same (net.next r) (Fan x)) (price_sum net f (At r))) net.count (roots-le sizing)
        (omega arith) r less in
        let at : value (h r) ≡ price_sum net f (At r) =
        sym (ap (λ q. gated q (value (h r))) beside) ∙ equal ∙ ap (λ q. gated q (price_sum net f (At r))) beside in (
          ap (size_at f) root,
          sizing-root r b f root sizing,
          subst (IsLeastSum net r 0 b) (joined_is.there r less beside ∙ ap Some at) (known x r b less root),
        )

    module _ (optimal : (r : ℕ) → r < net.count → net.next r ≡ Fan x → IsOptimal net r 0 b f) where
      -- sizings that cost the least from each section at the fan on are one of the side
      pub side-sizing : IsSizing net (Fan x) b f
      side-sizing = record {
        in_range = λ t less by.
            let r = fan-cases net.next falls x t by in
            (optimal r.0 (child-within net falls r.0 t less r.2) r.1).1.in_range t less r.2;
        there = λ t less by.
            let r = fan-cases net.next falls x t by in
            (optimal r.0 (child-within net falls r.0 t less r.2) r.1).1.there t less r.2;
        within = λ t less end by.
            let r = fan-cases net.next falls x t by in
            let most = (optimal r.0 (child-within net falls r.0 t less r.2) r.1).1.within t less end r.2 in
            let parts = along-split net.next falls (loss net f) (Fan x) r.0 r.1 t r.2 in
            omega arith;
      }

      pub side_sum-optimal : side_sum net leasts x b ≡ Some (price_sum net f (Fan x))
      side_sum-optimal =
          let bound = side-bound side-sizing in
          let h : ℕ → Option ℕ = λ r. leasts r 0 b in
          let sum = (joined-some net.next (Fan x) h net.count bound.y bound.is).sum in
          let whole = beyond-fan net.next falls (price net f) net.count x in
          let equal : total (λ r. gated (same (net.next r) (Fan x)) (value (h r))) net.count
          ≡ total (λ r. gated (same (net.next r) (Fan x)) (price_sum net f (At r))) net.count =
          total-cong _ _ net.count (λ r less. gated-cong (same (net.next r) (Fan x)) _ _ (λ beside.
          let root = same-true (net.next r) (Fan x) beside in
          ap value (least-unique net r 0 b (leasts r 0 b) (Some (price_sum net f (At r)))
          (known x r b less root) (optimal r less root).2))) in
          bound.is ∙ ap Some (let same_sum : bound.y ≡ price_sum net f (Fan x) = omega arith in same_sum)
