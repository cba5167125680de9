-- The least of a section is computed from the leasts of its children.
use Rattle.std.proofs.Common.{◌≡◌, ℕ, suc, ◌+◌, ◌-◌, ◌<◌, ◌≤◌, true, false, refl, arith, ap, sym, ◌∙◌, inl, inr, subst, Option, Some, None}
use Rattle.std.proofs.lemmas.Bool.Decides.{leb_tells}
use Rattle.duct_definitions.specs.declared.design.Pair.{Pair}
use Rattle.duct_definitions.specs.Designs.{loss_of, price_of}
use Rattle.tree_sums.specs.Route.{At, same, Falls}
use Rattle.tree_sums.specs.Sums.{gated, total}
use Rattle.tree_sums.proofs.Totals.{total-cong, total-le}
use Rattle.tree_sums.proofs.Places.{same-refl, same-true, gated-cong}
use Rattle.tree_sums.proofs.Beyond.{goes_by-self}
use Rattle.duct_units.specs.Prices.{both_of}
use Rattle.least_laws.specs.Prices.{least_below}
use Rattle.least_laws.proofs.Ducts.{Ducts, size_at, loss, price, IsBeside, IsSizing, price_sum, IsLeastSum, joined, sum_with, sum_from, AreLeastSums}
use Rattle.least_laws.proofs.LeastBelow.{value, least_below-none, least_below-some}
use Rattle.least_laws.proofs.Joined.{IsJoined, joined-none, joined-some}
use Rattle.least_laws.proofs.WithPair.{with_pair-is, made}
use Rattle.least_laws.proofs.SectionAndBeyond.{loss-fits, price_sum-split}
use Rattle.least_laws.proofs.Combine.{combined, combined-beside}
use Rattle.least_laws.proofs.ChildSizings.{sizing-child, AreSizings, combined-sizing, combined-price}

-- a sizing costs at least y, which its size at s gives
pub record IsBound (net : Ducts) (leasts : ℕ → ℕ → ℕ → Option ℕ) (s g b : ℕ) (f : ℕ → ℕ) : Type 0 where
  pub y : ℕ
  pub is : sum_with net leasts s g b (f s) ≡ Some y
  pub le : y ≤ price_sum net f (At s)

-- a sizing for child c that costs the least beside size k
record IsFrom (net : Ducts) (leasts : ℕ → ℕ → ℕ → Option ℕ) (s k r c : ℕ) : Type 0 where
  pub f : ℕ → ℕ
  pub is : c < net.count → net.next c ≡ At s
      → (f s ≡ k) × IsSizing net (At c) r f × (price_sum net f (At c) ≡ value (leasts c k r))

module _ (net : Ducts) (falls : Falls net.next) (leasts : ℕ → ℕ → ℕ → Option ℕ) (s : ℕ) (within : s < net.count)
    (known : AreLeastSums net s leasts) where
  -- the child's least is there, and the sizing costs no less beyond the child
  bound-child : (f : ℕ → ℕ) (r c : ℕ) → f s < net.sizes s → c < net.count → net.next c ≡ At s → IsSizing net (At c) r f
      → (y : ℕ) × (leasts c (f s) r ≡ Some y) × (y ≤ price_sum net f (At c))
  bound-child f r c in_range less child sizing =
      let beside : size_at f (net.next c) ≡ f s = ap (size_at f) child in
      elim (leasts c (f s) r) as
      (λ o. IsLeastSum net c (f s) r o → (y : ℕ) × (o ≡ Some y) × (y ≤ price_sum net f (At c))) [
        | None ↦ λ none. absurd (none f beside sizing)
        | Some y ↦ λ least. (y, refl, least.1 f beside sizing)
      ] (known c (f s) r less child in_range)

  pub bound : (g b : ℕ) (f : ℕ → ℕ) → size_at f (net.next s) ≡ g → IsSizing net (At s) b f → IsBound net leasts s g b f
  bound g b f beside sizing =
      let in_range : f s < net.sizes s = sizing.in_range s within (goes_by-self net.next falls s) in
      let there = sizing.there s within (goes_by-self net.next falls s) in
      let p : Pair = there.0 in
      let pair : net.pair s (f s) g ≡ Some p = ap (λ z. net.pair s (f s) z) (sym beside) ∙ there.1 in
      let lost : loss net f s ≡ p.loss = ap loss_of there.1 in
      let paid : price net f s ≡ p.price = ap price_of there.1 in
      let fits : p.loss ≤ b = (let most = loss-fits net falls s b f within sizing in omega arith) in
      let r : ℕ = b - p.loss in
      let each : (c : ℕ) → c < net.count → net.next c ≡ At s
      → (y : ℕ) × (leasts c (f s) r ≡ Some y) × (y ≤ price_sum net f (At c)) =
      λ c less child. bound-child f r c in_range less child
      (subst (λ z. IsSizing net (At c) z f) (ap (λ z. b - z) lost) (sizing-child net falls s c b f child sizing)) in
      let h : ℕ → Option ℕ = λ c. leasts c (f s) r in
      elim (joined net.next (At s) h net.count) as
      (λ o. joined net.next (At s) h net.count ≡ o → IsBound net leasts s g b f) [
        | None ↦ λ none.
            let gap = joined-none net.next (At s) h net.count none in
            let found = each gap.at gap.below (same-true (net.next gap.at) (At s) gap.beside) in
            let both : None ≡ Some found.0 = sym gap.none ∙ found.1 in
            absurd (cc both)
        | Some u ↦ λ some.
            let sum = joined-some net.next (At s) h net.count u some in
            record {
              y = p.price + u;
              is = with_pair-is (net.pair s (f s) g) p b (λ r. joined net.next (At s) (λ c. leasts c (f s) r) net.count)
                  pair fits
                  ∙ ap (both_of (Some p.price)) some;
              le = (
                  let whole = price_sum-split net falls s f within in
                  let parts = total-le (λ c. gated (same (net.next c) (At s)) (value (h c)))
                  (λ c. gated (same (net.next c) (At s)) (price_sum net f (At c))) net.count
                  (λ c less. elim (same (net.next c) (At s)) as
                  (λ q. same (net.next c) (At s) ≡ q → gated q (value (h c)) ≤ gated q (price_sum net f (At c))) [
                    | true ↦ λ child.
                        let found = each c less (same-true (net.next c) (At s) child) in
                        let at : value (h c) ≡ found.0 = ap value found.1 in
                        let most = found.2 in
                        omega arith
                    | false ↦ λ apart. omega arith
                  ] refl) in
                  let is = sum.sum in
                  omega arith);
            }
      ] refl

  choose_child : (k r u : ℕ) → k < net.sizes s → IsJoined net.next (At s) (λ c. leasts c k r) net.count u
      → (c : ℕ) → IsFrom net leasts s k r c
  choose_child k r u in_range joined c =
      elim (same (net.next c) (At s)) as (λ q. same (net.next c) (At s) ≡ q → IsFrom net leasts s k r c) [
        | false ↦ λ apart. record {
          f = λ _. 0;
          is = λ less child.
              let both : false ≡ true = sym apart ∙ ap (λ o. same o (At s)) child ∙ same-refl (At s) in
              absurd (cc both);
        }
        | true ↦ λ beside. elim (leb_tells (suc c) net.count) [
          | inr more ↦ record { f = λ _. 0; is = λ less child. let above = more.1 in absurd (omega arith) }
          | inl fewer ↦
              let less : c < net.count = (let below = fewer.1 in omega arith) in
              let child = same-true (net.next c) (At s) beside in
              let least : IsLeastSum net c k r (Some (value (leasts c k r))) =
              subst (IsLeastSum net c k r) (joined.there c less beside) (known c k r less child in_range) in
              record {
                f = least.0.0;
                is = λ _ _. (sym (ap (size_at least.0.0) child) ∙ least.0.1, least.0.2, least.0.3);
              }
        ]
      ] refl

  attained : (g b v k : ℕ) → k < net.sizes s → IsBeside net s g → sum_with net leasts s g b k ≡ Some v
      → (f : ℕ → ℕ) × (size_at f (net.next s) ≡ g) × IsSizing net (At s) b f × (price_sum net f (At s) ≡ v)
  attained g b v k in_range fan is =
      let m = made (net.pair s k g) b v (λ r. joined net.next (At s) (λ c. leasts c k r) net.count) is in
      let r : ℕ = b - m.p.loss in
      let sum = joined-some net.next (At s) (λ c. leasts c k r) net.count m.u m.rest_is in
      let all : (c : ℕ) → IsFrom net leasts s k r c = choose_child k r m.u in_range sum in
      let G : ℕ → ℕ → ℕ = λ c. (all c).f in
      let are : AreSizings net s k r G = record {
        beside = λ c less child. ((all c).is less child).0;
        sizing = λ c less child. ((all c).is less child).1;
      } in
      let parts : total (λ c. gated (same (net.next c) (At s)) (price_sum net (G c) (At c))) net.count
      ≡ total (λ c. gated (same (net.next c) (At s)) (value (leasts c k r))) net.count =
      total-cong _ _ net.count (λ c less. gated-cong (same (net.next c) (At s)) _ _
      (λ child. ((all c).is less (same-true (net.next c) (At s) child)).2)) in (
        combined net.next s k g G net.count,
        combined-beside net.next falls s G k g net.count fan,
        combined-sizing net falls s k g b m.p G within in_range fan m.pair m.fits are,
        combined-price net falls s k g r G are m.p within fan m.pair
            ∙ ap (λ z. m.p.price + z) (parts ∙ sym sum.sum) ∙ m.sum,
      )

  pub least-step : (g b : ℕ) → IsBeside net s g → IsLeastSum net s g b (sum_from net leasts s g b)
  least-step g b fan =
      let h : ℕ → Option ℕ = sum_with net leasts s g b in
      let mine : (f : ℕ → ℕ) → IsSizing net (At s) b f → f s < net.sizes s =
      λ f sizing. sizing.in_range s within (goes_by-self net.next falls s) in
      elim (least_below h (net.sizes s)) as (λ o. least_below h (net.sizes s) ≡ o → IsLeastSum net s g b o) [
        | None ↦ λ none f beside sizing.
            let at = bound g b f beside sizing in
            let both : None ≡ Some at.y = sym (least_below-none h (net.sizes s) none (f s) (mine f sizing)) ∙ at.is in
            cc both
        | Some v ↦ λ some.
            let least = least_below-some h (net.sizes s) v some in (
              attained g b v least.at least.below fan least.is,
              λ f beside sizing.
                  let at = bound g b f beside sizing in
                  let low = least.least (f s) at.y (mine f sizing) at.is in
                  let most = at.le in
                  omega arith,
            )
      ] refl
