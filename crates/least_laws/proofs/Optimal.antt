-- A sizing costs the least exactly where its size attains the least and it costs the least from each child on.
use Rattle.std.proofs.Common.{◌≡◌, ℕ, ◌-◌, ◌<◌, ◌≤◌, true, false, refl, arith, ap, sym, ◌∙◌, inl, inr, subst, Option, Some}
use Rattle.duct_definitions.specs.Designs.{loss_of, price_of}
use Rattle.tree_sums.specs.Route.{At, same, Falls}
use Rattle.tree_sums.specs.Sums.{gated, total, along}
use Rattle.tree_sums.proofs.Totals.{total-cong, total-tight}
use Rattle.tree_sums.proofs.Places.{same-refl, same-true, gated-cong}
use Rattle.tree_sums.proofs.Along.{along-split, along-self}
use Rattle.tree_sums.proofs.Beyond.{goes_by-self, beyond-cases}
use Rattle.least_laws.proofs.Ducts.{Ducts, size_at, chosen, loss, price, IsBeside, IsSizing, price_sum, IsLeastSum, joined, sum_with, sum_from, AreLeastSums}
use Rattle.least_laws.proofs.LeastBelow.{value, IsLeastBelow, least_below-some}
use Rattle.least_laws.proofs.Joined.{IsJoined, joined-some}
use Rattle.least_laws.proofs.WithPair.{IsMade, made}
use Rattle.least_laws.proofs.ChildSizings.{sizing-child, child-within}
use Rattle.least_laws.proofs.SectionAndBeyond.{price_sum-split}
use Rattle.least_laws.proofs.LeastOfSection.{least-step, bound, IsBound}
use Rattle.least_laws.proofs.Unique.{least-unique}

-- f is a sizing from s on, beside size g and within b, and none costs less
abbrev pub IsOptimal : Ducts → ℕ → ℕ → ℕ → (ℕ → ℕ) → Type 0
IsOptimal net s g b f =
    (size_at f (net.next s) ≡ g) × IsSizing net (At s) b f × IsLeastSum net s g b (Some (price_sum net f (At s)))

-- size k of s attains the least beside g within b
abbrev pub AttainsSum : Ducts → (ℕ → ℕ → ℕ → Option ℕ) → ℕ → ℕ → ℕ → ℕ → Type 0
AttainsSum net leasts s g b k =
    (k < net.sizes s) × (sum_with net leasts s g b k ≡ sum_from net leasts s g b)
    × ((v : ℕ) × (sum_from net leasts s g b ≡ Some v))

-- what an optimal sizing takes, and that it is optimal from each child on
pub record Divides (net : Ducts) (leasts : ℕ → ℕ → ℕ → Option ℕ) (s g b : ℕ) (f : ℕ → ℕ) : Type 0 where
  pub attains : AttainsSum net leasts s g b (f s)
  pub child : (c : ℕ) → c < net.count → net.next c ≡ At s → IsOptimal net c (f s) (b - loss net f s) f

module _ (net : Ducts) (falls : Falls net.next) (leasts : ℕ → ℕ → ℕ → Option ℕ) (s : ℕ) (within : s < net.count)
    (known : AreLeastSums net s leasts) (g b : ℕ) (fan : IsBeside net s g) (f : ℕ → ℕ) where
  -- the children's leasts add to what f costs beyond them, so each is what f costs beyond that child
  children-tight : (r : ℕ) → f s < net.sizes s
      → ((c : ℕ) → c < net.count → net.next c ≡ At s → IsSizing net (At c) r f)
      → ((c : ℕ) → c < net.count → net.next c ≡ At s → IsLeastSum net c (f s) r (Some (value (leasts c (f s) r))))
      → total (λ c. gated (same (net.next c) (At s)) (price_sum net f (At c))) net.count
      ≤ total (λ c. gated (same (net.next c) (At s)) (value (leasts c (f s) r))) net.count
      → (c : ℕ) → c < net.count → net.next c ≡ At s → value (leasts c (f s) r) ≡ price_sum net f (At c)
  children-tight r in_range sizings least sums c less child =
      let beside : same (net.next c) (At s) ≡ true = ap (λ o. same o (At s)) child ∙ same-refl (At s) in
      let tight = total-tight (λ c. gated (same (net.next c) (At s)) (value (leasts c (f s) r)))
      (λ c. gated (same (net.next c) (At s)) (price_sum net f (At c))) net.count
      (λ d below. elim (same (net.next d) (At s)) as
      (λ q. same (net.next d) (At s) ≡ q → gated q (value (leasts d (f s) r)) ≤ gated q (price_sum net f (At d))) [
        | true ↦ λ next_to.
            let to_s = same-true (net.next d) (At s) next_to in
            (least d below to_s).1 f (ap (size_at f) to_s) (sizings d below to_s)
        | false ↦ λ apart. omega arith
      ] refl)
      sums in
      sym (ap (λ q. gated q (value (leasts c (f s) r))) beside)
      ∙ tight c less
      ∙ ap (λ q. gated q (price_sum net f (At c))) beside

  pub optimal-divides : IsOptimal net s g b f → Divides net leasts s g b f
  optimal-divides optimal =
      let in_range : f s < net.sizes s = optimal.1.in_range s within (goes_by-self net.next falls s) in
      let v : ℕ = price_sum net f (At s) in
      let is : sum_from net leasts s g b ≡ Some v =
      least-unique net s g b (sum_from net leasts s g b) (Some v)
      (least-step net falls leasts s within known g b fan) optimal.2 in
      let all : IsLeastBelow (sum_with net leasts s g b) (net.sizes s) v = least_below-some _ (net.sizes s) v is in
      let at : IsBound net leasts s g b f = bound net falls leasts s within known g b f optimal.0 optimal.1 in
      let most = at.le in
      let low : v ≤ at.y = all.least (f s) at.y in_range at.is in
      let equal : at.y ≡ v = omega arith in
      let rest : ℕ → Option ℕ = λ r. joined net.next (At s) (λ c. leasts c (f s) r) net.count in
      let m : IsMade (net.pair s (f s) g) b at.y rest = made (net.pair s (f s) g) b at.y rest at.is in
      let r : ℕ = b - m.p.loss in
      let sum : IsJoined net.next (At s) (λ c. leasts c (f s) r) net.count m.u =
      joined-some net.next (At s) (λ c. leasts c (f s) r) net.count m.u m.rest_is in
      let here : chosen net f s ≡ Some m.p = ap (λ q. net.pair s (f s) q) optimal.0 ∙ m.pair in
      let lost : loss net f s ≡ m.p.loss = ap loss_of here in
      let paid : price net f s ≡ m.p.price = ap price_of here in
      let whole = price_sum-split net falls s f within in
      let made_of = m.sum in
      let sum_is = sum.sum in
      let sizings : (c : ℕ) → c < net.count → net.next c ≡ At s → IsSizing net (At c) r f =
      λ c _ child.
      subst (λ q. IsSizing net (At c) q f) (ap (λ q. b - q) lost) (sizing-child net falls s c b f child optimal.1) in
      let least : (c : ℕ) → c < net.count → net.next c ≡ At s
      → IsLeastSum net c (f s) r (Some (value (leasts c (f s) r))) =
      λ c less child.
      subst (IsLeastSum net c (f s) r)
      (sum.there c less (ap (λ o. same o (At s)) child ∙ same-refl (At s))) (known c (f s) r less child in_range) in
      let tight = children-tight r in_range sizings least (omega arith) in
      let rr : r ≡ b - loss net f s = ap (λ q. b - q) (sym lost) in
      record {
        attains = (in_range, at.is ∙ ap Some equal ∙ sym is, (v, is));
        child = λ c less child. (
          ap (size_at f) child,
          subst (λ q. IsSizing net (At c) q f) rr (sizings c less child),
          subst (λ q. IsLeastSum net c (f s) q (Some (price_sum net f (At c)))) rr
              (subst (λ q. IsLeastSum net c (f s) r (Some q)) (tight c less child) (least c less child)),
        );
      }

  pub optimal-joins : size_at f (net.next s) ≡ g → Divides net leasts s g b f → IsOptimal net s g b f
  optimal-joins beside divided =
      let v : ℕ = divided.attains.2.0 in
      let rest : ℕ → Option ℕ = λ r. joined net.next (At s) (λ c. leasts c (f s) r) net.count in
      let m : IsMade (net.pair s (f s) g) b v rest =
      made (net.pair s (f s) g) b v rest (divided.attains.1 ∙ divided.attains.2.1) in
      let sum : IsJoined net.next (At s) (λ c. leasts c (f s) (b - m.p.loss)) net.count m.u =
      joined-some net.next (At s) (λ c. leasts c (f s) (b - m.p.loss)) net.count m.u m.rest_is in
      let here : chosen net f s ≡ Some m.p = ap (λ q. net.pair s (f s) q) beside ∙ m.pair in
      let lost : loss net f s ≡ m.p.loss = ap loss_of here in
      let paid : price net f s ≡ m.p.price = ap price_of here in
      let fits = m.fits in
      let r : ℕ = b - loss net f s in
      let rr : b - m.p.loss ≡ r = ap (λ q. b - q) (sym lost) in
      let whole = price_sum-split net falls s f within in
      let sums : total (λ c. gated (same (net.next c) (At s)) (value (leasts c (f s) (b - m.p.loss)))) net.count
      ≡ total (λ c. gated (same (net.next c) (At s)) (price_sum net f (At c))) net.count =
      total-cong _ _ net.count (λ c less. gated-cong (same (net.next c) (At s)) _ _ (λ next_to.
      let child = same-true (net.next c) (At s) next_to in
      let at : leasts c (f s) r ≡ Some (price_sum net f (At c)) =
      least-unique net c (f s) r (leasts c (f s) r) (Some (price_sum net f (At c)))
      (known c (f s) r less child divided.attains.0) (divided.child c less child).2 in
      ap (λ x. value (leasts c (f s) x)) rr ∙ ap value at)) in
      let sum_is = sum.sum in
      let made_of = m.sum in
      let price_is : price_sum net f (At s) ≡ v = omega arith in (
        beside,
        record {
          in_range = λ t less by. elim (beyond-cases net.next falls s t by) [
            | inl first ↦ subst (λ u. f u < net.sizes u) (sym first) divided.attains.0
            | inr c ↦ (divided.child c.0 (child-within net falls c.0 t less c.2) c.1).1.in_range t less c.2
          ];
          there = λ t less by. elim (beyond-cases net.next falls s t by) [
            | inl first ↦ (m.p, ap (chosen net f) first ∙ here)
            | inr c ↦ (divided.child c.0 (child-within net falls c.0 t less c.2) c.1).1.there t less c.2
          ];
          within = λ t less end by. elim (beyond-cases net.next falls s t by) [
            | inl first ↦
                let alone : along net.next (loss net f) (At s) t ≡ loss net f s =
                ap (along net.next (loss net f) (At s)) first ∙ along-self net.next falls (loss net f) s in
                omega arith
            | inr c ↦
                let parts = along-split net.next falls (loss net f) (At s) c.0 c.1 t c.2 in
                let most = (divided.child c.0 (child-within net falls c.0 t less c.2) c.1).1.within t less end c.2 in
                omega arith
          ];
        },
        subst (IsLeastSum net s g b) (divided.attains.2.1 ∙ ap Some (sym price_is))
            (least-step net falls leasts s within known g b fan),
      )
