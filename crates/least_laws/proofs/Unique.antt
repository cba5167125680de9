-- The least is one value, and depends on the pairs of the section and of what lies beyond it alone.
use Rattle.std.proofs.Common.{◌≡◌, ℕ, ◌<◌, true, refl, arith, ap, sym, ◌∙◌, Option, Some, None}
use Rattle.duct_definitions.specs.declared.design.Pair.{Pair}
use Rattle.duct_definitions.specs.Designs.{loss_of, price_of}
use Rattle.tree_sums.specs.Route.{At, Falls, goes_by}
use Rattle.tree_sums.specs.Sums.{along}
use Rattle.tree_sums.proofs.Beyond.{along-cong, beyond-cong}
use Rattle.least_laws.proofs.Ducts.{Ducts, size_at, loss, price, IsSizing, price_sum, IsLeastSum}

pub least-unique : (net : Ducts) (s g b : ℕ) (x y : Option ℕ) → IsLeastSum net s g b x → IsLeastSum net s g b y → x ≡ y
least-unique net s g b None None one other = refl
least-unique net s g b None (Some v) one other = absurd (one other.0.0 other.0.1 other.0.2)
least-unique net s g b (Some v) None one other = absurd (other one.0.0 one.0.1 one.0.2)
least-unique net s g b (Some v) (Some w) one other =
    let below = one.1 other.0.0 other.0.1 other.0.2 in
    let above = other.1 one.0.0 one.0.1 one.0.2 in
    let first = one.0.3 in
    let second = other.0.3 in
    ap Some (omega arith)

-- the network with other pairs
abbrev pub with_pairs : Ducts → (ℕ → ℕ → ℕ → Option Pair) → Ducts
with_pairs net q = record { count = net.count; next = net.next; sizes = net.sizes; pair = q }

-- the pairs of s and of all beyond it are the same
abbrev pub AgreeBeyond : Ducts → (ℕ → ℕ → ℕ → Option Pair) → ℕ → Type 0
AgreeBeyond net q s =
    (t k g : ℕ) → t < net.count → goes_by net.next (At s) t ≡ true → net.pair t k g ≡ q t k g

sizing-moves : (net : Ducts) → Falls net.next → (q : ℕ → ℕ → ℕ → Option Pair) (s b : ℕ) (f : ℕ → ℕ)
    → AgreeBeyond net q s → IsSizing net (At s) b f → IsSizing (with_pairs net q) (At s) b f
sizing-moves net falls q s b f agree sizing = record {
  in_range = sizing.in_range;
  there = λ t less by.
      let pair = sizing.there t less by in
      (pair.0, sym (agree t (f t) (size_at f (net.next t)) less by) ∙ pair.1);
  within = λ t less end by.
      let most = sizing.within t less end by in
      let same : along net.next (loss net f) (At s) t ≡ along net.next (loss (with_pairs net q) f) (At s) t =
      along-cong net.next falls (loss net f) (loss (with_pairs net q) f) s net.count
      (λ u below passed. ap loss_of (agree u (f u) (size_at f (net.next u)) below passed)) t less by in
      omega arith;
}

price_sum-moves : (net : Ducts) (q : ℕ → ℕ → ℕ → Option Pair) (s : ℕ) (f : ℕ → ℕ) → AgreeBeyond net q s
    → price_sum net f (At s) ≡ price_sum (with_pairs net q) f (At s)
price_sum-moves net q s f agree =
    beyond-cong net.next (price net f) (price (with_pairs net q) f) net.count s
    (λ u below passed. ap price_of (agree u (f u) (size_at f (net.next u)) below passed))

agree-back : (net : Ducts) (q : ℕ → ℕ → ℕ → Option Pair) (s : ℕ) → AgreeBeyond net q s
    → AgreeBeyond (with_pairs net q) net.pair s
agree-back net q s agree t k g less by = sym (agree t k g less by)

pub least-moves : (net : Ducts) → Falls net.next → (q : ℕ → ℕ → ℕ → Option Pair) (s g b : ℕ) (o : Option ℕ)
    → AgreeBeyond net q s → IsLeastSum net s g b o → IsLeastSum (with_pairs net q) s g b o
least-moves net falls q s g b None agree none =
    λ f beside sizing.
    none f beside (sizing-moves (with_pairs net q) falls net.pair s b f (agree-back net q s agree) sizing)
least-moves net falls q s g b (Some v) agree least = (
  (
    least.0.0,
    least.0.1,
    sizing-moves net falls q s b least.0.0 agree least.0.2,
    sym (price_sum-moves net q s least.0.0 agree) ∙ least.0.3,
  ),
  λ f beside sizing.
      let most = least.1 f beside
      (sizing-moves (with_pairs net q) falls net.pair s b f (agree-back net q s agree) sizing) in
      let same = price_sum-moves net q s f agree in
      omega arith,
)
