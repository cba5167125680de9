use Rattle.std.proofs.Common.{◌≡◌, ℕ, arith, subst, inl, inr, refl, List}
use Rattle.std.proofs.lemmas.Bool.{cases_lt}
use Rattle.front_certificate.specs.Certificates.{bound_sum}
use Rattle.front_certificate.specs.Tests.{SharedHold}
use Rattle.front_certificate.proofs.Rising.{shared-later}
use Rattle.front_certificate.proofs.total.shared_fans_hold.Goals as goal

pub loop-need-preserved : goal.loop-need-preserved
loop-need-preserved c b within =
    let stated = c.args.stated.now in
    elim (cases_lt c.loop-need.budget b) [
      | inr before ↦ c.loop-need.invariant b before
      | inl over ↦ elim (cases_lt b c.in-Some.need) [
        | inl below ↦
            shared-later stated.net stated.fronts c.tell_fronts.ensures c.args.total c.loop-need.budget b (omega arith)
            (subst (λ (l : List ℕ). bound_sum stated.net stated.fronts l 0 b
            ≡ bound_sum stated.net stated.fronts l 0 c.loop-need.budget) c.roots-roots.ensures.value
            (c.in-Some.ensures.stay b (omega arith) below))
            (c.loop-need.invariant c.loop-need.budget (omega arith))
        | inr reached ↦
            let same : c.in-Some.need ≡ b = omega arith in
            subst (λ r. SharedHold stated.net stated.fronts c.args.total r) same (c.if-not-shared_hold-2.ensures.0 refl)
      ]
    ]

pub returns : goal.returns
returns c =
    let stated = c.args.stated.now in (
      λ _ b. elim (cases_lt c.loop-need.budget b) [
        | inr before ↦ c.loop-need.invariant b before
        | inl over ↦
            shared-later stated.net stated.fronts c.tell_fronts.ensures c.args.total c.loop-need.budget b (omega arith)
            (subst (λ (l : List ℕ). bound_sum stated.net stated.fronts l 0 b
            ≡ bound_sum stated.net stated.fronts l 0 c.loop-need.budget) c.roots-roots.ensures.value
            (c.in_default.ensures.stay b (omega arith) tt))
            (c.loop-need.invariant c.loop-need.budget (omega arith))
      ],
      λ _. refl,
    )
