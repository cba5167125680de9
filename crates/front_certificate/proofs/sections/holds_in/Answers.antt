use Rattle.std.proofs.Common.{◌≡◌, ℕ, arith, subst, inl, inr, refl, List}
use Rattle.std.proofs.lemmas.Bool.{cases_lt}
use Rattle.duct_definitions.specs.Tree.{children}
use Rattle.front_certificate.specs.Certificates.{bound_sum}
use Rattle.front_certificate.specs.Sound.{HoldsAt}
use Rattle.front_certificate.proofs.Rising.{holds-later}
use Rattle.front_certificate.proofs.sections.holds_in.Goals as goal

pub loop-need-preserved : goal.loop-need-preserved
loop-need-preserved c rest within =
    let stated = c.args.stated.now in
    let xs : List ℕ = children stated.net.tree c.args.s in
    elim (cases_lt c.loop-need.rest rest) [
      | inr before ↦ c.loop-need.invariant rest before
      | inl over ↦ elim (cases_lt rest c.in-Some.need) [
        | inl below ↦
            holds-later stated.net stated.fronts c.tell_fronts.ensures c.args.s c.args.k c.loop-need.rest rest (omega arith)
            (subst (λ (l : List ℕ). bound_sum stated.net stated.fronts l c.args.k rest
            ≡ bound_sum stated.net stated.fronts l c.args.k c.loop-need.rest) c.children-children.ensures.value
            (c.in-Some.ensures.stay rest (omega arith) below))
            (c.loop-need.invariant c.loop-need.rest (omega arith))
        | inr reached ↦
            let same : c.in-Some.need ≡ rest = omega arith in
            subst (λ r. HoldsAt stated.net stated.fronts c.args.s c.args.k r) same (c.if-not-holds_at-2.ensures.0 refl)
      ]
    ]

pub returns : goal.returns
returns c =
    let stated = c.args.stated.now in (
      λ _ rest. elim (cases_lt c.loop-need.rest rest) [
        | inr before ↦ c.loop-need.invariant rest before
        | inl over ↦
            holds-later stated.net stated.fronts c.tell_fronts.ensures c.args.s c.args.k c.loop-need.rest rest (omega arith)
            (subst (λ (l : List ℕ). bound_sum stated.net stated.fronts l c.args.k rest
            ≡ bound_sum stated.net stated.fronts l c.args.k c.loop-need.rest) c.children-children.ensures.value
            (c.in_default.ensures.stay rest (omega arith) tt))
            (c.loop-need.invariant c.loop-need.rest (omega arith))
      ],
      λ _. refl,
    )
