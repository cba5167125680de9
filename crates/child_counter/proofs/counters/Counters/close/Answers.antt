use Rattle.std.proofs.Common.{◌≡◌, List, ℕ, ap, sym, ◌∙◌, subst}
use Rattle.std.specs.Prelude.{All}
use Rattle.duct_definitions.specs.Network.{Network}
use Rattle.contract_join.specs.SectionFronts.{SectionData}
use Rattle.contract_join.specs.declared.outcome.Outcome.{Outcome}
use Rattle.contract_join.specs.declared.outcome.Outcome.TheVariants.{Fronts, NoMemory}
use Rattle.child_counter.specs.Passes.{all_of, StandsIn}
use Rattle.child_counter.specs.Closed.{AreOutcomesOf, AreWhole, outcomes_by}
use Rattle.child_counter.proofs.Taking.{whole, fronts-all, refused-all}
use Rattle.child_counter.proofs.counters.Counters.close.Goals as goal

pub invariant_of-result : goal.invariant_of-result
invariant_of-result c =
    let net = c.self.invariant.net_is in
    let e = c.empty-outcomes.ensures in
    let items : List Outcome = c.empty-outcomes.result.items in (
      (
        items,
        subst (λ (m : Network). AreOutcomesOf m items) net e.outcomes,
        c.sorted-fronts.ensures.fronts,
        c.sorted-fronts.ensures.refused,
      ),
      subst (λ (m : Network). AreWhole m.tree c.from_vec.result) net
          (whole _ c.gather-seat.result.me.0 c.from_vec.result (c.from_vec.ensures
          ∙ c.gather-seat.ensures.kept) e.once e.own e.others),
    )

pub returns-clause-fronts : goal.returns-clause-fronts
returns-clause-fronts c =
    let all : all_of c.gather-seat.result.me.0 ≡ outcomes_by c.args.passes =
    c.gather-seat.ensures.outcomes ∙ ap outcomes_by (sym c.in-Some.ensures.items ∙ c.into_vec-passes.ensures) in
    subst (λ (l : List SectionData). All (λ f. StandsIn (outcomes_by c.args.passes) (Fronts f)) l)
    (sym c.sorted-fronts.ensures.fronts)
    (fronts-all (StandsIn (outcomes_by c.args.passes)) c.empty-outcomes.result.items
    (λ s o is. subst (λ (l : List Outcome). StandsIn l o) all (c.empty-outcomes.ensures.published s o is)))

pub returns-clause-refused : goal.returns-clause-refused
returns-clause-refused c =
    let all : all_of c.gather-seat.result.me.0 ≡ outcomes_by c.args.passes =
    c.gather-seat.ensures.outcomes ∙ ap outcomes_by (sym c.in-Some.ensures.items ∙ c.into_vec-passes.ensures) in
    subst (λ (l : List ℕ). All (λ s. StandsIn (outcomes_by c.args.passes) (NoMemory s)) l)
    (sym c.sorted-fronts.ensures.refused)
    (refused-all (StandsIn (outcomes_by c.args.passes)) c.empty-outcomes.result.items
    (λ s o is. subst (λ (l : List Outcome). StandsIn l o) all (c.empty-outcomes.ensures.published s o is)))
