use Rattle.std.proofs.Common.{◌≡◌, ℕ, ◌∷◌, [], map, sym, ap, ◌∙◌, subst, None, replicate, Option}
use mathlib.Core.Option.{some}
use Rattle.duct_definitions.specs.Tree.{Tree, section_count}
use Rattle.schedule_core.specs.Schedule.{at_start}
use Rattle.contract_join.specs.declared.outcome.Outcome.{Outcome}
use Rattle.child_counter.specs.Passes.{fresh_view}
use Rattle.child_counter.specs.Shown.{Shows, AreWords}
use Rattle.child_counter.proofs.Opening.{start-shows}
use Rattle.child_counter.proofs.counters.Counters.open.Goals as goal

pub vacant-requires : goal.vacant-requires
vacant-requires c =
    let net = c.args.net.now in
    let words : AreWords net.tree at_start c.as_slice.result.now =
    subst (AreWords net.tree at_start) (sym c.as_slice.ensures.value)
    (subst (λ (t : Tree). AreWords t at_start c.in_ok-words.words.items) c.tree.ensures.tree
    c.in_ok-words.ensures) in
    let count : c.len-count.result ≡ section_count net.tree = c.len-count.ensures.value
    ∙ ap section_count c.tree-2.ensures.tree in (
      at_start,
      subst (λ (k : ℕ). Shows net c.args.passes at_start c.as_slice.result.now
          (map (λ (x : Option Outcome). some x) (replicate k None)) (fresh_view net c.args.passes ∷ [])) (sym count)
          (start-shows net c.args.passes c.as_slice.result.now words),
    )
