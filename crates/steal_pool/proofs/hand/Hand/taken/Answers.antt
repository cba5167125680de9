use Rattle.std.proofs.Common.{ap, ◌∙◌}
use Rattle.std.specs.List.{sum_by}
use Rattle.steal_pool.specs.Rule.{times}
use Rattle.steal_pool.specs.Hands.{HandView}
use Rattle.steal_pool.proofs.Looking.{views-count}
use Rattle.steal_pool.proofs.hand.Hand.taken.Goals as goal

pub returns-clause-views : goal.returns-clause-views
returns-clause-views c =
    let hand = c.self.inside in
    λ t. ap (times t) c.as_slice.ensures.value
    ∙ views-count hand.own hand.others.items t (times t hand.taken.items) (c.self.invariant.counts t)
    ∙ ap (λ (h : HandView). sum_by (times t) h.views) c.self.view_is
