use Rattle.std.proofs.Common.{◌<◌, ap, sym, ◌∙◌, subst}
use Rattle.duct_definitions.specs.Network.{Network}
use Rattle.duct_definitions.specs.Tree.{neighbour, section_count}
use Rattle.duct_definitions.proofs.TreeLaws.{earlier}
use Rattle.tree_contract.proofs.climbing.Site.climb.Goals as goal

pub loop-next-smaller : goal.loop-next-smaller
loop-next-smaller g c =
    let site = c.args.self.now in
    let t = site.net.now.tree in
    let turn_is = c.outcome_of-outcome.ensures.turn.same in
    earlier t c.loop-next.turn c.in-Some.next c.network_is_valid.ensures.tree
    (subst (λ (n : Network). c.loop-next.turn < section_count n.tree) site.same_network c.loop-next.invariant.0.within)
    (ap (neighbour t) (sym turn_is)
    ∙ ap (λ (n : Network). neighbour n.tree c.outcome_of-outcome.new.turn) (sym site.same_network)
    ∙ c.in-Some.ensures.next)
