use Rattle.std.proofs.Common.{◌≡◌, ap, sym, ◌∙◌, subst}
use Rattle.pareto_front.specs.Front.{IsFront}
use Rattle.pareto_front.specs.CostFalls.{points_of}
use Rattle.pareto_front.proofs.FallsByNeed.{falls-front}
use Rattle.pareto_front.proofs.cost_falls.CostFalls.front.Goals as goal

pub from_points-requires : goal.from_points-requires
from_points-requires c =
    let own = c.self.inside in
    let is : c.from_vec.result ≡ points_of own.first own.falls.items =
    c.from_vec.ensures ∙ c.in_ok-points.ensures ∙ ap (points_of own.first) c.as_slice.ensures.value in
    subst IsFront (sym is) (falls-front own.first own.falls.items c.self.invariant)
