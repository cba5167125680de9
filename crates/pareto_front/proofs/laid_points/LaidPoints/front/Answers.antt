use Rattle.pareto_front.proofs.laid_points.LaidPoints.front.Goals as goal

pub invariant_of-self : goal.invariant_of-self
invariant_of-self c = (c.self.invariant.0, c.take_cheaper.ensures.up_to c.self.inside.cap c.self.invariant.1)

pub invariant_of-self-2 : goal.invariant_of-self-2
invariant_of-self-2 c = (c.self.invariant.0, c.take_cheaper.ensures.up_to c.self.inside.cap c.self.invariant.1)
