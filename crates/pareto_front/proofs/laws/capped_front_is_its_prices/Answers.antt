use Rattle.pareto_front.proofs.Same.{same_up_to}
use Rattle.pareto_front.proofs.laws.capped_front_is_its_prices.Goals as goal

pub returns : goal.returns
returns c =
    same_up_to c.args.a.now c.args.b.now c.args.cap c.tell_front.ensures c.tell_front-2.ensures
    c.requires.a_capped c.requires.b_capped c.requires.same
