use Rattle.std.proofs.Common.{◌++◌, ◌∷◌, [], ap, ◌∙◌, sym, subst, All, arith}
use Rattle.duct_definitions.specs.Network.{IsFan}
use Rattle.net_build.specs.Fans.{offered}
use Rattle.net_build.proofs.ListLaws.{taken-all}
use Rattle.net_build.proofs.OfferLaws.{offered-more, are-fans}
use Rattle.net_build.proofs.offering.offer.Goals as goal

pub loop-i-preserved : goal.loop-i-preserved
loop-i-preserved c = record {
  offer =
      c.in_ok-add_fan.ensures.value ∙ ap (λ xs. xs ++ offered (c.fan.result ∷ []) c.args.terms.now c.args.flow) c.loop-i.invariant.offer
      ∙ offered-more c.args.fans.now c.args.terms.now c.args.flow c.loop-i.i c.fan.result c.fan.ensures.value;
  bounds = c.in_ok-add_fan.ensures.bounds;
}

pub returns-clause-fans : goal.returns-clause-fans
returns-clause-fans c =
    are-fans c.args.fans.now c.args.terms.now c.args.flow c.from_vec.result c.len-i-end.ensures.fans (subst (All IsFan) (sym c.from_vec.ensures) c.loop-i.invariant.bounds)
    (c.from_vec.ensures ∙ c.loop-i.invariant.offer ∙ ap (λ fans. offered fans c.args.terms.now c.args.flow) (taken-all c.args.fans.now c.loop-i.i (let e = c.len-i-end.ensures.value in omega arith)))
