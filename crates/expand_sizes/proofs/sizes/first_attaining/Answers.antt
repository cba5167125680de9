use Rattle.std.proofs.Common.{◌∙◌, sym, arith, below_more}
use Rattle.expand_sizes.proofs.Attaining.{least-beside, least-within, attains-if, attains-unless, some-attains}
use Rattle.expand_sizes.proofs.sizes.first_attaining.Goals as goal

pub cheapest-least-requires : goal.cheapest-least-requires
cheapest-least-requires c = record {
  beside = least-beside c.requires.fronts c.requires.sizable c.index-fronts-s.is;
  within = least-within c.requires.fronts c.requires.sizable c.index-fronts-s.is;
}

pub returns-then-eq-clause-attains : goal.returns-then-eq-clause-attains
returns-then-eq-clause-attains c =
    attains-if c.requires.fronts c.requires.sizable c.index-fronts-s.is c.cheapest-least.result c.cheapest-least.ensures.least
    (omega arith)
    c.price_with.ensures (sym c.if-eq.ensures)

pub loop-k-preserved : goal.loop-k-preserved
loop-k-preserved c =
    below_more _ _ c.loop-k.invariant
    (attains-unless c.requires.fronts c.requires.sizable c.index-fronts-s.is c.cheapest-least.result c.cheapest-least.ensures.least
    c.price_with.ensures (sym c.eq.ensures ∙ c.if-eq.false))

pub unreachable-requires : goal.unreachable-requires
unreachable-requires c = some-attains c.requires.sizable (omega arith) c.loop-k.invariant
