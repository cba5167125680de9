use Rattle.std.proofs.Common.{◌≡◌, ◌<◌, ◌∙◌, ℕ, List, length, sym, ap, subst, arith}
use Rattle.std.specs.Int.{w64}
use mir.Val.{to_z, of_z}
use Rattle.std.proofs.lemmas.Int.{ints}
use Rattle.fitting_tables.specs.declared.axis.Span.{Span}
use Rattle.fitting_tables.specs.Cells.{areas_of, flows_of}
use Rattle.fitting_tables.specs.Span.{span_of}
use Rattle.fitting_tables.specs.Coefficient.{IsBetween, IsCoefficient, between_corners}
use Rattle.fitting_tables.proofs.CellLaws.{some_area, some_flow}
use Rattle.fitting_tables.proofs.grid.Grid.coefficient.Goals as goal

pub span_at-area-requires-clause-some : goal.span_at-area-requires-clause-some
span_at-area-requires-clause-some c =
    let same : c.points.result.now ≡ areas_of c.args.self.now = c.points.ensures.value ∙ c.self.invariant.areas ∙ ap areas_of c.self.view_is in
    subst (λ (bs : List ℕ). 0 < length bs) (sym same) (some_area c.args.self.now c.requires)

pub span_at-flow-requires-clause-some : goal.span_at-flow-requires-clause-some
span_at-flow-requires-clause-some c =
    let same : c.points-2.result.now ≡ flows_of c.args.self.now = c.points-2.ensures.value ∙ c.self.invariant.flows ∙ ap flows_of c.self.view_is in
    subst (λ (bs : List ℕ). 0 < length bs) (sym same) (some_flow c.args.self.now c.requires)

area_is : (c : goal.After-weighted) → c.span_at-area.result ≡ span_of c.args.ra (areas_of c.args.self.now)
area_is c = c.span_at-area.ensures.value ∙ ap (span_of c.args.ra) (c.points.ensures.value ∙ c.self.invariant.areas ∙ ap areas_of c.self.view_is)

flow_is : (c : goal.After-weighted) → c.span_at-flow.result ≡ span_of c.args.rq (flows_of c.args.self.now)
flow_is c = c.span_at-flow.ensures.value ∙ ap (span_of c.args.rq) (c.points-2.ensures.value ∙ c.self.invariant.flows ∙ ap flows_of c.self.view_is)

pub returns-clause-value : goal.returns-clause-value
returns-clause-value c =
    omega (arith, ints, c.weighted.ensures.bounds.0, c.weighted.ensures.bounds.1)
    ∙ c.weighted.ensures.value
    ∙ ap (λ (area : Span). between_corners c.args.self.now area c.span_at-flow.result) (area_is c)
    ∙ ap (λ (flow : Span). between_corners c.args.self.now (span_of c.args.ra (areas_of c.args.self.now)) flow) (flow_is c)

pub returns-clause-ceiling : goal.returns-clause-ceiling
returns-clause-ceiling c =
    let held : c.weighted.result ≡ to_z w64 (of_z w64 c.weighted.result) = omega (arith, ints, c.weighted.ensures.bounds.0, c.weighted.ensures.bounds.1) in
    subst (IsCoefficient c.args.self.now c.args.ra c.args.rq) held
    (subst (λ (flow : Span). IsBetween c.args.self.now (span_of c.args.ra (areas_of c.args.self.now)) flow c.weighted.result) (flow_is c)
    (subst (λ (area : Span). IsBetween c.args.self.now area c.span_at-flow.result c.weighted.result) (area_is c) c.weighted.ensures.ceiling))
