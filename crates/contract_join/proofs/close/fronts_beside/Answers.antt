use Rattle.std.proofs.Common.{◌≡◌, ℕ, ◌+◌, [], arith, ap, sym, ◌∙◌, subst, List}
use Rattle.pareto_front.specs.declared.point.Point.{Point}
use Rattle.pareto_front.specs.Front.{NeedsWithin}
use Rattle.pareto_front.specs.LaidPoints.{Laying}
use Rattle.duct_definitions.specs.Network.{columns, cap}
use Rattle.contract_join.specs.SectionFronts.{AreExact}
use Rattle.contract_join.proofs.Closing.{AreBeside, AreBeside-push, AreExact-beside}
use Rattle.contract_join.proofs.Fronts.{cap-le}
use Rattle.contract_join.proofs.close.fronts_beside.Goals as goal

pub start-requires : goal.start-requires
start-requires c =
    let most = cap-le c.args.net.now c.requires.network in
    let is = c.cap.ensures in
    omega arith

pub loop-g-preserved : goal.loop-g-preserved
loop-g-preserved c =
    let net = c.args.net.now in
    let front : List Point = c.in_ok-front.field-0 in
    let same : c.lay_sizes.new.laid.cap ≡ cap c.args.net.now = c.in_ok-lay_sizes.ensures.cap in (
      c.in_ok-front.ensures.clear ∙ ap (λ (n : ℕ). let laying : Laying = record { cap = n; points = [] } in laying) c.in_ok-lay_sizes.ensures.cap,
      subst (λ (l : List (List Point)). AreBeside net c.args.s l (c.loop-g.g + 1)) (sym {A = List (List Point)} c.in_ok-push.ensures.items)
          (AreBeside-push net c.args.s c.loop-g.fronts.items c.loop-g.g front c.loop-g.invariant.1 c.in_ok-front.ensures.rising
          (λ budget in_cap. c.in_ok-front.ensures.value budget ∙ c.in_ok-lay_sizes.ensures.least budget in_cap)
          (subst (λ n. NeedsWithin n front) same c.in_ok-front.ensures.needs)),
    )

pub returns : goal.returns
returns c =
    let net = c.args.net.now in
    let all = c.columns-columns.ensures in
    let end : c.loop-g.g ≡ columns c.args.net.now c.args.s = omega arith in
    subst (AreExact net c.args.s) (sym c.from_vec.ensures)
    (AreExact-beside net c.requires.network c.args.s c.requires.in_range c.loop-g.fronts.items
    (subst (AreBeside net c.args.s c.loop-g.fronts.items) end c.loop-g.invariant.1))
