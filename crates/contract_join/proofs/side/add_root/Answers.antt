use Rattle.std.proofs.Common.{◌++◌, ◌∷◌, [], arith, List}
use Rattle.std.proofs.lemmas.Result.{IfOk-weaker}
use Rattle.pareto_front.specs.declared.point.Point.{Point}
use Rattle.pareto_front.specs.FrontSum.{CostsAlike}
use Rattle.contract_join.specs.Join.{AddsSection}
use Rattle.contract_join.proofs.Adding.{fits-room}
use Rattle.contract_join.proofs.Sides.{root-columns, root-costs, root-added}
use Rattle.contract_join.proofs.side.add_root.Goals as goal

pub front-requires : goal.front-requires
front-requires c =
    let one = root-columns c.args.net.now c.args.s c.requires.in_range c.requires.at_fan
    c.args.fronts.now c.index-fronts-s.result c.requires.fronts c.index-fronts-s.is in
    omega arith

pub add-requires : goal.add-requires
add-requires c =
    fits-room c.args.net.now c.args.sum.now c.front.result.now
    (root-costs c.args.net.now c.args.s c.requires.in_range c.requires.at_fan
    c.args.fronts.now c.index-fronts-s.result c.requires.fronts c.index-fronts-s.is c.front.result.now c.front.ensures.costs)
    c.requires.room

pub returns : goal.returns
returns c =
    let net = c.args.net.now in
    let old : List (List Point) = c.args.sum.now in
    let front : List Point = c.front.result.now in
    let new : List (List Point) = c.add.new.self in
    IfOk-weaker c.add.result (λ done. CostsAlike (old ++ front ∷ []) new) (λ done. AddsSection net c.args.s 0 old new)
    (λ done alike.
    root-added net c.args.s c.requires.in_range c.requires.at_fan
    c.args.fronts.now c.index-fronts-s.result c.requires.fronts c.index-fronts-s.is
    c.network_is_valid.ensures old front new alike c.front.ensures.least c.front.ensures.needs c.front.ensures.costs)
    c.add.ensures
