use Rattle.std.proofs.Common.{◌≡◌, ◌<◌, arith, ap, sym, ◌∙◌, subst, List}
use Rattle.pareto_front.specs.Front.{cheapest}
use Rattle.duct_definitions.specs.Network.{columns}
use Rattle.least_laws.proofs.Leasts.{least_in-unique}
use Rattle.pareto_front.specs.declared.point.Point.{Point}
use Rattle.contract_join.specs.Join.{AddsSection, HasRoom}
use Rattle.contract_join.proofs.Adding.{fits-room, AddsSection-front}
use Rattle.contract_join.proofs.Children.{IsAddedTo-next}
use Rattle.contract_join.proofs.join.with_child.Goals as goal

pub add-requires : goal.add-requires
add-requires c =
    let child = c.args.child.now in
    let sizes : c.columns-k-end.result ≡ columns c.args.child.now.net c.args.child.now.section =
    c.columns-k-end.ensures ∙ ap (λ n. columns n c.section.result) c.network.ensures.value ∙ ap (columns child.net) c.section.ensures in
    let test = c.loop-k-test.true in
    let beside = c.requires.beside in
    let sum : List (List Point) = c.index_mut.result.now in
    let same = c.index_mut.ensures.value ∙ c.loop-k.invariant.left c.loop-k.k sum (omega arith) in
    fits-room child.net sum c.front.result.now c.front.ensures.costs
    (subst (λ (x : List (List Point)). HasRoom child.net x) (sym same) (c.requires.room c.loop-k.k sum (omega arith)))

pub loop-k-preserved : goal.loop-k-preserved
loop-k-preserved c =
    let child = c.args.child.now in
    let sizes : c.columns-k-end.result ≡ columns c.args.child.now.net c.args.child.now.section =
    c.columns-k-end.ensures ∙ ap (λ n. columns n c.section.result) c.network.ensures.value ∙ ap (columns child.net) c.section.ensures in
    let test = c.loop-k-test.true in
    let beside = c.requires.beside in
    let count = c.loop-k.invariant.count in
    let less : c.loop-k.k < columns c.args.child.now.net c.args.child.now.section = omega arith in
    let sum : List (List Point) = c.index_mut.result.now in
    IsAddedTo-next child.net child.section c.args.sums.items c.loop-k.sums.items c.loop-k.k sum c.add.new.self (omega arith) c.loop-k.invariant
    (subst (λ (x : List (List Point)). AddsSection child.net child.section c.loop-k.k x c.add.new.self) c.index_mut.ensures.value
    (AddsSection-front child.net sum c.front.result.now c.front.ensures.costs c.loop-k.k child.section c.add.new.self c.in_ok-add.ensures
    (λ budget in_cap.
    least_in-unique child.net c.requires.network.tree child.section c.loop-k.k budget (cheapest c.front.result.now budget)
    c.network.ensures.exact.in_range less (c.front.ensures.least budget in_cap))
    c.front.ensures.needs))
