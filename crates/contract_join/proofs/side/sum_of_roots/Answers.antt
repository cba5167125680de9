use Rattle.std.proofs.Common.{ℕ, ◌<◌, arith, subst, sym, List, get_or}
use Rattle.std.specs.Prelude.{All}
use Rattle.std.proofs.lemmas.List.{take_all}
use Rattle.std.proofs.lemmas.Option.{slice_get-get_or}
use Rattle.contract_join.specs.Join.{AreSumOf}
use Rattle.contract_join.proofs.Adding.{take-none, AreSumOf-none, AreSumOf-next}
use Rattle.contract_join.proofs.Fronts.{cap-le}
use Rattle.contract_join.proofs.Sides.{first-room}
use Rattle.contract_join.proofs.side.sum_of_roots.Goals as goal

pub start-requires : goal.start-requires
start-requires c =
    let most = cap-le c.args.net.now c.network_is_valid.ensures in
    let is = c.cap.ensures in
    omega arith

pub points_of-requires : goal.points_of-requires
points_of-requires c =
    subst (λ (n : ℕ). All (λ s. s < n) c.args.sections.now) (sym c.requires.fronts.count) c.requires.in_range

pub loop-s-init : goal.loop-s-init
loop-s-init c =
    subst (λ (l : List ℕ). AreSumOf c.args.net.now 0 l c.in_ok-sum.sum) (sym (take-none c.args.sections.now))
    (AreSumOf-none c.args.net.now 0 c.in_ok-sum.sum c.in_ok-sum.ensures)

pub add_root-requires-clause-in_range : goal.add_root-requires-clause-in_range
add_root-requires-clause-in_range c = c.requires.in_range c.loop-s.s-index 0 c.loop-s-test.true

pub add_root-requires-clause-at_fan : goal.add_root-requires-clause-at_fan
add_root-requires-clause-at_fan c = c.requires.at_fan c.loop-s.s-index 0 c.loop-s-test.true

pub add_root-requires-clause-room : goal.add_root-requires-clause-room
add_root-requires-clause-room c =
    first-room c.args.net.now c.network_is_valid.ensures c.args.sections.now c.loop-s.s-index c.requires.few c.loop-s-test.true
    c.loop-s.sum c.loop-s.invariant

pub loop-s-preserved : goal.loop-s-preserved
loop-s-preserved c =
    let sections : List ℕ = c.args.sections.now in
    AreSumOf-next c.args.net.now 0 sections c.loop-s.s-index (get_or sections c.loop-s.s-index 0) c.loop-s.sum c.add_root.new.sum
    (slice_get-get_or sections c.loop-s.s-index 0 c.loop-s-test.true) c.loop-s.invariant c.in_ok-add_root.ensures

pub returns : goal.returns
returns c =
    subst (λ (l : List ℕ). AreSumOf c.args.net.now 0 l c.loop-s.sum)
    (take_all c.loop-s.s-index c.args.sections.now c.loop-s-test.false) c.loop-s.invariant
