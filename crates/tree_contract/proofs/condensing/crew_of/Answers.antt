use Rattle.std.proofs.Common.{ap, arith, length, length-append}
use Rattle.std.proofs.lemmas.List.{length-map}
use Rattle.std.specs.Vec.Iter.{into_iter_items}
use Rattle.tree_contract.specs.declared.worker.Worker.{Worker}
use Rattle.tree_contract.proofs.condensing.crew_of.Goals as goal

pub overflow_cast-number : goal.overflow_cast-number
overflow_cast-number c =
    let at = c.loop-hand in
    let a = length-map at.crew.items (λ (w : Worker). w.hand) in
    let b = ap length at.invariant.hands in
    let d = length-append at.yielded (into_iter_items at.hand-iterator) in
    let e = ap length at.invariant.all_hands in
    let f = ap length c.into_vec-hand-items.ensures in
    let g = c.requires.few in
    let h = c.len-number.ensures in
    let i = at.crew.ok.0 in
    omega arith
