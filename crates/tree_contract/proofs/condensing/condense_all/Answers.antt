use Rattle.std.proofs.Common.{◌≡◌, map, length, ap, sym, ◌∙◌, arith, subst}
use Rattle.std.proofs.lemmas.List.{length-map}
use Rattle.std.specs.Prelude.{All}
use Rattle.std.specs.List.Sorted.{IsPermutation}
use Rattle.duct_definitions.specs.Network.{Network}
use Rattle.duct_definitions.specs.Tree.{all_leaves}
use Rattle.child_counter.specs.Public.{AreBack, IsNew}
use Rattle.steal_pool.specs.Deals.{IsDealt}
use Rattle.tree_contract.specs.declared.worker.Worker.{Worker}
use Rattle.tree_contract.specs.Crews.{IsReady}
use Rattle.tree_contract.proofs.Noted.{ready, backs, crew-shares, written}
use Rattle.tree_contract.proofs.condensing.condense_all.Goals as goal

pub work_all-requires-clause-ready : goal.work_all-requires-clause-ready
work_all-requires-clause-ready g c κs within =
    let which = c.in_ok-counters.counters in
    let crew = c.in_ok-crew.crew.items in
    let tasks = c.as_slice.result.now in
    subst (All (λ (w : Worker). IsReady which w.hand w.pass)) (sym c.as_mut_slice.ensures.value)
    (ready which tasks c.args.workers crew
    (subst (IsDealt tasks c.args.workers) (sym c.in_ok-crew.ensures.hands) c.in_ok-hands.ensures.dealt)
    (subst (All (IsNew which)) (sym c.in_ok-crew.ensures.passes) c.in_ok-counters.ensures.fresh))

pub close-requires : goal.close-requires
close-requires g c =
    let which = c.in_ok-counters.counters in
    let vec = c.in_ok-crew.crew in
    let old = c.as_mut_slice.result.now in
    let now = c.work_all.new.crew in
    let value = c.as_mut_slice.ensures.value in
    let same : length now ≡ length vec.items = (let a = c.work_all.ensures.count in let b = ap length value in omega arith) in
    let back = written vec.len now vec.items (let a = vec.ok.0 in omega arith) same in
    let tasks = c.as_slice.result.now in
    let all : IsPermutation (all_leaves which.net.tree) tasks =
    subst (IsPermutation (all_leaves which.net.tree)) (sym c.as_slice.ensures.value)
    (subst (λ (n : Network). IsPermutation (all_leaves n.tree) c.in_ok-leaves.leaves.items) (sym c.in_ok-counters.ensures.network)
    c.in_ok-leaves.ensures.leaves) in
    let passes : length old ≡ which.passes = (
    let a = ap length value in
    let b = length-map vec.items (λ (w : Worker). w.pass) in
    let d = ap length c.in_ok-crew.ensures.passes in
    let e = c.in_ok-counters.ensures.count in
    let f = c.in_ok-counters.ensures.passes in
    omega arith) in
    let shares = crew-shares old c.in_ok-hands.hands tasks which.net.tree
    (ap (map (λ (w : Worker). w.hand)) value ∙ c.in_ok-crew.ensures.hands) all c.in_ok-hands.ensures.once in
    subst (AreBack which) (sym (c.passes_of-passes.ensures ∙ ap (map (λ (w : Worker). w.pass)) back))
    (backs which old now c.work_all.ensures.count passes c.work_all.ensures.worked shares)
