use Rattle.std.proofs.Common.{◌≡◌, ◌<◌, ◌-◌, ◌+◌, ℕ, ap, ◌∙◌, subst, arith}
use Rattle.duct_definitions.specs.Tree.{section_count}
use Rattle.duct_definitions.specs.Airflow.{Airflows, with_leak, leak_at}
use Rattle.air_tree.specs.CarriedFlows.{known, AreKnown}
use Rattle.air_tree.proofs.CarriedLaws.{known-section, known-written}
use Rattle.air_tree.proofs.carried.carry.Goals as goal

pub loop-s-preserved : goal.loop-s-preserved
loop-s-preserved c =
    let t = c.args.tree.now in
    let air : Airflows = record { at_leaves = c.args.leaf_flows.now; leaks = c.args.leaks.now } in
    let s : ℕ = c.loop-s.s - 1 in
    let within : s < section_count t = omega arith in
    let next : c.loop-s.s ≡ s + 1 = omega arith in
    known-written t air c.loop-s.s s c.loop-s.carried c.known_with_leak.result within next c.loop-s.invariant
    (c.known_with_leak.ensures
    ∙ ap (λ q. known (with_leak (leak_at air s) q)) c.passing-q.ensures.value
    ∙ known-section t air s c.loop-s.carried c.len-s.ensures.tree within
    (subst (λ i. AreKnown t air i c.loop-s.carried) next c.loop-s.invariant))
