use Rattle.std.proofs.Common.{◌<◌, arith, ap}
use Rattle.duct_definitions.specs.Tree.{section_count}
use Rattle.duct_definitions.proofs.TreeLaws.{few_sections}
use Rattle.front_certificate.proofs.Places.{fronts_before-later, fronts_before-few}
use Rattle.front_certificate.proofs.counting.front_count.Goals as goal

pub overflow_add-count : goal.overflow_add-count
overflow_add-count c =
    let net = c.args.net.now in
    let so_far = c.loop-s.invariant in
    let more = c.columns.ensures in
    let test = c.loop-s-test.true in
    let len = c.len-s-end.ensures.value in
    let same = ap section_count c.tree.ensures.tree in
    let section : c.loop-s.s < section_count net.tree = omega arith in
    let all = fronts_before-later net c.loop-s.s (section_count net.tree) section in
    let most = fronts_before-few net c.network_is_valid.ensures (section_count net.tree) (omega arith) in
    let few = few_sections net.tree c.network_is_valid.ensures.tree in
    omega arith

pub returns-clause-few : goal.returns-clause-few
returns-clause-few c =
    let net = c.args.net.now in
    let so_far = c.loop-s.invariant in
    let end = c.loop-s-test.false in
    let within = c.loop-s.auto.s-end in
    let len = c.len-s-end.ensures.value in
    let same = ap section_count c.tree.ensures.tree in
    let most = fronts_before-few net c.network_is_valid.ensures c.loop-s.s (omega arith) in
    let few = few_sections net.tree c.network_is_valid.ensures.tree in
    omega arith
