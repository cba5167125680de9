use Rattle.std.proofs.Common.{◌<◌, arith, ap}
use Rattle.duct_definitions.specs.Tree.{section_count}
use Rattle.front_certificate.proofs.Places.{fronts_before-later}
use Rattle.front_certificate.proofs.stated.firsts.Goals as goal

section : (c : goal.After-columns) → c.loop-s.s < section_count c.args.net.now.tree
section c =
    let less = c.loop-s-test.true in
    let len = c.len-s-end.ensures.value in
    let same = ap section_count c.tree.ensures.tree in
    omega arith

pub overflow_add-first : goal.overflow_add-first
overflow_add-first c =
    let first = c.loop-s.invariant.first in
    let more = c.columns.ensures in
    let all = fronts_before-later c.args.net.now c.loop-s.s (section_count c.args.net.now.tree) (section c) in
    let count = c.requires in
    let fits = c.ranges.count in
    omega arith
