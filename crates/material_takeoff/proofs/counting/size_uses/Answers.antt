use Rattle.std.proofs.Common.{◌≤◌, get_or, refl, ap, ◌∙◌, arith}
use Rattle.duct_definitions.specs.declared.duct.TheConstants.{MAX_LENGTH}
use Rattle.material_takeoff.specs.declared.record.SizeUse.{SizeUse}
use Rattle.material_takeoff.proofs.WithUse.{sum_by_one_more}
use Rattle.material_takeoff.proofs.Counted.{counted_more, counted_all}
use Rattle.material_takeoff.proofs.counting.size_uses.Goals as goal

pub loop-s-preserved : goal.loop-s-preserved
loop-s-preserved c =
    let us = c.loop-s.uses.items in
    let after = c.add_use.new.uses.items in
    let more = c.section_use.result in
    let added = c.in_ok-add_use.ensures.uses in
    let counts = sum_by_one_more (λ u. u.count) (λ _ _. refl) us after more added in
    let lengths = sum_by_one_more (λ u. u.length) (λ _ _. refl) us after more added in
    let prices = sum_by_one_more (λ u. u.price) (λ _ _. refl) us after more added in
    let one = ap (λ (u : SizeUse). u.count) c.section_use.ensures.value in
    let length = ap (λ (u : SizeUse). u.length) c.section_use.ensures.value in
    let short : get_or c.args.lengths.now c.loop-s.s 0 ≤ MAX_LENGTH = c.requires.lengths c.loop-s.s 0 (omega arith) in
    record {
      names = c.in_ok-add_use.ensures.names;
      counted = counted_more c.args.sections.now c.args.lengths.now c.loop-s.s c.index-sections-s.result more us after c.requires.same_length
          c.loop-s-test.true c.index-sections-s.is c.section_use.ensures.value c.loop-s.invariant.counted added;
      count = omega arith;
      length = omega arith;
      price = omega arith;
    }

pub returns : goal.returns
returns c =
    c.from_vec.ensures
    ∙ counted_all c.args.sections.now c.args.lengths.now c.loop-s.s c.loop-s.uses.items c.requires.same_length (omega arith)
    c.loop-s.invariant.counted
