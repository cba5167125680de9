use Rattle.std.proofs.Common.{ℕ, arith, refl, subst, ap, ◌∙◌, Option, List}
use Rattle.pareto_front.specs.declared.point.Point.{Point}
use Rattle.duct_definitions.specs.Tree.{section_count}
use Rattle.front_certificate.specs.Sound.{IsSoundTotal}
use Rattle.front_certificate.specs.Tests.{Stated}
use Rattle.front_certificate.proofs.judging.verify.Goals as goal

pub returns-then-is_sound_total-clause-judged : goal.returns-then-is_sound_total-clause-judged
returns-then-is_sound_total-clause-judged c =
    let net = c.args.net.now in
    let fronts = c.args.c.now.fronts in
    let seen = c.new-stated.ensures
    ∙ ap (λ (l : List (List Point)). let v : Stated = record { net = net; fronts = l } in v) c.fronts.ensures.value in
    let end = c.loop-s-test.false in
    let len = c.len-s-end.ensures.value in
    let same = ap section_count c.tree.ensures.tree in
    record {
      sections = λ s less. c.loop-s.invariant s (omega arith);
      total = subst (λ (v : Stated). IsSoundTotal v.net v.fronts c.args.c.now.total) seen
          (subst (λ (o : Option ℕ). IsSoundTotal c.new-stated.result.net c.new-stated.result.fronts o) c.total.ensures
          (c.if-is_sound_total.ensures.0 refl));
    }

pub returns-then-is_sound_total-clause-proves : goal.returns-then-is_sound_total-clause-proves
returns-then-is_sound_total-clause-proves c =
    c.sound_certificate_bounds_every_design.ensures c.args.net.now c.tree.ensures.network.tree c.args.c.now
    (returns-then-is_sound_total-clause-judged c)
