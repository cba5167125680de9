use Rattle.std.proofs.Common.{◌*◌, map, take, length, All, refl, ap, ◌∙◌, sym, subst, arith}
use Rattle.std.proofs.lemmas.List.Elements.{All-nil, All-push}
use Rattle.std.proofs.lemmas.Option.{slice_get_read}
use Rattle.duct_definitions.specs.Network.{IsBounded}
use Rattle.net_build.specs.Built.{pairs_of}
use Rattle.net_build.specs.Refusals.{refusals_of, CountsWithin}
use Rattle.net_build.proofs.AskedLaws.{asked-none, asked-then}
use Rattle.net_build.proofs.TogetherLaws.{mapped-more}
use Rattle.net_build.proofs.by_section.all_built.Goals as goal

pub loop-s-init : goal.loop-s-init
loop-s-init g c = record {
  pairs = c.new-pairs.ensures.items;
  bounds = subst (All (All IsBounded)) (sym c.new-pairs.ensures.items) (All-nil (All IsBounded));
  refusals = c.new-refusals.ensures.items;
  most = subst (All (CountsWithin 576)) (sym c.new-refusals.ensures.items) (All-nil (CountsWithin 576));
  asked = asked-none _ _ _ _;
}

pub loop-s-preserved : goal.loop-s-preserved
loop-s-preserved g c =
    let e = c.in_ok-section.ensures in
    let v = c.loop-s.invariant in
    let allows = map g.R.SizeRule.allows c.args.rules.now.items in
    let names = map g.R.SizeRule.label c.args.rules.now.items in
    let at = slice_get_read c.args.sections.now (length c.args.sections.now) c.loop-s.s c.index-sections-s.result refl (omega arith) c.index-sections-s.is in
    record {
      pairs = mapped-more (pairs_of c.args.catalogues.now allows) c.args.sections.now c.loop-s.s c.index-sections-s.result c.loop-s.pairs.items c.push.new.self.items _ at v.pairs (e.pairs ∙ ap (λ r. pairs_of c.args.catalogues.now r c.index-sections-s.result) v.asked.same.meanings) c.in_ok-push.ensures.items;
      bounds = subst (All (All IsBounded)) (sym c.in_ok-push.ensures.items) (All-push (All IsBounded) c.loop-s.pairs.items _ v.bounds e.bounds);
      refusals = mapped-more (refusals_of c.args.catalogues.now allows names) c.args.sections.now c.loop-s.s c.index-sections-s.result c.loop-s.refusals.items c.push-in-loop-s.new.self.items _ at v.refusals
          (e.refusals ∙ ap (λ r. refusals_of c.args.catalogues.now r (map g.R.SizeRule.label c.loop-s.rules.items) c.index-sections-s.result) v.asked.same.meanings ∙ ap (λ ns. refusals_of c.args.catalogues.now allows ns c.index-sections-s.result) v.asked.same.names) c.in_ok-push-2.ensures.items;
      most = subst (All (CountsWithin 576)) (sym c.in_ok-push-2.ensures.items) (All-push (CountsWithin 576) c.loop-s.refusals.items _ v.most e.most);
      asked = asked-then _ _ _ _ _ _ _ _ _ v.asked e.asked (omega arith);
    }
