use Rattle.std.proofs.Common.{◌≡◌, ◌+◌, ◌*◌, ◌++◌, map, length, All, ap, ◌∙◌, sym, subst, arith}
use Rattle.std.specs.List.{range_with_len, flat_map}
use Rattle.std.proofs.lemmas.List.Elements.{All-nil}
use Rattle.duct_definitions.specs.Network.{IsBounded}
use Rattle.net_build.specs.Pairs.{pairs_in_size}
use Rattle.net_build.specs.Refusals.{refused_among}
use Rattle.net_build.proofs.AskedLaws.{asked-none, asked-then, asked-long, asked-few, asked-left, added-left}
use Rattle.net_build.proofs.PairLaws.{added-start, pairs-more-behind, refusals-more, refused-most, pairs-count, sizes-more}
use Rattle.net_build.proofs.asking.section_pairs.Goals as goal

pub loop-k-init : goal.loop-k-init
loop-k-init g c = record {
  pairs = c.new-pairs.ensures.items;
  bounds = subst (All IsBounded) (sym c.new-pairs.ensures.items) (All-nil IsBounded);
  refusals = added-start c.args.catalogues.now (map g.R.SizeRule.allows c.args.rules.now.items) c.args.section.now c.args.refusals.now.items;
  asked = asked-none _ _ _ _;
}

pub add_pairs-requires-clause-few : goal.add_pairs-requires-clause-few
add_pairs-requires-clause-few g c = asked-few _ _ _ _ _ _ _ c.loop-k.invariant.asked c.requires.few

pub add_pairs-requires-clause-long : goal.add_pairs-requires-clause-long
add_pairs-requires-clause-long g c = asked-long _ _ _ _ _ _ _ _ _ c.loop-k.invariant.asked c.loop-k.invariant.refusals c.requires.long

pub add_pairs-requires-clause-room : goal.add_pairs-requires-clause-room
add_pairs-requires-clause-room g c i = asked-left _ _ _ (24 * c.loop-k.k) _ _ _ _ c.loop-k.invariant.asked (let f = c.requires.open.few in let w = ap length c.as_slice-k-end.ensures in omega arith) c.requires.room i

pub add_pairs-requires-clause-space : goal.add_pairs-requires-clause-space
add_pairs-requires-clause-space g c i =
    let f = c.requires.open.few in
    let w = ap length c.as_slice-k-end.ensures in
    added-left (refused_among c.args.catalogues.now (map g.R.SizeRule.allows c.args.rules.now.items) c.args.section.now (flat_map (pairs_in_size c.args.section.now) (range_with_len 0 c.loop-k.k)))
    (24 * c.loop-k.k) _ _ c.args.refusals.now.items c.loop-k.refusals.items c.loop-k.invariant.refusals
    (λ j. (let e = pairs-count c.args.section.now c.loop-k.k c.requires.open.few_beside in
    let m = refused-most c.args.catalogues.now (map g.R.SizeRule.allows c.args.rules.now.items) c.args.section.now (flat_map (pairs_in_size c.args.section.now) (range_with_len 0 c.loop-k.k)) j in omega arith))
    (omega arith) c.requires.space i

pub loop-k-preserved : goal.loop-k-preserved
loop-k-preserved g c =
    let e = c.in_ok-add_pairs.ensures in
    let v = c.loop-k.invariant in
    let before = flat_map (pairs_in_size c.args.section.now) (range_with_len 0 c.loop-k.k) in
    let here = pairs_in_size c.args.section.now c.chosen_size-size.result.place in
    let both = flat_map (pairs_in_size c.args.section.now) (range_with_len 0 (c.loop-k.k + 1)) in
    let place : c.chosen_size-size.result.place ≡ c.loop-k.k = ap (λ size. size.place) c.chosen_size-size.ensures.value in
    let all : both ≡ before ++ here = sizes-more c.args.section.now c.loop-k.k ∙ ap (λ k. before ++ pairs_in_size c.args.section.now k) (sym place) in
    record {
      pairs = pairs-more-behind c.args.catalogues.now (map g.R.SizeRule.allows c.args.rules.now.items) _ c.args.section.now c.loop-k.pairs.items c.add_pairs.new.pairs.items before here both v.asked.same.meanings v.pairs e.value all;
      bounds = e.bounds;
      refusals = refusals-more c.args.catalogues.now (map g.R.SizeRule.allows c.args.rules.now.items) _ c.args.section.now c.args.refusals.now.items c.loop-k.refusals.items c.add_pairs.new.refusals.items before here both v.asked.same.meanings v.refusals e.refusals all;
      asked = asked-then _ _ _ _ _ _ _ _ _ v.asked e.asked (omega arith);
    }
