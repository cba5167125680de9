use Rattle.std.proofs.Common.{◌+◌, ◌++◌, ◌∷◌, [], map, length, All, ap, sym, ◌∙◌, subst, arith}
use Rattle.std.specs.List.{range_with_len}
use Rattle.std.proofs.lemmas.List.Elements.{All-push}
use Rattle.duct_definitions.specs.Network.{IsBounded}
use Rattle.net_build.specs.Refusals.{refused_among}
use Rattle.net_build.proofs.AskedLaws.{asked-none, asked-then, asked-long, added-room}
use Rattle.net_build.proofs.PairLaws.{as_pair, added-start, behind-none, count-of-one, pairs-more, refusals-more, refused-most, size-more}
use Rattle.net_build.proofs.asking.add_pairs.Goals as goal

pub loop-g-init : goal.loop-g-init
loop-g-init g c = record {
  pairs = behind-none c.args.pairs.now.items;
  bounds = c.requires.bounds;
  refusals = added-start c.args.catalogues.now (map g.R.SizeRule.allows c.args.rules.now.items) c.args.section.now c.args.refusals.now.items;
  asked = asked-none _ _ _ _;
}

pub pair_beside-pair-requires-clause-long : goal.pair_beside-pair-requires-clause-long
pair_beside-pair-requires-clause-long g c = asked-long _ _ _ _ _ _ _ _ _ c.loop-g.invariant.asked c.loop-g.invariant.refusals c.requires.long

pub pair_beside-pair-requires-clause-space : goal.pair_beside-pair-requires-clause-space
pair_beside-pair-requires-clause-space g c i =
    let f = c.requires.open.few_beside in
    let w = ap length c.as_slice-g-end.ensures in
    added-room (refused_among c.args.catalogues.now (map g.R.SizeRule.allows c.args.rules.now.items) c.args.section.now (map (as_pair c.args.size.now.place) (range_with_len 0 c.loop-g.g)))
    c.loop-g.g _ _ c.args.refusals.now.items c.loop-g.refusals.items c.loop-g.invariant.refusals
    (λ j. (let e = count-of-one c.args.size.now.place c.loop-g.g in
    let m = refused-most c.args.catalogues.now (map g.R.SizeRule.allows c.args.rules.now.items) c.args.section.now (map (as_pair c.args.size.now.place) (range_with_len 0 c.loop-g.g)) j in omega arith))
    (omega arith) c.requires.space i

pub loop-g-preserved : goal.loop-g-preserved
loop-g-preserved g c =
    let e = c.pair_beside-pair.ensures in
    let v = c.loop-g.invariant in
    let first = map (as_pair c.args.size.now.place) (range_with_len 0 c.loop-g.g) in
    let more = as_pair c.args.size.now.place c.loop-g.g ∷ [] in
    let both = map (as_pair c.args.size.now.place) (range_with_len 0 (c.loop-g.g + 1)) in
    let all = size-more c.args.size.now.place c.loop-g.g in
    let w = ap length c.as_slice-g-end.ensures in
    record {
      pairs = pairs-more c.args.catalogues.now (map g.R.SizeRule.allows c.args.rules.now.items) _ c.args.section.now c.args.pairs.now.items c.loop-g.pairs.items c.push.new.self.items first more both v.asked.same.meanings v.pairs (c.in_ok-push.ensures.items ∙ ap (λ p. c.loop-g.pairs.items ++ p ∷ []) e.value) all;
      bounds = subst (All IsBounded) (sym c.in_ok-push.ensures.items) (All-push IsBounded c.loop-g.pairs.items c.pair_beside-pair.result v.bounds e.bounds);
      refusals = refusals-more c.args.catalogues.now (map g.R.SizeRule.allows c.args.rules.now.items) _ c.args.section.now c.args.refusals.now.items c.loop-g.refusals.items c.pair_beside-pair.new.refusals.items first more both v.asked.same.meanings v.refusals e.refusals all;
      asked = asked-then _ _ _ _ _ _ _ _ _ v.asked e.asked (omega arith);
    }
