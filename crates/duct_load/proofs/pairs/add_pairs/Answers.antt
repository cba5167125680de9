use Rattle.std.proofs.Common.{ℕ, ◌≡◌, ◌++◌, ◌∷◌, [], map, ap, sym, ◌∙◌, append_assoc, arith}
use Rattle.std.specs.List.{range_with_len}
use Rattle.duct_load.specs.Made.{columns_of, pair_of}
use Rattle.duct_load.proofs.RangeLaws.{map_more}
use Rattle.duct_load.proofs.pairs.add_pairs.Goals as goal

pub loop-g-preserved : goal.loop-g-preserved
loop-g-preserved c =
    let more = map_more (pair_of c.args.i c.args.k) c.loop-g.g in
    let behind = append_assoc c.args.pairs.now.items (map (pair_of c.args.i c.args.k) (range_with_len 0 c.loop-g.g)) (pair_of c.args.i c.args.k c.loop-g.g ∷ []) in
    c.in_ok-push.ensures.items
    ∙ ap (λ pair. c.loop-g.pairs.items ++ pair ∷ []) c.pair_of.ensures
    ∙ ap (λ pairs. pairs ++ pair_of c.args.i c.args.k c.loop-g.g ∷ []) c.loop-g.invariant
    ∙ behind
    ∙ ap (λ pairs. c.args.pairs.now.items ++ pairs) (sym more)

pub returns : goal.returns
returns c =
    let few = c.columns_of-g-end.ensures.few in
    let all : c.loop-g.g ≡ columns_of c.args.i = (let e : c.loop-g.g ≡ c.columns_of-g-end.result = omega arith in e ∙ c.columns_of-g-end.ensures.value) in
    c.loop-g.invariant ∙ ap (λ (n : ℕ). c.args.pairs.now.items ++ map (pair_of c.args.i c.args.k) (range_with_len 0 n)) all
