use Rattle.std.proofs.Common.{ℕ, ◌≡◌, ap, ◌∙◌, arith}
use Rattle.std.specs.List.{range_with_len, flat_map}
use Rattle.duct_load.specs.Made.{pairs_in_size}
use Rattle.duct_load.proofs.pairs.pairs_of.Goals as goal

pub returns : goal.returns
returns c =
    let all : c.loop-k.k ≡ 8 = omega arith in
    c.from_vec.ensures ∙ c.loop-k.invariant ∙ ap (λ (n : ℕ). flat_map (pairs_in_size c.args.i) (range_with_len 0 n)) all
