use Rattle.std.proofs.Common.{ℕ, ◌≡◌, map, ap, ◌∙◌, arith}
use Rattle.std.specs.List.{range_with_len}
use Rattle.duct_load.specs.Made.{neighbour_of, side_of}
use Rattle.duct_load.proofs.TreeLaws.{never_refused}
use Rattle.duct_load.proofs.making.tree_of.Goals as goal

pub unreachable-requires : goal.unreachable-requires
unreachable-requires c =
    let all : c.loop-i.i ≡ c.args.n = omega arith in
    never_refused c.args.n c.from_vec.result c.from_vec-2.result c.new.result c.in-Err-Refused.field-0 c.in-Err-Refused.field-0-0 c.requires.some c.requires.few
    (c.from_vec.ensures ∙ c.loop-i.invariant.neighbours ∙ ap (λ (n : ℕ). map neighbour_of (range_with_len 0 n)) all)
    (c.from_vec-2.ensures ∙ c.loop-i.invariant.sides ∙ ap (λ (n : ℕ). map side_of (range_with_len 0 n)) all)
    c.in-Err-Refused.is c.in-Err-Refused.field-0-is c.new.ensures
