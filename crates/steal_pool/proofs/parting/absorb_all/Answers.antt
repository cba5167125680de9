use Rattle.std.proofs.Common.{◌+◌, ◌++◌, ◌∷◌, [], length, length-append, ap, ◌∙◌, arith}
use Rattle.steal_pool.specs.declared.parting.Row.{Row}
use Rattle.steal_pool.specs.Gathers.{reach_got, row_parts, row_got}
use Rattle.std.specs.List.{sum_by}
use Rattle.std.proofs.lemmas.List.Sums.{sum_by-append}
use Rattle.steal_pool.proofs.Parted.{row-deal, whole-more, absorbed-chain}
use Rattle.steal_pool.proofs.parting.absorb_all.Goals as goal

pub absorb_row-requires : goal.absorb_row-requires
absorb_row-requires c =
    let inv = c.loop-rows.invariant in
    row-deal c.args.owns.now.items c.loop-rows.owns.items inv.0 c.take_first-row.new.list.items c.loop-rows.rows.items c.args.rows.items c.take_first-row.result c.loop-rows.j c.requires inv.3.deques inv.1 c.take_first-row.ensures inv.2

pub loop-rows-preserved : goal.loop-rows-preserved
loop-rows-preserved c =
    let inv = c.loop-rows.invariant in
    let row : Row = c.take_first-row.result in
    let one = row ∷ [] in (
      inv.0 ++ one,
      whole-more inv.0 c.take_first-row.new.list.items c.loop-rows.rows.items c.args.rows.items row inv.1 c.take_first-row.ensures,
      length-append inv.0 one ∙ ap (λ n. n + 1) inv.2,
      absorbed-chain c.args.owns.now.items c.loop-rows.owns.items c.absorb_row.new.owns.items (sum_by row_parts inv.0) (length row.reaches.items) (sum_by row_parts (inv.0 ++ one))
          (λ t. sum_by (row_got t) inv.0) (λ t. sum_by (reach_got t) row.reaches.items) (λ t. sum_by (row_got t) (inv.0 ++ one)) inv.3 c.absorb_row.ensures
          (let a = sum_by-append row_parts inv.0 one in omega arith) (λ t. let a = sum_by-append (row_got t) inv.0 one in omega arith),
    )
