use Rattle.std.proofs.Common.{◌≡◌, ◌<◌, ◌≤◌, length, take}
use Rattle.std.specs.Prelude.{All}
use Rattle.duct_definitions.specs.declared.limits.TheConstants.{MAX_SIZES}
use Rattle.toml_fields.specs.ArrayItems.{arrays_in}
use Rattle.network_file.specs.declared.pairs.PairRow.{PairRow}
use Rattle.network_file.specs.Pairs.{pair_rules, rows_of, cells_of, columns_of}
use Rattle.section_tables.proofs.StepLaws.{HoldBefore}
use Rattle.network_file.proofs.pairs.read_pair_rows.Given as goal

abbrev pub invariant-loop-i : goal.invariant-loop-i
invariant-loop-i l = record {
  end : l.i-end ≡ length (arrays_in l.pairs);
  columns : l.columns ≡ columns_of l.neighbour_count;
  few : l.columns ≤ MAX_SIZES;
  sizes : l.size_count ≤ MAX_SIZES;
  rules : HoldBefore (pair_rules l.place l.size_count l.neighbour_count) (arrays_in l.pairs) l.i;
  within : All (λ (row : PairRow). row.neighbour_size < l.columns) (rows_of l.size_count l.neighbour_count (take l.i (arrays_in l.pairs)));
  cells : l.cells.items ≡ cells_of l.size_count l.columns (rows_of l.size_count l.neighbour_count (take l.i (arrays_in l.pairs)));
}
