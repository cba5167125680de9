use Rattle.std.proofs.Common.{◌≡◌, length, take}
use Rattle.toml_fields.specs.ArrayItems.{names_in}
use Rattle.network_file.specs.Pairs.{size_name_rules}
use Rattle.section_tables.proofs.StepLaws.{HoldBefore}
use Rattle.network_file.proofs.sizes.read_size_names.Given as goal

abbrev pub invariant-loop-k : goal.invariant-loop-k
invariant-loop-k l = record {
  end : l.k-end ≡ length (names_in l.names);
  rules : HoldBefore (size_name_rules l.place) (names_in l.names) l.k;
  sizes : l.sizes.items ≡ take l.k (names_in l.names);
}
