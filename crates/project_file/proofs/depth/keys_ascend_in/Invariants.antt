use Rattle.std.proofs.Common.{◌≡◌, length, take}
use Rattle.std.specs.Prelude.{All}
use Rattle.toml_fields.specs.ArrayItems.{tables_in}
use Rattle.project_file.specs.Ascending.{KeysAscend}
use Rattle.project_file.proofs.depth.keys_ascend_in.Given as goal

abbrev pub invariant-loop-i : goal.invariant-loop-i
invariant-loop-i l = record {
  end : l.i-end ≡ length (tables_in l.tables);
  all : All KeysAscend (take l.i (tables_in l.tables));
}
