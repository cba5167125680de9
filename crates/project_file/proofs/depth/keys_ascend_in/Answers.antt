use Rattle.std.proofs.Common.{◌≤◌, ◌+◌, List, length, take, true, refl, subst, arith}
use Rattle.std.specs.Prelude.{All}
use Rattle.std.proofs.lemmas.List.{take_all}
use Rattle.toml.specs.Data.{Members}
use Rattle.toml.specs.View.{table_view}
use Rattle.file_definitions.proofs.ElementLaws.{take_at}
use Rattle.toml_fields.specs.ArrayItems.{tables_in}
use Rattle.section_tables.proofs.StepLaws.{all_grown}
use Rattle.project_file.specs.Ascending.{KeysAscend}
use Rattle.project_file.proofs.depth.keys_ascend_in.Goals as goal

pub loop-i-preserved : goal.loop-i-preserved
loop-i-preserved c =
    let tables = tables_in c.args.tables.now in
    let table = table_view c.get.result.now in
    record {
      end = c.loop-i.invariant.end;
      all = all_grown KeysAscend true (take c.loop-i.i tables) (take (c.loop-i.i + 1) tables) table (take_at tables c.loop-i.i table c.get.ensures) refl c.loop-i.invariant.all c.keys_ascend.ensures;
    }

pub returns : goal.returns
returns c =
    let tables = tables_in c.args.tables.now in
    let past : length tables ≤ c.loop-i.i = omega arith in
    subst (λ (ts : List Members). All KeysAscend ts) (take_all c.loop-i.i tables past) c.loop-i.invariant.all
