use Rattle.std.proofs.Common.{◌∙◌, sym, map, take, rules, refl, arith, subst, true, false, ◌<◌}
use Rattle.std.proofs.lemmas.List.Elements.{All-push, All-same}
use Rattle.toml.specs.View.{view}
use Rattle.duct_units.specs.Rules.{section_fault}
use Rattle.duct_units.specs.declared.fault.Reason.TheVariants.{Twice, Pair}
use Rattle.file_definitions.proofs.ElementLaws.{each_here, each_past}
use Rattle.toml_fields.specs.ArrayItems.{arrays_in}
use Rattle.network_file.specs.declared.pairs.PairRow.{PairRow}
use Rattle.network_file.specs.Pairs.{pair_rules, rows_of}
use Rattle.network_file.proofs.PairLaws.{no_row, placed, looked, no_rows, rows_of-next, put}
use Rattle.network_file.proofs.pairs.read_pair_rows.Goals as goal

pub loop-i-init : goal.loop-i-init
loop-i-init c = record {
  end = c.len-i-end.ensures;
  columns = c.columns_of-columns.ensures.value;
  few = c.columns_of-columns.ensures.few;
  sizes = c.requires.sizes;
  rules = refl;
  within = λ k d less. absurd (omega arith);
  cells = c.in_ok-cells.ensures ∙ no_rows c.args.size_count c.columns_of-columns.result;
}

pub returns-in_default : goal.returns-in_default
returns-in_default c =
    let given = arrays_in c.args.pairs.now in
    let broken = c.loop-i.invariant.rules
    ∙ each_here (pair_rules c.args.place c.args.size_count c.args.neighbour_count) given c.loop-i.i (map view c.get.result.now) (section_fault c.args.place Pair) c.get.ensures
    (no_row c.args.place (rows_of c.args.size_count c.args.neighbour_count (take c.loop-i.i given)) _ c.read_row.result c.read_row.ensures.value c.in_default.is) in
    search (rules, broken)

pub returns-then-is_some : goal.returns-then-is_some
returns-then-is_some c =
    let given = arrays_in c.args.pairs.now in
    let rows = rows_of c.args.size_count c.args.neighbour_count (take c.loop-i.i given) in
    let old = looked c.args.size_count c.columns_of-columns.result rows c.in-Some.row c.loop-i.cells.items c.index.result.now c.loop-i.invariant.cells c.in-Some.ensures.within.0
    (subst (λ n. c.in-Some.row.neighbour_size < n) (sym c.loop-i.invariant.columns) c.in-Some.ensures.within.1) c.loop-i.invariant.within c.index.ensures ∙ sym c.is_some.ensures ∙ c.if-is_some.true in
    let broken = c.loop-i.invariant.rules
    ∙ each_here (pair_rules c.args.place c.args.size_count c.args.neighbour_count) given c.loop-i.i (map view c.get.result.now) (section_fault c.args.place Twice) c.get.ensures
    (placed c.args.place rows _ c.read_row.result c.in-Some.row true c.read_row.ensures.value c.in-Some.is old) in
    search (rules, broken)

pub loop-i-preserved : goal.loop-i-preserved
loop-i-preserved c =
    let given = arrays_in c.args.pairs.now in
    let rows = rows_of c.args.size_count c.args.neighbour_count (take c.loop-i.i given) in
    let in_column = subst (λ n. c.in-Some.row.neighbour_size < n) (sym c.loop-i.invariant.columns) c.in-Some.ensures.within.1 in
    let new = looked c.args.size_count c.columns_of-columns.result rows c.in-Some.row c.loop-i.cells.items c.index.result.now c.loop-i.invariant.cells c.in-Some.ensures.within.0 in_column c.loop-i.invariant.within c.index.ensures ∙ sym c.is_some.ensures ∙ c.if-is_some.false in
    let next = rows_of-next c.args.size_count c.args.neighbour_count given c.loop-i.i (map view c.get.result.now) c.in-Some.row c.get.ensures (sym c.read_row.ensures.value ∙ c.in-Some.is) in
    record {
      end = c.loop-i.invariant.end;
      columns = c.loop-i.invariant.columns;
      few = c.loop-i.invariant.few;
      sizes = c.loop-i.invariant.sizes;
      rules = c.loop-i.invariant.rules
          ∙ each_past (pair_rules c.args.place c.args.size_count c.args.neighbour_count) given c.loop-i.i (map view c.get.result.now) c.get.ensures
          (placed c.args.place rows _ c.read_row.result c.in-Some.row false c.read_row.ensures.value c.in-Some.is new);
      within = All-same (λ (row : PairRow). row.neighbour_size < c.columns_of-columns.result) _ _ next (All-push (λ (row : PairRow). row.neighbour_size < c.columns_of-columns.result) rows c.in-Some.row c.loop-i.invariant.within in_column);
      cells = put c.args.size_count c.columns_of-columns.result rows _ c.in-Some.row c.loop-i.cells.items c.loop-i.invariant.cells next in_column c.loop-i.invariant.within new;
    }
