use Rattle.std.proofs.Common.{◌∙◌, ap, not, rules}
use Rattle.toml.specs.View.{table_view}
use Rattle.toml_fields.specs.ArrayItems.{tables_in}
use Rattle.duct_definitions.specs.declared.design.NetFan.{NetFan}
use Rattle.network_file.specs.FanTables.{fan_table_rules, fan_of}
use Rattle.section_tables.proofs.StepLaws.{read_ok, read_err, own_broken, not_new, in_order, grown}
use Rattle.section_tables.proofs.NameLaws.{added_is_new}
use Rattle.network_file.proofs.PartLaws.{is_new_fan, fan_twice}
use Rattle.network_file.proofs.fans.read_fan_tables.Goals as goal

pub returns-in_err-fan : goal.returns-in_err-fan
returns-in_err-fan c =
    let broken = own_broken fan_table_rules is_new_fan fan_twice (tables_in c.args.tables.now) c.loop-i.i (table_view c.get.result.now) _ c.loop-i.invariant.rules c.get.ensures (read_err _ _ _ c.in_err-fan.ensures) in
    search (rules, broken)

pub returns-then-not-branch : goal.returns-then-not-branch
returns-then-not-branch c =
    let read = read_ok _ _ _ c.in_ok-fan.ensures in
    let old = added_is_new c.in_ok-fan.fan.name _ c.loop-i.names _ _ c.in_ok-add.ensures.value c.loop-i.invariant.names (ap (λ (fan : NetFan). fan.name) read.1) ∙ c.if-not-branch.true in
    let broken = not_new fan_table_rules is_new_fan fan_twice (tables_in c.args.tables.now) c.loop-i.i (table_view c.get.result.now) c.loop-i.invariant.rules c.get.ensures read.0 old in
    search (rules, broken)

pub loop-i-preserved : goal.loop-i-preserved
loop-i-preserved c =
    let read = read_ok _ _ _ c.in_ok-fan.ensures in
    let named = ap (λ (fan : NetFan). fan.name) read.1 in
    let new = added_is_new c.in_ok-fan.fan.name _ c.loop-i.names _ _ c.in_ok-add.ensures.value c.loop-i.invariant.names named ∙ c.if-not-branch.false in
    record {
      end = c.loop-i.invariant.end;
      few = c.loop-i.invariant.few;
      rules = in_order fan_table_rules is_new_fan fan_twice (tables_in c.args.tables.now) c.loop-i.i (table_view c.get.result.now) c.loop-i.invariant.rules c.get.ensures read.0 new;
      names = grown (λ table. (fan_of table).name) (tables_in c.args.tables.now) c.loop-i.i (table_view c.get.result.now) _ _ _ _ c.get.ensures c.in_ok-add.ensures.names c.if-not-branch.false c.loop-i.invariant.names named;
      fans = grown fan_of (tables_in c.args.tables.now) c.loop-i.i (table_view c.get.result.now) _ _ _ _ c.get.ensures c.push.ensures.items (c.is_err.ensures.negation ∙ ap not c.if-is_err.false) c.loop-i.invariant.fans read.1;
    }
