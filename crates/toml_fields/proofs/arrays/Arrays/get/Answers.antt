use Rattle.std.proofs.Common.{sym, ◌∙◌, ap, subst, map, option_map, rules}
use Rattle.std.specs.Prelude.{IsSome}
use Rattle.toml.specs.View.{view, table_view}
use Rattle.toml.specs.Data.{as_table}
use Rattle.file_definitions.specs.Document.{name_in, items_of}
use Rattle.toml_fields.proofs.KindLaws.{held-at, within_values, is_of_kind, some_of_map}
use Rattle.toml_fields.proofs.arrays.Arrays.get.Goals as goal

pub offset_bounds-self-place : goal.offset_bounds-self-place
offset_bounds-self-place c =
    let within = within_values items_of c.args.self.now.values.now c.args.place c.args.self.now.arrays c.requires in
    search (rules, within)

pub bounds-self-place : goal.bounds-self-place
bounds-self-place c = within_values items_of c.args.self.now.values.now c.args.place c.args.self.now.arrays c.requires

pub unwrap-requires : goal.unwrap-requires
unwrap-requires c =
    let there = is_of_kind items_of c.args.self.now.values.now c.args.place c.index-self-place.result c.args.self.now.arrays c.requires in
    some_of_map (λ items. map view items.now) c.items_of.result _ c.items_of.ensures there

pub returns : goal.returns
returns c =
    let within = within_values items_of c.args.self.now.values.now c.args.place c.args.self.now.arrays c.requires in
    sym (held-at items_of c.args.self.now.values.now c.args.place c.index-self-place.result c.args.self.now.arrays within) ∙ sym c.items_of.ensures ∙ ap (option_map (λ items. map view items.now)) c.unwrap.ensures
