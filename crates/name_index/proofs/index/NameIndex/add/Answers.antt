use Rattle.std.proofs.Common.{rules, sym, ◌∙◌}
use Rattle.name_index.proofs.PlaceLaws.{is_place_map-push, not_there}
use Rattle.name_index.proofs.index.NameIndex.add.Goals as goal

pub invariant_of-self-in-Ok : goal.invariant_of-self-in-Ok
invariant_of-self-in-Ok c =
    let absent = not_there _ _ (c.self.invariant c.args.name) (sym c.contains_key.ensures ∙ c.if-contains_key.false) in
    search (rules, is_place_map-push, absent)
