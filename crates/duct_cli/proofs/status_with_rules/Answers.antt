use Rattle.std.proofs.Common.{rules, refl, ap, arith, length}
use Rattle.duct_cli.proofs.status_with_rules.Goals as goal

pub status_of-requires : goal.status_of-requires
status_of-requires g c κs =
    let none = ap length c.new-rules.ensures.items in
    let one = c.in_ok-add_rule.ensures.length in
    let two = c.in_ok-add_rule-2.ensures.length in
    let three = c.in_ok-add_rule-3.ensures.length in
    let four = c.in_ok-add_rule-4.ensures.length in
    (c.type_bounds.sync-T, (search rules, ((refl, tt), (c.new-files.ensures.names, (omega arith, c.in_ok-add_rule-4.ensures.fresh)))))
