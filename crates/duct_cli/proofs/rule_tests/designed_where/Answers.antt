use Rattle.std.proofs.Common.{rules, refl}
use Rattle.duct_cli.proofs.rule_tests.designed_where.Goals as goal

pub run-status-requires : goal.run-status-requires
run-status-requires g c κs =
    (c.type_bounds.sync-T, (search rules, ((refl, tt), (c.in_ok-files.ensures, (c.requires.few, c.requires.fresh)))))
