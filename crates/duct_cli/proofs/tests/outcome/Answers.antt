use Rattle.std.proofs.Common.{rules, refl}
use Rattle.duct_cli.proofs.tests.outcome.Goals as goal

pub run-status-requires : goal.run-status-requires
run-status-requires g c κs =
    (c.type_bounds.sync-T, (search rules, ((refl, tt), (c.in_ok-files.ensures, (search rules, search rules)))))
