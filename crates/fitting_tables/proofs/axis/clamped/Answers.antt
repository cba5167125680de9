use Rattle.std.proofs.Common.{◌∙◌, ap}
use Rattle.std.specs.Prelude.{max, get_or}
use Rattle.fitting_tables.proofs.SpanLaws.{clamped_is}
use Rattle.fitting_tables.proofs.axis.clamped.Goals as goal

pub returns : goal.returns
returns c =
    c.max.ensures
    ∙ ap (λ m. max m (get_or c.args.points.now 0 0)) c.min.ensures
    ∙ clamped_is c.args.points.now c.args.ratio c.requires.axis.rising c.requires.some
