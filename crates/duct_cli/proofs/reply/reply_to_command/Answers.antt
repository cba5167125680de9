use Rattle.std.proofs.Common.{refl, ap, ◌∙◌, map}
use Rattle.command_words.specs.WordsSeen.{file_seen}
use Rattle.duct_cli.proofs.ReplyLaws.{AsksOn-none}
use Rattle.duct_cli.proofs.reply.reply_to_command.Goals as goal

pub returns-in-Err-clause-names : goal.returns-in-Err-clause-names
returns-in-Err-clause-names g c = AsksOn-none _ _ c.requires.asked

pub reply_over-requires : goal.reply_over-requires
reply_over-requires g c κs = (
  c.type_bounds.sync-T,
  (
    c.type_bounds.sync-G,
    (
      (refl, tt),
      (
        c.requires.asked,
        (
          c.requires.few,
          (
            c.requires.fresh,
            (
              c.requires.bounds,
              (ap (map file_seen) c.as_slice.ensures.value ∙ c.in-Ok.ensures),
            ),
          ),
        ),
      ),
    ),
  ),
)
