use Rattle.std.proofs.Common.{◌∙◌}
use Rattle.friction_maker.proofs.TableLaws.{made_table-more}
use Rattle.friction_maker.proofs.making.made_table.Goals as goal

pub loop-j-preserved : goal.loop-j-preserved
loop-j-preserved c =
    c.in_ok-push.ensures.items
    ∙ made_table-more c.args.duct c.args.air c.args.flow c.loop-j.j c.loop-j.table.items c.made_at.result c.loop-j.invariant c.made_at.ensures
