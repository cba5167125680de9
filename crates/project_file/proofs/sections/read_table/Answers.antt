use Rattle.std.proofs.Common.{◌∙◌, sym}
use Rattle.project_file.proofs.PartLaws.{fan_free}
use Rattle.project_file.proofs.sections.read_table.Goals as goal

pub returns-clause-bounds : goal.returns-clause-bounds
returns-clause-bounds c = record {
  table = c.in-Some.ensures.bounds;
  junction = fan_free _ _ (sym c.is_junction_at_fan.ensures ∙ c.if-is_junction_at_fan.false);
}
