use Rattle.std.proofs.Common.{◌∙◌, sym}
use Rattle.csv_fields.proofs.RowLaws.{fields_behind-next}
use Rattle.csv_fields.proofs.rows.Rows.has_fields.Goals as goal

pub returns-then-not-has_field : goal.returns-then-not-has_field
returns-then-not-has_field c =
    let same = sym c.columns.ensures ∙ c.if-columns-fields.false in
    sym (c.loop-i.invariant ∙ fields_behind-next _ _ _ _ _ c.loop-i-test.true same (sym c.has_field.ensures ∙ c.if-not-has_field.true))

pub loop-i-preserved : goal.loop-i-preserved
loop-i-preserved c =
    let same = sym c.columns.ensures ∙ c.if-columns-fields.false in
    c.loop-i.invariant ∙ fields_behind-next _ _ _ _ _ c.loop-i-test.true same (sym c.has_field.ensures ∙ c.if-not-has_field.false)
