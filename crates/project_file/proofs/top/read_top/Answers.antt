use Rattle.std.proofs.Common.{sym, rules}
use Rattle.toml.specs.View.{table_view}
use Rattle.duct_units.specs.declared.fault.ReadError.TheVariants.{Refused}
use Rattle.toml_fields.specs.ArrayItems.{tables_in}
use Rattle.section_tables.proofs.StepLaws.{read_err, read_ok}
use Rattle.project_file.proofs.OrderLaws.{at_head, at_energy, at_limits, at_array, no_array, top_is, top_refused}
use Rattle.project_file.proofs.top.read_top.Goals as goal

pub returns-in_err-head-clause-value : goal.returns-in_err-head-clause-value
returns-in_err-head-clause-value c =
    let fault = c.in_err-head.field-0.0 in
    let doc = table_view c.args.document.now in
    let refused = top_refused doc fault (at_head (Refused fault) doc (read_err _ _ fault c.in_err-head.ensures.value)) in
    search (rules, refused)

pub returns-in_err-energy-clause-value : goal.returns-in_err-energy-clause-value
returns-in_err-energy-clause-value c =
    let fault = c.in_err-energy.field-0.0 in
    let doc = table_view c.args.document.now in
    let head = read_ok _ _ c.in_ok-head.head c.in_ok-head.ensures.value in
    let refused = top_refused doc fault (at_energy (Refused fault) doc head.0 (read_err _ _ fault c.in_err-energy.ensures.value)) in
    search (rules, refused)

pub returns-in_err-limits-clause-value : goal.returns-in_err-limits-clause-value
returns-in_err-limits-clause-value c =
    let fault = c.in_err-limits.field-0.0 in
    let doc = table_view c.args.document.now in
    let head = read_ok _ _ c.in_ok-head.head c.in_ok-head.ensures.value in
    let energy = read_ok _ _ c.in_ok-energy.energy c.in_ok-energy.ensures.value in
    let refused = top_refused doc fault (at_limits (Refused fault) doc head.0 energy.0 (read_err _ _ fault c.in_err-limits.ensures.value)) in
    search (rules, refused)

pub returns-in_default-clause-value : goal.returns-in_default-clause-value
returns-in_default-clause-value c =
    let doc = table_view c.args.document.now in
    let head = read_ok _ _ c.in_ok-head.head c.in_ok-head.ensures.value in
    let energy = read_ok _ _ c.in_ok-energy.energy c.in_ok-energy.ensures.value in
    let limits = read_ok _ _ c.in_ok-limits.limits c.in_ok-limits.ensures.value in
    let refused = top_refused doc _ (at_array (Refused _) doc head.0 energy.0 limits.0 (no_array doc (sym c.in_default.ensures))) in
    search (rules, refused)

pub returns-clause-value : goal.returns-clause-value
returns-clause-value c =
    let doc = table_view c.args.document.now in
    let head = read_ok _ _ c.in_ok-head.head c.in_ok-head.ensures.value in
    let energy = read_ok _ _ c.in_ok-energy.energy c.in_ok-energy.ensures.value in
    let limits = read_ok _ _ c.in_ok-limits.limits c.in_ok-limits.ensures.value in
    top_is doc c.in_ok-head.head c.in_ok-energy.energy c.in_ok-limits.limits (tables_in c.in-Some.sections) head energy limits c.in-Some.ensures
