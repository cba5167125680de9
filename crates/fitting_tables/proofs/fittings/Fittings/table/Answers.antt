use Rattle.std.proofs.Common.{◌≡◌, ◌∙◌, true, false, Some, is_some, Contains, subst}
use Rattle.name_index.proofs.PlaceLaws.{no_place}
use Rattle.fitting_tables.specs.Fittings.{Tables}
use Rattle.fitting_tables.proofs.fittings.Fittings.table.Goals as goal

pub returns-in_err-table-clause-none : goal.returns-in_err-table-clause-none
returns-in_err-table-clause-none c =
    subst (λ (tables : Tables). (is_some c.from_residual.result ≡ false → Contains tables.names c.args.name.now → ⊥) × ((Contains tables.names c.args.name.now → ⊥) → is_some c.from_residual.result ≡ false)) c.self.view_is
    (no_place c.from_residual.result c.args.name.now c.self.inside.names (c.from_residual.ensures ∙ c.in_err-table.ensures.value))

pub returns-clause-none : goal.returns-clause-none
returns-clause-none c =
    subst (λ (tables : Tables). (true ≡ false → Contains tables.names c.args.name.now → ⊥) × ((Contains tables.names c.args.name.now → ⊥) → true ≡ false)) c.self.view_is
    (no_place (Some c.in_ok-table.table) c.args.name.now c.self.inside.names c.in_ok-table.ensures.value)
