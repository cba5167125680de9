-- Ducts without leaks.
--   IsTight t air   no section leaks
use Rattle.std.specs.Prelude.{◌≡◌, ℕ, ◌<◌}
use Rattle.duct_definitions.specs.Airflow.{Airflows, leak_at}
use Rattle.duct_definitions.specs.Tree.{Tree, section_count}

-- no section leaks
abbrev pub IsTight : Tree → Airflows → Type 0
IsTight t air = (s : ℕ) → s < section_count t → leak_at air s ≡ 0
