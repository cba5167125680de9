-- What sections carry as far as a bound: beyond it a flow is refused, however great it is.
--   known t air s          what section s carries, or one above the bound where that is more
--   AreKnown t air i numbers   one number for each section; from section i on what is known of each
use Rattle.std.specs.Prelude.{◌≡◌, ℕ, ◌+◌, ◌<◌, ◌≤◌, min, List, length, slice_index}
use Rattle.duct_definitions.specs.declared.airflow.TheConstants.{MAX_FLOW}
use Rattle.duct_definitions.specs.Tree.{Tree, section_count}
use Rattle.duct_definitions.specs.Airflow.{Airflows, flow}

-- what is known of a flow: the flow, or one above the bound where it is more
abbrev pub known : ℕ → ℕ
known q = min q (MAX_FLOW + 1)

-- one number for each section, and from section i on what is known of what each carries
pub record AreKnown (t : Tree) (air : Airflows) (i : ℕ) (numbers : List ℕ) : Type 0 where
  pub count : length numbers ≡ section_count t
  pub each : (s : ℕ) → i ≤ s → s < section_count t → slice_index numbers s ≡ known (flow t air s)
