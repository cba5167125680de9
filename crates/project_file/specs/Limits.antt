-- The table `rules` of a project file: what the project asks of the size of every section.
use Rattle.std.specs.Prelude.{ℕ, ◌≤◌, List, [], ◌∷◌, codes, false, if◌then◌else◌, Option, Some, None, is_some, unwrap_or, IfSome}
use Rattle.toml.specs.Data.{Members, no_members}
use Rattle.duct_units.specs.Options.{◌>>=◌}
use Rattle.duct_units.specs.declared.fault.Reason.TheVariants.{Key, Field}
use Rattle.duct_units.specs.Rules.{Rule, at_file}
use Rattle.file_definitions.specs.Document.{has_only, has_key}
use Rattle.toml_fields.specs.KeyFields.{table_at, optional_number_at, optional_flag_at}
use Rattle.project_file.specs.declared.size_limits.SizeLimits.{SizeLimits}
use Rattle.project_file.specs.declared.limits.TheConstants.{MAX_VELOCITY, MAX_HEIGHT}

-- the keys that the table may have
abbrev pub limits_keys : List (List ℕ)
limits_keys = codes "velocity" ∷ codes "height" ∷ codes "taper" ∷ []

-- what the table says: a limit that is absent is none, and without `taper` a section may be larger than its neighbour;
-- none where a key is of another kind, or out of its bound
abbrev pub limits_of : Members → Option SizeLimits
limits_of table = do
  velocity ← optional_number_at (codes "velocity") 1 MAX_VELOCITY table
  height ← optional_number_at (codes "height") 1 MAX_HEIGHT table
  taper ← optional_flag_at (codes "taper") table
  Some (record { velocity = velocity; height = height; taper = unwrap_or taper false })

-- the table at its key, an empty one where the key is absent; none where something else stands there
abbrev pub limits_table_at : Members → Option Members
limits_table_at doc = if has_key (codes "rules") doc then table_at (codes "rules") doc else Some no_members

-- the table, where the rules below hold
abbrev pub limits_table : Members → Members
limits_table doc = unwrap_or (limits_table_at doc) no_members

-- a table, or nothing; it has no other key; then key by key
abbrev pub limits_rules : Members → List Rule
limits_rules doc =
    at_file (is_some (limits_table_at doc)) Field
    ∷ at_file (has_only limits_keys (limits_table doc)) Key
    ∷ at_file (is_some (limits_of (limits_table doc))) Field ∷ []

-- the limits, where these rules hold
abbrev pub limits_in : Members → SizeLimits
limits_in doc =
    unwrap_or (limits_of (limits_table doc)) (record { velocity = None; height = None; taper = false })

-- a limit of the velocity that is there lies within its bounds
abbrev pub IsVelocity : Option ℕ → Type 0
IsVelocity velocity = IfSome velocity (λ v. (1 ≤ v) × (v ≤ MAX_VELOCITY))

-- the same of the height
abbrev pub IsHeight : Option ℕ → Type 0
IsHeight height = IfSome height (λ h. (1 ≤ h) × (h ≤ MAX_HEIGHT))

-- each limit that is there lies within its bounds
pub record AreLimits (limits : SizeLimits) : Type 0 where
  pub velocity : IsVelocity limits.velocity
  pub height : IsHeight limits.height
