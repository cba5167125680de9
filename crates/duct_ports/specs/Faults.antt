-- When a fault may be answered, from the count of faults before and after the call.
use Rattle.std.specs.Prelude.{◌≡◌, ℕ, ◌+◌, ◌-◌, ◌^◌, ◌<◌, ◌⊎◌, Bool, min, if◌then◌else◌}

-- the count rose in this call, or stands at u64::MAX
abbrev pub Rose : ℕ → ℕ → Type 0
Rose before now = (before < now) ⊎ (now ≡ 2 ^ 64 - 1)

-- one more, up to u64::MAX
abbrev pub one_more : ℕ → ℕ
one_more count = min (count + 1) (2 ^ 64 - 1)

-- the count of faults after a call, by whether it succeeded
abbrev pub faults_after : ℕ → Bool → ℕ
faults_after faults ok = if ok then faults else one_more faults
