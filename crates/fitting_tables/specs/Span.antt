-- Where a ratio lies among breakpoints.
--   least, greatest      the least and the greatest of the breakpoints; 0 where there is none
--   clamped ratio bs     the ratio, or the least or greatest breakpoint where it lies outside
--   lower_of x bs        the greatest breakpoint that isn't above x
--   upper_of x bs        the least breakpoint that isn't below x
--   span_of ratio bs     both of the clamped ratio, with their weights over the width
--   IsSpan               the weights add up to the width, which is above 0
use Rattle.std.specs.Prelude.{◌≡◌, ℕ, ◌+◌, ◌-◌, ◌≤◌, ◌==◌, nat_le, min, max, List, [], ◌∷◌, filter, if◌then◌else◌}
use Rattle.fitting_tables.specs.declared.limits.TheConstants.{MAX_RATIO}
use Rattle.fitting_tables.specs.declared.axis.Span.{Span}

-- the least of the breakpoints; 0 where there is none
abbrev pub least : List ℕ → ℕ
least [] = 0
least (b ∷ []) = b
least (b ∷ c ∷ bs) = min b (least (c ∷ bs))

-- the greatest of the breakpoints; 0 where there is none
abbrev pub greatest : List ℕ → ℕ
greatest [] = 0
greatest (b ∷ bs) = max b (greatest bs)

-- the ratio, or the least or the greatest breakpoint where it lies outside
abbrev pub clamped : ℕ → List ℕ → ℕ
clamped ratio bs = max (min ratio (greatest bs)) (least bs)

-- the greatest breakpoint that isn't above x
abbrev pub lower_of : ℕ → List ℕ → ℕ
lower_of x bs = greatest (filter (λ b. nat_le b x) bs)

-- the least breakpoint that isn't below x
abbrev pub upper_of : ℕ → List ℕ → ℕ
upper_of x bs = least (filter (λ b. nat_le x b) bs)

-- between two breakpoints each weighs as much as x is away from the other; on one breakpoint it weighs all
abbrev pub span_between : ℕ → ℕ → ℕ → Span
span_between x lower upper =
    if lower == upper then record { lower = lower; upper = upper; lower_weight = 1; upper_weight = 0; width = 1 }
    else record {
      lower = lower;
      upper = upper;
      lower_weight = upper - x;
      upper_weight = x - lower;
      width = upper - lower;
    }

-- the breakpoints on either side of the clamped ratio
abbrev pub span_of : ℕ → List ℕ → Span
span_of ratio bs = let x = clamped ratio bs in span_between x (lower_of x bs) (upper_of x bs)

-- the weights add up to the width, which is above 0
pub record IsSpan (span : Span) : Type 0 where
  pub sum : span.lower_weight + span.upper_weight ≡ span.width
  pub width : (1 ≤ span.width) × (span.width ≤ MAX_RATIO)
