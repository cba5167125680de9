-- The coefficient on a breakpoint of each ratio.
use Rattle.std.proofs.Common.{◌≡◌, ℕ, ◌-◌, ℤ, pos, ◌+ℤ◌, ◌*ℤ◌, List, Contains, cond, Option, Some, unwrap_or, slice_get, refl, sym, ap, ◌∙◌, arith}
use Rattle.std.proofs.lemmas.Int.{ints}
use Rattle.std.proofs.lemmas.Bool.{eq-eqb}
use Rattle.std.proofs.lemmas.Option.{slice_get-get_or}
use Rattle.duct_units.specs.Ceiling.{ceiling}
use Rattle.duct_units.proofs.CeilingLaws.{ceiling_alone}
use Rattle.fitting_tables.specs.declared.axis.Span.{Span}
use Rattle.fitting_tables.specs.Cells.{areas_of, flows_of, value_at}
use Rattle.fitting_tables.specs.Span.{lower_of, upper_of, span_between, span_of}
use Rattle.fitting_tables.specs.Coefficient.{HoldsOnPairs, between_corners}
use Rattle.fitting_tables.proofs.SpanLaws.{clamped-on, lower-on, upper-on}

-- a breakpoint weighs all
abbrev pub whole : ℕ → Span
whole b = record { lower = b; upper = b; lower_weight = 1; upper_weight = 0; width = 1 }

span-on : (bs : List ℕ) (b : ℕ) → Contains bs b → span_of b bs ≡ whole b
span-on bs b (k, inside, here) =
    let at : slice_get bs k ≡ Some b = slice_get-get_or bs k b inside ∙ ap (λ c. Some c) here in
    ap (λ x. span_between x (lower_of x bs) (upper_of x bs)) (clamped-on bs b k at)
    ∙ ap (λ c. span_between b c (upper_of b bs)) (lower-on bs b k at)
    ∙ ap (span_between b b) (upper-on bs b k at)
    ∙ ap (λ t. cond t (whole b) (record { lower = b; upper = b; lower_weight = b - b; upper_weight = b - b; width = b - b })) (eq-eqb b b refl)

-- a value that weighs all is what is rounded up
at_corner : (v : ℤ) → ceiling ((v *ℤ pos 1 +ℤ v *ℤ pos 0) +ℤ (v *ℤ pos 0 +ℤ v *ℤ pos 0)) (pos 1) ≡ v
at_corner v =
    let sum : (v *ℤ pos 1 +ℤ v *ℤ pos 0) +ℤ (v *ℤ pos 0 +ℤ v *ℤ pos 0) ≡ v = omega (arith, ints) in
    ap (λ n. ceiling n (pos 1)) sum
    ∙ sym (ceiling_alone v (pos 1) v (omega (arith, ints)) (record { enough = omega (arith, ints); least = λ p enough. omega (arith, ints) }))

pub holds_on_pairs : HoldsOnPairs
holds_on_pairs cells area flow value is_area is_flow at =
    ap (λ (s : Span). between_corners cells s (span_of flow (flows_of cells))) (span-on (areas_of cells) area is_area)
    ∙ ap (λ (s : Span). between_corners cells (whole area) s) (span-on (flows_of cells) flow is_flow)
    ∙ at_corner (unwrap_or (value_at area flow cells) (pos 0))
    ∙ ap (λ (o : Option ℤ). unwrap_or o (pos 0)) at
