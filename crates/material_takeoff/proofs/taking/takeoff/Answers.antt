use Rattle.std.proofs.Common.{◌≡◌, ◌+◌, length, map, refl, sym, ap, ◌∙◌, subst}
use Rattle.std.specs.List.{zip}
use Rattle.std.proofs.lemmas.List.{length-map}
use Rattle.duct_definitions.specs.declared.listed.ListedSection.{ListedSection}
use Rattle.material_takeoff.specs.Uses.{uses, fans_cost, AddsUp}
use Rattle.material_takeoff.specs.Agreement.{section_names}
use Rattle.material_takeoff.proofs.Sums.{adds_up}
use Rattle.material_takeoff.proofs.taking.takeoff.Goals as goal

-- what was counted adds up
counted : (c : goal.In_ok-sizes) → AddsUp c.args.lengths.now c.args.listed.now (record { sizes = c.in_ok-sizes.sizes })
counted c =
    let l = c.args.listed.now in
    let lengths = c.args.lengths.now in
    let named : c.args.names.now ≡ section_names l =
    sym c.as_slice.ensures ∙ c.in_default.ensures.none.0 refl ∙ ap (map (λ (s : ListedSection). s.name)) c.as_slice-2.ensures in
    let same : length l.sections ≡ length lengths =
    sym (length-map l.sections (λ s. s.name)) ∙ ap length (sym named) ∙ c.requires.same_length in
    let sizes : c.in_ok-sizes.sizes ≡ uses (zip l.sections lengths) =
    c.in_ok-sizes.ensures ∙ ap (λ s. uses (zip s c.as_slice-4.result.now)) c.as_slice-3.ensures
    ∙ ap (λ n. uses (zip l.sections n)) c.as_slice-4.ensures in
    subst (λ sizes. AddsUp lengths l (record { sizes = sizes })) (sym sizes) (adds_up lengths l same)

pub returns-clause-sums : goal.returns-clause-sums
returns-clause-sums c = counted c

pub returns-clause-cost : goal.returns-clause-cost
returns-clause-cost c = ap (λ n. n + fans_cost c.args.listed.now) (counted c).total_price ∙ sym (c.is_sum.ensures.0 c.if-not-is_sum.false)
