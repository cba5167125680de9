-- The sections so far, counted.
use Rattle.std.proofs.Common.{◌≡◌, ℕ, ◌+◌, ◌<◌, ◌≤◌, List, length, take, get_or, ap, ◌∙◌, sym, arith}
use Rattle.std.specs.List.{zip}
use Rattle.std.proofs.lemmas.List.{take_more, take_all}
use Rattle.std.proofs.lemmas.Slice.Zip.{get_or-zip, length-zip}
use Rattle.duct_definitions.specs.declared.listed.ListedSection.{ListedSection}
use Rattle.material_takeoff.specs.declared.record.SizeUse.{SizeUse}
use Rattle.material_takeoff.specs.Uses.{uses}
use Rattle.material_takeoff.specs.Counting.{section_use, with_use}
use Rattle.material_takeoff.proofs.OneMore.{uses-push}

-- the next section is counted
pub counted_more : (sections : List ListedSection) (lengths : List ℕ) (s : ℕ) (section : ListedSection) (more : SizeUse) (us after : List SizeUse)
    → length sections ≡ length lengths → s < length sections → section ≡ get_or sections s section
    → more ≡ section_use (section, get_or lengths s 0) → us ≡ uses (take s (zip sections lengths)) → after ≡ with_use us more
    → after ≡ uses (take (s + 1) (zip sections lengths))
counted_more sections lengths s section more us after same less read is so_far added =
    let pairs = length-zip sections lengths in
    let next = get_or-zip sections lengths s (section, 0) less (omega arith) in
    let one : (section, get_or lengths s 0) ≡ get_or (zip sections lengths) s (section, 0) = ap (λ x. (x, get_or lengths s 0)) read ∙ sym next in
    let step = take_more (zip sections lengths) s (section, 0) (omega arith) in
    added ∙ ap (with_use us) (is ∙ ap section_use one)
    ∙ ap (λ us. with_use us (section_use (get_or (zip sections lengths) s (section, 0)))) so_far
    ∙ sym (uses-push (take s (zip sections lengths)) (get_or (zip sections lengths) s (section, 0)))
    ∙ sym (ap uses step)

-- all are counted
pub counted_all : (sections : List ListedSection) (lengths : List ℕ) (s : ℕ) (us : List SizeUse) → length sections ≡ length lengths → length sections ≤ s
    → us ≡ uses (take s (zip sections lengths)) → us ≡ uses (zip sections lengths)
counted_all sections lengths s us same all so_far = so_far ∙ ap uses (let pairs = length-zip sections lengths in take_all s (zip sections lengths) (omega arith))
