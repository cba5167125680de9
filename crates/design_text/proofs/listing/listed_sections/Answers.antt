use Rattle.std.proofs.Common.{◌∙◌, ◌∷◌, [], ◌++◌, ap, sym, map, arith}
use Rattle.std.specs.List.{range_with_len}
use Rattle.std.proofs.lemmas.List.FromFn.{map-range_with_len_more}
use Rattle.duct_definitions.specs.declared.listed.ListedSection.{ListedSection}
use Rattle.duct_definitions.specs.DesignText.{listed_section}
use Rattle.design_text.proofs.listing.listed_sections.Goals as goal

pub loop-s-preserved : goal.loop-s-preserved
loop-s-preserved c =
    let field = listed_section c.args.net.now c.args.d.now in
    (c.in_ok-push.ensures {u = tt}).items
    ∙ ap (λ lines. lines ++ c.listed_section.result ∷ []) c.loop-s.invariant
    ∙ ap (λ (line : ListedSection). map field (range_with_len 0 c.loop-s.s) ++ line ∷ []) c.listed_section.ensures
    ∙ sym (map-range_with_len_more field 0 c.loop-s.s c.loop-s.s (omega arith))
