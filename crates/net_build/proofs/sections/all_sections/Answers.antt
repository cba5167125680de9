use Rattle.std.proofs.Common.{◌++◌, ◌∷◌, [], map, All, ap, ◌∙◌, sym, subst, arith, rules}
use Rattle.std.specs.List.{range_with_len}
use Rattle.std.proofs.lemmas.List.Elements.{All-push}
use Rattle.std.proofs.lemmas.List.FromFn.{map-range_with_len_more}
use Rattle.duct_units.specs.Rules.{Fails, first_broken, unless_refused}
use Rattle.duct_units.proofs.RuleLaws.{broken_past}
use Rattle.duct_definitions.specs.Tree.{section_count, sections}
use Rattle.net_build.specs.Asking.{IsOpen}
use Rattle.net_build.specs.Joining.{joining_rules, rules_of_section}
use Rattle.net_build.specs.Sections.{section_sizes}
use Rattle.net_build.proofs.JoinLaws.{accepted, refused-here}
use Rattle.net_build.proofs.sections.all_sections.Goals as goal

pub returns-in_err-section_sizes-clause-value : goal.returns-in_err-section_sizes-clause-value
returns-in_err-section_sizes-clause-value c =
    let n = c.len-s-end.ensures.value in
    let fails : Fails c.in_err-section_sizes.field-0.0 (unless_refused (first_broken (joining_rules c.args.project.now c.args.catalogues.now)) (map (section_sizes c.args.project.now c.args.catalogues.now) (sections c.args.project.now.tree))) =
    refused-here (rules_of_section c.args.project.now c.args.catalogues.now) c.loop-s.s (section_count c.args.project.now.tree) _ c.in_err-section_sizes.field-0.0 (section_sizes c.args.project.now c.args.catalogues.now c.loop-s.s) _ (omega arith)
    c.loop-s.invariant.rest c.in_err-section_sizes.ensures.value in
    search rules

pub loop-s-preserved : goal.loop-s-preserved
loop-s-preserved c =
    let n = c.len-s-end.ensures.value in
    let v = c.loop-s.invariant in
    let e = c.in_ok-section_sizes.ensures in
    let found = accepted (first_broken (rules_of_section c.args.project.now c.args.catalogues.now c.loop-s.s)) (section_sizes c.args.project.now c.args.catalogues.now c.loop-s.s) c.in_ok-section_sizes.field-0 e.value in
    record {
      sections =
          c.in_ok-push.ensures.items
          ∙ ap (λ xs. xs ++ c.in_ok-section_sizes.field-0 ∷ []) v.sections
          ∙ ap (λ x. map (section_sizes c.args.project.now c.args.catalogues.now) (range_with_len 0 c.loop-s.s) ++ x ∷ []) (sym found.1)
          ∙ sym (map-range_with_len_more (section_sizes c.args.project.now c.args.catalogues.now) 0 c.loop-s.s c.loop-s.s (omega arith));
      bounds = subst (All (IsOpen c.args.catalogues.now)) (sym c.in_ok-push.ensures.items) (All-push (IsOpen c.args.catalogues.now) c.loop-s.sections.items c.in_ok-section_sizes.field-0 v.bounds e.open);
      rest = sym (broken_past (rules_of_section c.args.project.now c.args.catalogues.now) c.loop-s.s (section_count c.args.project.now.tree) (omega arith) found.0) ∙ v.rest;
    }
