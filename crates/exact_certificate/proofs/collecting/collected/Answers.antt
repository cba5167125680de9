use Rattle.std.proofs.Common.{◌++◌, List, [], ◌∷◌, ap, sym, ◌∙◌, rules, append_assoc}
use Rattle.std.specs.Vec.Iter.{into_iter_items}
use Rattle.std.proofs.lemmas.List.Elements.{All-push}
use Rattle.pareto_front.specs.declared.point.Point.{Point}
use Rattle.contract_join.specs.SectionFronts.{SectionData, AreExact}
use Rattle.front_certificate.specs.Certificates.{Certificate}
use Rattle.exact_certificate.proofs.Collected.{collected_more}
use Rattle.exact_certificate.proofs.collecting.collected.Goals as goal

pub loop-section-preserved : goal.loop-section-preserved
loop-section-preserved c =
    let at = c.loop-section in
    let section = c.in-Some.section in
    let added = c.in_ok-add_section.ensures.added in
    record {
      total = ap (λ (k : Certificate). k.total) added ∙ at.invariant.total;
      fronts = ap (λ (k : Certificate). k.fronts) added
          ∙ ap (λ (fs : List (List Point)). fs ++ section.fronts) at.invariant.fronts
          ∙ sym (collected_more at.yielded section);
      exact = All-push (λ (entry : SectionData). AreExact entry.net entry.section entry.fronts) at.yielded section
          at.invariant.exact c.in_ok-add_section.ensures.exact;
      all = append_assoc at.yielded (section ∷ []) (into_iter_items c.next.new.self)
          ∙ ap (λ (l : List SectionData). at.yielded ++ l) (sym c.in-Some.ensures.steps.0) ∙ at.invariant.all;
    }
