use Rattle.std.proofs.Common.{◌∙◌, ◌<◌, Some, map, length, refl, sym, ap, arith}
use Rattle.toml.specs.View.{view}
use Rattle.toml.specs.declared.value.Value.{Value}
use Rattle.section_tables.proofs.StepLaws.{grown_view, view_at}
use Rattle.project_file.specs.Raised.{with_leak}
use Rattle.project_file.proofs.raising.leaking.Goals as goal

pub loop-i-preserved : goal.loop-i-preserved
loop-i-preserved c =
    let sections = c.args.sections.now in
    let section = c.index-sections-i.result in
    let within : c.loop-i.i < length sections = omega arith in
    let at = view_at view sections c.loop-i.i section within ∙ ap (λ (value : Value). Some (view value)) (sym c.index-sections-i.is) in
    record {
      end = c.loop-i.invariant.end;
      raised = grown_view view with_leak (map view sections) c.loop-i.i (view section) _ _ _ c.in_ok-section.section at c.in_ok-push.ensures.items refl c.loop-i.invariant.raised c.in_ok-section.ensures;
    }
