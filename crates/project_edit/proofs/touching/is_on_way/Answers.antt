use Rattle.std.proofs.Common.{◌≡◌, ◌<◌, ◌||◌, ℕ, Option, false, IfSome, ap, ◌∙◌, sym, subst}
use Rattle.std.specs.Prelude.{◌==◌}
use Rattle.std.proofs.lemmas.Bool.{ne_eqb}
use Rattle.duct_definitions.specs.Tree.{section_count, neighbour}
use Rattle.project_edit.proofs.Ways.{next-within, passes_from, passes-first}
use Rattle.project_edit.proofs.touching.is_on_way.Goals as goal

pub loop-at-preserved : goal.loop-at-preserved
loop-at-preserved c =
    let t = c.args.tree.now in
    let s = c.args.s in
    let v = c.loop-at.invariant in
    let within : c.in-Some.y < section_count t = subst (λ (o : Option ℕ). IfSome o (λ y. y < section_count t)) c.in-Some.is v.within in
    let other : (c.in-Some.y == s) ≡ false = ne_eqb c.in-Some.y s c.if-y-s.false in
    record {
      rest = v.rest ∙ ap (passes_from t s) c.in-Some.is ∙ passes-first t s c.in-Some.y c.tree_is_valid.ensures within ∙ ap (λ b. b || passes_from t s (neighbour t c.in-Some.y)) other ∙ ap (passes_from t s) (sym c.neighbour-at.ensures.value);
      within = subst (λ (o : Option ℕ). IfSome o (λ y. y < section_count t)) (sym c.neighbour-at.ensures.value) (next-within t c.in-Some.y c.tree_is_valid.ensures within);
    }
