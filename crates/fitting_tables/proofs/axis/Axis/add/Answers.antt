use Rattle.std.proofs.Common.{◌≡◌, ◌∙◌, ◌≤◌, ℕ, List, length, sym, ap, subst, true, false}
use Rattle.fitting_tables.specs.declared.limits.TheConstants.{MAX_BREAKPOINTS}
use Rattle.fitting_tables.specs.Breakpoints.{IsAxis, Parts, has_at, with_breakpoint}
use Rattle.fitting_tables.proofs.AxisLaws.{with_breakpoint-place, IsAxis-with}
use Rattle.fitting_tables.proofs.axis.Axis.add.Goals as goal

pub returns-in_ok-insert-clause-ok : goal.returns-in_ok-insert-clause-ok
returns-in_ok-insert-clause-ok c =
    let parts = subst (λ (bs : List ℕ). Parts c.args.x bs c.first_not_below-place.result) c.deref.ensures.value c.first_not_below-place.ensures.parts in
    let within = subst (λ (bs : List ℕ). c.first_not_below-place.result ≤ length bs) c.deref.ensures.value c.first_not_below-place.ensures.within in
    let at : false ≡ has_at c.self.inside.points.items c.first_not_below-place.result c.args.x =
    sym c.if-not-has_at.true ∙ c.has_at.ensures ∙ ap (λ (bs : List ℕ). has_at bs c.first_not_below-place.result c.args.x) c.deref-2.ensures.value in
    c.in_ok-insert.ensures.items
    ∙ sym (with_breakpoint-place c.args.x c.self.inside.points.items c.first_not_below-place.result false parts within at)
    ∙ ap (with_breakpoint c.args.x) c.self.view_is

pub invariant_of-self : goal.invariant_of-self
invariant_of-self c =
    let few = subst (λ (bs : List ℕ). length (with_breakpoint c.args.x bs) ≤ MAX_BREAKPOINTS) (sym c.self.view_is) c.requires.room in
    let same : c.insert.new.self.items ≡ with_breakpoint c.args.x c.self.inside.points.items =
    returns-in_ok-insert-clause-ok c ∙ ap (with_breakpoint c.args.x) (sym c.self.view_is) in
    subst IsAxis (sym same) (IsAxis-with c.args.x c.self.inside.points.items c.self.invariant c.requires.bound few)

pub returns-else-not-has_at-clause-ok : goal.returns-else-not-has_at-clause-ok
returns-else-not-has_at-clause-ok c =
    let parts = subst (λ (bs : List ℕ). Parts c.args.x bs c.first_not_below-place.result) (c.deref.ensures.value ∙ c.self.view_is) c.first_not_below-place.ensures.parts in
    let within = subst (λ (bs : List ℕ). c.first_not_below-place.result ≤ length bs) (c.deref.ensures.value ∙ c.self.view_is) c.first_not_below-place.ensures.within in
    let at : true ≡ has_at c.args.self.now c.first_not_below-place.result c.args.x =
    sym c.if-not-has_at.false ∙ c.has_at.ensures ∙ ap (λ (bs : List ℕ). has_at bs c.first_not_below-place.result c.args.x) (c.deref-2.ensures.value ∙ c.self.view_is) in
    sym (with_breakpoint-place c.args.x c.args.self.now c.first_not_below-place.result true parts within at)
