use Rattle.std.proofs.Common.{◌≡◌, ℕ, ◌<◌, ◌-◌, ◌∷◌, [], length, refl, ap, sym, ◌∙◌, arith, Some, None, slice_index, subst}
use Rattle.duct_definitions.specs.Tree.{section_count}
use Rattle.schedule_core.specs.declared.events.Event.TheVariants.{Finish}
use Rattle.schedule_core.specs.Schedule.{added}
use Rattle.child_counter.specs.Passes.{finished_view}
use Rattle.child_counter.specs.Steps.{IsFinish, with_child, section_at}
use Rattle.child_counter.proofs.Stepping.{tells, fan-step, laid-is}
use Rattle.child_counter.proofs.table.Inner.finish_at_fan.Goals as goal

pub fetch_sub-requires : goal.fetch_sub-requires
fetch_sub-requires c =
    let v = c.lay.new.pass.me.0 in
    let held = c.lay.new.pass.me.1 in
    let same = c.lay.ensures.view in
    let net = c.args.self.now.table.shared.key.net in
    let passes = c.args.self.now.table.shared.key.passes in
    let place = c.lay.new.pass.id in
    let s : ℕ = c.args.s in
    let word : ℕ = c.word_count-roots.result - 1 in
    let o = c.args.outcome in
    let last : section_count net.tree ≡ word = (let a = c.args.self.now.counted in let b = c.word_count-roots.ensures
    in omega arith) in
    let mine : v.turn ≡ Some s = ap (λ x. x.turn) same ∙ c.requires.turn in
    let part : 0 < v.parts = subst (λ x. 0 < x.parts) (sym same) c.requires.part in
    let holds : held ≡ with_child v.out ((s, Some o) ∷ []) = c.lay.ensures.held
    ∙ ap (λ x. with_child x.out ((s, Some o) ∷ [])) (sym same) in (
      c.lay.ensures.belongs ∙ c.requires.belongs,
      (let a = c.args.self.now.counted in let b = c.word_count-roots.ensures in omega arith),
      λ t h long at small.
          (let found : ℕ = slice_index t.words word in
          let w = finished_view (Some o) None v in
          let after = added h.0 (Finish s) in
          let len : length t.homes ≡ section_count net.tree = (let a = c.args.self.now.slotted in omega arith) in
          let k = fan-step net passes h.0 t.words t.homes t.views place s word v o held last c.args.self.now.tree h.1
          len at mine holds c.requires.root c.requires.fits small in (
            w,
            k.1.act,
            k.1.valid,
            (after, k.1.shows),
            (
              ap (λ l. (w, l)) k.1.carried ∙ ap (λ x. (finished_view x None v, []))
                  (sym (laid-is s (Some o) held v.out holds)),
              tells net passes place word t _ h.0 after v w h.1 k.1.shows at refl part
                  (IsFinish v.net (section_at v.turn) None)
                  (subst (λ m. IsFinish m (section_at v.turn) None h.0 found after)
                  (sym ((h.1.each place v at).network part))
                  (subst (λ x. IsFinish net (section_at x) None h.0 found after) (sym mine) k.0)),
            ),
          )),
    )
