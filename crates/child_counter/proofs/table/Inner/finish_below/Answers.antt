use Rattle.std.proofs.Common.{◌≡◌, ℕ, ◌<◌, ◌∷◌, [], length, refl, ap, sym, ◌∙◌, arith, Some, slice_index, subst}
use Rattle.duct_definitions.specs.Tree.{section_count}
use Rattle.duct_definitions.proofs.TreeLaws.{earlier}
use Rattle.schedule_core.specs.declared.events.Event.TheVariants.{Finish}
use Rattle.schedule_core.specs.Schedule.{added}
use Rattle.child_counter.specs.Passes.{finished_view}
use Rattle.child_counter.specs.Steps.{IsFinish, next_turn, own_slot, with_child, section_at}
use Rattle.child_counter.proofs.Stepping.{tells, below-step, laid-is}
use Rattle.child_counter.proofs.table.Inner.finish_below.Goals as goal

pub fetch_sub-requires : goal.fetch_sub-requires
fetch_sub-requires c =
    let v = c.lay.new.pass.me.0 in
    let held = c.lay.new.pass.me.1 in
    let same = c.lay.ensures.view in
    let net = c.args.self.now.table.shared.key.net in
    let passes = c.args.self.now.table.shared.key.passes in
    let place = c.lay.new.pass.id in
    let s : ℕ = c.args.s in
    let n : ℕ = c.args.n in
    let o = c.args.outcome in
    let mine : v.turn ≡ Some s = ap (λ x. x.turn) same ∙ c.requires.turn in
    let part : 0 < v.parts = subst (λ x. 0 < x.parts) (sym same) c.requires.part in
    let holds : held ≡ with_child v.out ((s, Some o) ∷ []) = c.lay.ensures.held
    ∙ ap (λ x. with_child x.out ((s, Some o) ∷ [])) (sym same) in
    let tree = c.args.self.now.tree in
    let before = earlier net.tree s n tree c.requires.section c.requires.neighbour in (
      c.lay.ensures.belongs ∙ c.requires.belongs,
      (let a = c.args.self.now.counted in let b = c.requires.section in omega arith),
      λ t h long at small.
          (let found : ℕ = slice_index t.words n in
          let next = next_turn (Some n) found in
          let w = finished_view (Some o) next v in
          let after = added h.0 (Finish s) in
          let len : length t.homes ≡ section_count net.tree = (let a = c.args.self.now.slotted in omega arith) in
          let k = below-step net passes h.0 t.words t.homes t.views place s n v o held tree h.1 len at mine holds
          c.requires.neighbour c.requires.fits small in (
            w,
            k.1.act,
            k.1.valid,
            (after, k.1.shows),
            (
              ap (λ l. (w, l)) k.1.carried ∙ ap (λ x. (finished_view x next v, own_slot next []))
                  (sym (laid-is s (Some o) held v.out holds)),
              tells net passes place n t _ h.0 after v w h.1 k.1.shows at refl part
                  (IsFinish v.net (section_at v.turn) next)
                  (subst (λ m. IsFinish m (section_at v.turn) next h.0 found after)
                  (sym ((h.1.each place v at).network part))
                  (subst (λ x. IsFinish net (section_at x) next h.0 found after) (sym mine) k.0)),
            ),
          )),
    )
