use Rattle.std.proofs.Common.{◌≡◌, ℕ, ◌∷◌, length, refl, ap, sym, ◌∙◌, arith, Some, subst}
use Rattle.duct_definitions.specs.Tree.{section_count}
use Rattle.contract_join.specs.Outcomes.{IsOutcomeOf}
use Rattle.child_counter.specs.Passes.{out_view}
use Rattle.child_counter.specs.Steps.{IsNoEvent, without_child}
use Rattle.child_counter.proofs.Stepping.{take-step, tells}
use Rattle.child_counter.proofs.table.Inner.take.Goals as goal

pub load-requires : goal.load-requires
load-requires g c =
    let v = c.args.pass.now.me.0 in
    let held = c.args.pass.now.me.1 in
    let net = c.args.self.now.table.shared.key.net in
    let passes = c.args.self.now.table.shared.key.passes in
    let place = c.args.pass.now.id in
    let child : ℕ = c.args.c in
    let s : ℕ = c.args.s in (
      c.requires.belongs,
      (let a = c.args.self.now.counted in let b = c.requires.section in omega arith),
      λ t h long at small.
          (let len : length t.homes ≡ section_count net.tree = (let a = c.args.self.now.slotted in omega arith) in
          let k = take-step net passes h.0 t.words t.homes t.views place child s s v held c.args.self.now.tree h.1 len
          at c.requires.turn c.requires.held c.requires.within c.requires.neighbour in
          let w = out_view (Some k.0) v in (
            w,
            k.3.act,
            k.3.valid,
            (h.0, k.3.shows),
            (
              k.0,
              ap (λ l. (w, l)) k.3.carried ∙ ap (λ x. (w, (x, Some k.0) ∷ without_child v.out held)) (sym k.2),
              subst (λ x. IsOutcomeOf v.net x k.0) c.requires.child
                  (subst (λ m. IsOutcomeOf m child k.0) (sym c.requires.network) k.1),
              tells net passes place s t _ h.0 h.0 v w h.1 k.3.shows at refl c.requires.part IsNoEvent refl,
            ),
          )),
    )
