use Rattle.std.proofs.Common.{◌≡◌, ℕ, length, refl, ap, sym, arith, Some, slice_index, ◌==◌, subst}
use Rattle.duct_definitions.specs.Tree.{section_count}
use Rattle.schedule_core.proofs.Claims.{leaf_within}
use Rattle.child_counter.specs.Passes.{claimed_view}
use Rattle.child_counter.specs.Steps.{IsClaim, next_turn}
use Rattle.child_counter.proofs.Stepping.{claim-step, tells}
use Rattle.child_counter.proofs.table.Inner.claim.Goals as goal

pub swap-requires : goal.swap-requires
swap-requires c =
    let v = c.args.pass.now.me.0 in
    let held = c.args.pass.now.me.1 in
    let net = c.args.self.now.table.shared.key.net in
    let passes = c.args.self.now.table.shared.key.passes in
    let place = c.args.pass.now.id in
    let leaf : ℕ = c.args.leaf in
    let within = leaf_within net.tree leaf c.requires.leaf in (
      c.requires.belongs,
      (let a = c.args.self.now.counted in omega arith),
      λ t h long at small.
          (let found : ℕ = slice_index t.words leaf in
          let w = claimed_view leaf (next_turn (Some leaf) found) v in
          let len : length t.homes ≡ section_count net.tree = (let a = c.args.self.now.slotted in omega arith) in
          let k = claim-step net passes h.0 t.words t.homes t.views place leaf v held h.1 len at c.requires.leaf
          c.requires.free c.requires.part in
          let same = (h.1.each place v at).network c.requires.part in (
            w,
            k.2.act,
            k.2.valid,
            (k.0, k.2.shows),
            (
              ap (λ l. (w, l)) k.2.carried,
              tells net passes place leaf t _ h.0 k.0 v w h.1 k.2.shows at refl c.requires.part
                  (IsClaim v.net leaf (found == 1))
                  (subst (λ m. IsClaim m leaf (found == 1) h.0 found k.0) (sym same) k.1),
            ),
          )),
    )
