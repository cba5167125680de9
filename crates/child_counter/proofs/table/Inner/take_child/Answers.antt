use Rattle.std.proofs.Common.{Some, ap, sym, ◌∙◌, ◌∷◌}
use Rattle.atomic_table.specs.Table.{rest}
use Rattle.child_counter.proofs.table.Inner.take_child.Goals as goal

pub exchange-requires : goal.exchange-requires
exchange-requires c =
    let got = c.take.ensures.me in
    let held = ap (λ m. m.1) got.1 in (
      c.take.ensures.belongs ∙ c.requires.belongs,
      (
        Some got.0,
        held
            ∙ ap (λ l. (c.args.c, Some got.0) ∷ rest l) (sym held),
      ),
    )
