use Rattle.std.proofs.Common.{None, ap, sym, ◌∙◌, ◌∷◌}
use Rattle.atomic_table.specs.Table.{rest}
use Rattle.child_counter.proofs.table.Inner.put_child.Goals as goal

pub exchange-none-requires : goal.exchange-none-requires
exchange-none-requires c =
    (c.requires.belongs, (None, c.requires.held ∙ ap (λ l. (c.args.c, None) ∷ rest l) (sym c.requires.held)))
