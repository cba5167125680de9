use Rattle.std.proofs.Common.{refl, sym, ◌∙◌}
use Rattle.std.proofs.lemmas.Bool.{false≢true}
use Rattle.front_certificate.proofs.Totals.{sound-from_both, shared-from_sound, own-from_sound}
use Rattle.front_certificate.proofs.total.is_sound_total.Goals as goal

pub returns-then-shared_fans_hold : goal.returns-then-shared_fans_hold
returns-then-shared_fans_hold c =
    let stated = c.args.stated.now in (
      λ yes. sound-from_both stated.net stated.fronts c.args.total (c.if-shared_fans_hold.ensures.0 refl)
          (c.own_fans_hold.ensures.0 yes),
      λ sound. c.own_fans_hold.ensures.1 (own-from_sound stated.net stated.fronts c.args.total sound),
    )

pub returns-else-shared_fans_hold : goal.returns-else-shared_fans_hold
returns-else-shared_fans_hold c =
    let stated = c.args.stated.now in (
      λ yes. sound-from_both stated.net stated.fronts c.args.total (c.shared_fans_hold.ensures.0 yes)
          (absurd (false≢true (sym c.if-shared_fans_hold.false ∙ yes))),
      λ sound. c.shared_fans_hold.ensures.1 (shared-from_sound stated.net stated.fronts c.args.total sound),
    )
