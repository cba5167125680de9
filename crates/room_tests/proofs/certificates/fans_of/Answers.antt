use Rattle.std.proofs.Common.{◌≡◌, ◌++◌, ◌∷◌, [], List, length, take, ap, ◌∙◌, sym, arith}
use Rattle.std.proofs.lemmas.List.{take_more}
use Rattle.std.proofs.lemmas.Option.{unwrap_or-slice_get}
use Rattle.duct_definitions.specs.declared.design.NetFan.{NetFan}
use Rattle.duct_definitions.specs.Network.{no_fan}
use Rattle.room_tests.proofs.certificates.fans_of.Goals as goal

pub loop-i-preserved : goal.loop-i-preserved
loop-i-preserved c =
    let fans : List NetFan = c.args.net.now.fans in
    c.in_ok-push.ensures.items
    ∙ ap (λ (xs : List NetFan). xs ++ c.fan.result ∷ []) c.loop-i.invariant
    ∙ ap (λ (fan : NetFan). take c.loop-i.i fans ++ fan ∷ []) (c.fan.ensures.value ∙ unwrap_or-slice_get fans c.loop-i.i no_fan)
    ∙ sym (take_more fans c.loop-i.i no_fan (omega arith))
