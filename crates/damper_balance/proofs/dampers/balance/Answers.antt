use Rattle.duct_definitions.specs.Dampers.{damper}
use Rattle.damper_balance.proofs.FoundDampers.{room_is, ListsEach-written}
use Rattle.damper_balance.proofs.dampers.balance.Goals as goal

pub returns : goal.returns
returns c =
    let net = c.args.net.now in
    let pressures = c.share-found.ensures.pressures in
    let fills = room_is c.in_ok-numbers.numbers.len c.len.result c.tree.result.now net.tree c.in_ok-numbers.ensures.len
    c.len.ensures.value c.tree.ensures.tree in
    record {
      supply_worst = pressures.supply_worst;
      supply_head = pressures.heads.supply;
      return_worst = pressures.return_worst;
      return_head = pressures.heads.back;
      damper = ListsEach-written net.tree (damper net c.args.d.now) c.in_ok-numbers.numbers.len
          c.share-found.new.numbers _ c.from_vec.result fills c.share-found.ensures.dampers c.from_vec.ensures;
    }
