use Rattle.std.proofs.Common.{◌<◌, length, arith}
use Rattle.steal_pool.proofs.Connecting.{handed, lends}
use Rattle.steal_pool.proofs.dealing.hand_over.Goals as goal

pub lend-requires : goal.lend-requires
lend-requires c =
    let inside : c.args.i < length c.args.hands.now.items = (let a = c.args.hands.now.ok.0 in let b = c.requires.within.0 in omega arith) in
    lends c.args.hands.now.items c.args.i c.index_mut.result.now inside c.index_mut.ensures.value c.requires.parts

pub returns : goal.returns
returns c =
    let ok = c.args.hands.now.ok.0 in
    let li : c.args.i < length c.args.hands.now.items = (let b = c.requires.within.0 in omega arith) in
    let lj : c.args.j < length c.args.hands.now.items = (let b = c.requires.within.1 in omega arith) in
    let e = c.in_ok-reach.ensures.ok in
    handed c.args.hands.now.items c.args.i c.args.j c.index_mut.result.now c.index_mut-2.result.now c.lend.new.self c.accept.new.self _ li lj c.requires.two c.index_mut.ensures.value c.index_mut-2.ensures.value e.0 c.in_ok-accept.ensures e.1
