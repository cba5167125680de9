use Rattle.std.proofs.Common.{◌≡◌, ◌∷◌, length, arith}
use Rattle.steal_pool.specs.Ends.{reach_id}
use Rattle.steal_pool.proofs.Parted.{seat-found, seat-inside, seat-deque, absorbed-one, whole-front}
use Rattle.steal_pool.proofs.parting.absorb_row.Goals as goal

pub index_mut-requires : goal.index_mut-requires
index_mut-requires c =
    let inv = c.loop-reach.invariant in
    let r = c.in-Some.reach in
    let len : c.len.result ≡ length c.pop.new.self.items = (let a = c.len.ensures in let b = c.pop.new.self.ok.0 in omega arith) in
    let f = seat-found c.args.owns.now.items c.loop-reach.owns.items c.pop.new.self.items inv.0 r c.args.row.items c.loop-reach.row.items c.args.j c.seat-i.result c.len.result inv.2.deques inv.1 c.in-Some.ensures.items c.requires len c.seat-i.ensures in
    let a = seat-inside c.loop-reach.owns.items c.seat-i.result (reach_id r) f in
    let b = c.loop-reach.owns.ok.0 in
    omega arith

pub absorb-requires : goal.absorb-requires
absorb-requires c =
    let inv = c.loop-reach.invariant in
    let r = c.in-Some.reach in
    let len : c.len.result ≡ length c.pop.new.self.items = (let a = c.len.ensures in let b = c.pop.new.self.ok.0 in omega arith) in
    let f = seat-found c.args.owns.now.items c.loop-reach.owns.items c.pop.new.self.items inv.0 r c.args.row.items c.loop-reach.row.items c.args.j c.seat-i.result c.len.result inv.2.deques inv.1 c.in-Some.ensures.items c.requires len c.seat-i.ensures in
    seat-deque c.loop-reach.owns.items c.seat-i.result (reach_id r) c.index_mut.result.now f c.index_mut.ensures.value

pub loop-reach-preserved : goal.loop-reach-preserved
loop-reach-preserved c =
    let inv = c.loop-reach.invariant in
    let r = c.in-Some.reach in
    let len : c.len.result ≡ length c.pop.new.self.items = (let a = c.len.ensures in let b = c.pop.new.self.ok.0 in omega arith) in
    let f = seat-found c.args.owns.now.items c.loop-reach.owns.items c.pop.new.self.items inv.0 r c.args.row.items c.loop-reach.row.items c.args.j c.seat-i.result c.len.result inv.2.deques inv.1 c.in-Some.ensures.items c.requires len c.seat-i.ensures in
    let inside = seat-inside c.loop-reach.owns.items c.seat-i.result (reach_id r) f in (
      r ∷ inv.0,
      whole-front c.pop.new.self.items inv.0 c.loop-reach.row.items c.args.row.items r inv.1 c.in-Some.ensures.items,
      absorbed-one c.args.owns.now.items c.loop-reach.owns.items inv.0 c.seat-i.result c.index_mut.result.now c.absorb.new.self r inv.2 inside c.index_mut.ensures.value c.absorb.ensures.same c.absorb.ensures.view r.one_part,
    )
