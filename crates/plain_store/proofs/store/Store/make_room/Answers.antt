use Rattle.std.proofs.Common.{arith}
use Rattle.plain_store.specs.Stores.{plain_of}
use Rattle.plain_store.proofs.SettlingStores.{live_few, object_few}
use Rattle.plain_store.proofs.store.Store.make_room.Goals as goal

pub returns-clause-room : goal.returns-clause-room
returns-clause-room c =
    let p = plain_of c.args.self.now in
    record {
      dying = omega (arith, c.in_ok-reserve.ensures.ok, live_few p, c.reserve.ensures.len, c.reserve.ensures.items);
      deferred = omega (arith, c.in_ok-reserve-2.ensures.ok, object_few 3 p, c.reserve-2.ensures.len);
    }
