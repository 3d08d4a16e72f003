use Rattle.std.proofs.Common.{refl}
use Rattle.plain_state.specs.State.{PlainSeat, seat_at}
use Rattle.plain_store.specs.Stores.{plain_of}
use Rattle.plain_store.proofs.Placing.{gives_null, gives_strong, gives_weak}
use Rattle.plain_store.proofs.store.Store.give_up.Goals as goal

pub returns-in-None-clause-gives : goal.returns-in-None-clause-gives
returns-in-None-clause-gives c =
    let v = seat_at (plain_of c.args.self.now) 0 in
    (v, gives_null c.args.kind c.args.new v c.in-None.is, refl)

pub returns-in-Strong-clause-gives : goal.returns-in-Strong-clause-gives
returns-in-Strong-clause-gives c =
    let v = seat_at (plain_of c.args.self.now) 0 in
    let w : PlainSeat = record v { owned = c.take_one.new.list.items } in
    (w, gives_strong c.args.kind c.args.new c.in-Some.slot v c.take_one.new.list.items c.in-Strong.is c.in-Some.is c.take_one.ensures, refl)

pub returns-in-Weak-clause-gives : goal.returns-in-Weak-clause-gives
returns-in-Weak-clause-gives c =
    let v = seat_at (plain_of c.args.self.now) 0 in
    let w : PlainSeat = record v { weaks = c.take_one-in-Weak.new.list.items } in
    (w, gives_weak c.args.kind c.args.new c.in-Some.slot v c.take_one-in-Weak.new.list.items c.in-Weak.is c.in-Some.is c.take_one-in-Weak.ensures, refl)
