use Rattle.std.proofs.Common.{inr, refl}
use Rattle.slot_store.proofs.Passing.{clears, passes_clear, ripe_tested}
use Rattle.slot_store.proofs.reaping.clear.Goals as goal

pub exchange-requires-clause-may : goal.exchange-requires-clause-may
exchange-requires-clause-may g c =
    (c.requires.rest.idle, c.requires.room, inr (c.requires.ripe, refl))

pub exchange-requires-clause-deed : goal.exchange-requires-clause-deed
exchange-requires-clause-deed g c w =
    rw (ripe_tested c.args.seat.now.view.core c.args.field c.requires.ripe) tt

pub returns : goal.returns
returns g c = record {
  clears = clears c.args.domain.now c.args.field c.args.seat.now c.exchange.new.seat
      c.requires.ripe c.exchange.result c.exchange.ensures.exchanged;
  passes = passes_clear c.args.domain.now c.args.field c.args.seat.now c.exchange.new.seat
      c.requires.ripe c.exchange.result c.exchange.ensures.exchanged c.requires.rest
      c.exchange.ensures.room c.exchange.ensures.objects c.exchange.ensures.rest;
}
