use Rattle.region_turns.proofs.StoreEvents.{has_stored}
use Rattle.region_turns.proofs.storing.store_new.Goals as goal

pub returns-clause-stored : goal.returns-clause-stored
returns-clause-stored c all =
    has_stored _ c.args.domain.now c.args.seat.now c.e_make.new.seat c.e_store.new.seat
    c.in-Ok.ensures.made c.in_default-e_store.ensures.stored
