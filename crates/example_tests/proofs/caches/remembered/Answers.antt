use Rattle.cdrc.proofs.Below.slot_store_Sparing.{make_is_spared}
use Rattle.example_cache.specs.Cache.{owns}
use Rattle.example_tests.proofs.caches.remembered.Goals as goal

pub make-requires-clause-deed : goal.make-requires-clause-deed
make-requires-clause-deed c s mid begins =
    make_is_spared c.args.domain.now (owns c.args.domain.now.protocol.cell) c.record_of-value.result s
    c.args.seat.now mid begins (λ own. own)
