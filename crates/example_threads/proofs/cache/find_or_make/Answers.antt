use Rattle.cdrc.proofs.Below.control_word_NotedBack.{none_still}
use Rattle.cdrc.proofs.Below.slot_store_Sparing.{make_is_spared}
use Rattle.example_cache.specs.Cache.{owns}
use Rattle.example_threads.proofs.cache.find_or_make.Goals as goal

pub make-requires-clause-deed : goal.make-requires-clause-deed
make-requires-clause-deed c s mid begins =
    make_is_spared c.args.domain.now (owns c.args.domain.now.protocol.cell) c.payload_of.result s
    c.recall.new.seat mid begins (λ own. own)

pub returns-in-Ok-Some-clause-free : goal.returns-in-Ok-Some-clause-free
returns-in-Ok-Some-clause-free c = record {
  rest = c.recall.ensures.rest;
  none = none_still c.args.seat.now.view.core c.recall.new.seat.view.core
      c.recall.ensures.notes c.requires.free.none;
  room = c.recall.ensures.room;
}
