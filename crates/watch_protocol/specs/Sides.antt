-- The two laws of a pair of a queue and observers, by what their values say.
use Rattle.queue_law.specs.Chain.{Ends, ends}
use Rattle.queue_protocol.specs.declared.law.QueueLaw.{QueueLaw}
use Rattle.watch_law.specs.Law.{Area, area}
use Rattle.watch_protocol.specs.declared.law.WatchLaw.{WatchLaw}

abbrev pub ends_of : QueueLaw → Ends
ends_of queue = ends queue.form queue.head queue.tail

abbrev pub area_of : WatchLaw → Area
area_of watch = area watch.first watch.cells watch.owners.items
