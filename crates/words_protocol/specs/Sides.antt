-- The two laws of a pair of a queue and a directory, by what their values say.
use Rattle.queue_law.specs.Chain.{Ends, ends}
use Rattle.queue_protocol.specs.declared.law.QueueLaw.{QueueLaw}
use Rattle.directory_law.specs.Cells.{Area, area}
use Rattle.directory_protocol.specs.declared.law.DirectoryLaw.{DirectoryLaw}

abbrev pub ends_of : QueueLaw → Ends
ends_of queue = ends queue.form queue.head queue.tail

abbrev pub area_of : DirectoryLaw → Area
area_of directory = area directory.first directory.cells directory.interns.items directory.to
