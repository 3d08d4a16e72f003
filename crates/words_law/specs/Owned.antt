-- What a queue and a directory own together, and with what their seats begin.
use Rattle.std.specs.Prelude.{ℕ, ◌++◌}
use Rattle.protocol_pairs.specs.plain_protocol.Acts.{Owned}
use Rattle.protocol_pairs.specs.Shares.{either_of}
use Rattle.queue_law.specs.Views.{view_of}
use Rattle.queue_law.specs.Views as queue
use Rattle.queue_law.specs.Chain.{Ends}
use Rattle.queue_law.specs.Owned as queue_owned
use Rattle.directory_law.specs.declared.view.View.{View as DirectoryView}
use Rattle.directory_law.specs.Views as directory
use Rattle.directory_law.specs.Cells.{Area}
use Rattle.directory_law.specs.Owned as directory_owned
use Rattle.words_law.specs.Views.{View}

abbrev pub owns : Ends → Area → Owned
owns u z = either_of (queue_owned.owns u) (directory_owned.owns z)

-- the view of seat n at the start
abbrev pub first_view : Ends → Area → ℕ → View
first_view u z n = (view_of u.form n, directory_owned.first_view z n)

-- the view of seat 0 after a seat has left, from the views of the two: as both parts join them, and with all texts that
-- the seat had read
abbrev pub join_directories : DirectoryView → DirectoryView → DirectoryView
join_directories v w = record (directory.joined v w) { ran = v.ran ++ w.ran }

abbrev pub joined : View → View → View
joined v w = (queue.joined v.0 w.0, join_directories v.1 w.1)
