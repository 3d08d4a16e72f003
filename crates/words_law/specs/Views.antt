-- The views of seats that share a queue and a directory: what each knows of the one, and what of the other.
use Rattle.std.specs.Prelude.{List, map}
use Rattle.queue_law.specs.declared.view.View.{View as QueueView}
use Rattle.queue_law.specs.Views as queue
use Rattle.directory_law.specs.declared.view.View.{View as DirectoryView}
use Rattle.directory_law.specs.Views as directory

abbrev pub View : Type 0
View = QueueView × DirectoryView

-- the view of a seat that has left
abbrev pub gone : View
gone = (queue.first_view, directory.gone)

-- what all seats know of the queue, and of the directory
abbrev pub queues : List View → List QueueView
queues views = map (λ (v : View). v.0) views

abbrev pub directories : List View → List DirectoryView
directories views = map (λ (v : View). v.1) views
