-- What a seat may push, and what the one part of a view asks of the other's next view.
use Rattle.std.specs.Prelude.{◌≡◌, ◌⊎◌}
use Rattle.queue_law.specs.declared.view.Item.{Item}
use Rattle.queue_law.specs.declared.view.View.{View as QueueView}
use Rattle.queue_law.specs.Lists.{taken_items}
use Rattle.directory_law.specs.declared.view.Rope.{Rope}
use Rattle.directory_law.specs.declared.view.Seen.{Seen}
use Rattle.directory_law.specs.declared.view.View.{View as DirectoryView}
use Rattle.directory_law.specs.Views.{In}
use Rattle.words_law.specs.Views.{View}
use Rattle.words_law.specs.Law.{head_of}

-- the view saw the item's slot in a cell, in the item's life
abbrev pub SawHead : DirectoryView → Item → Type 0
SawHead v x = (e : Seen) × In e v.seen × (e.slot ≡ head_of x) × (e.life ≡ x.life)

-- the view keeps a text for the item
abbrev pub KeepsHead : DirectoryView → Item → Type 0
KeepsHead v x = (e : Rope) × In e v.kept × (e.slot ≡ head_of x) × (e.life ≡ x.life)

-- the seat knows that the item was bound: it saw that, or did it
abbrev pub MayPush : View → Item → Type 0
MayPush v x = SawHead v.1 x ⊎ KeepsHead v.1 x

-- the queue's next view has pushed nothing more than what the seat may push
abbrev pub PushesBound : View → QueueView → Type 0
PushesBound v w = (x : Item) → In x (taken_items w.pushed)
    → In x (taken_items v.0.pushed) ⊎ MayPush v x

-- the directory's next view keeps what was kept
abbrev pub KeepsAll : View → DirectoryView → Type 0
KeepsAll v w = (e : Rope) → In e v.1.kept → In e w.kept

-- and it goes on to have seen what was seen
abbrev pub SawAll : View → DirectoryView → Type 0
SawAll v w = (e : Seen) → In e v.1.seen → In e w.seen
