-- The law of a queue and a directory over one domain, where the queue's items are heads that were bound to texts.
use Rattle.std.specs.Prelude.{◌≡◌, ◌⊎◌, ℕ, ◌≤◌, true, List, length}
use Rattle.protocol_pairs.specs.plain_state.declared.slot.SlotId.{SlotId}
use Rattle.protocol_pairs.specs.plain_state.State.{Plain, seat_at}
use Rattle.protocol_pairs.specs.Parts.{Both}
use Rattle.queue_law.specs.declared.view.Item.{Item}
use Rattle.queue_law.specs.declared.view.View.{View as QueueView}
use Rattle.queue_law.specs.Views as queue
use Rattle.queue_law.specs.Chain.{Ends}
use Rattle.queue_law.specs.Lists.{taken_items}
use Rattle.queue_law.specs.Law.{WholeLaw}
use Rattle.directory_law.specs.declared.view.View.{View as DirectoryView}
use Rattle.directory_law.specs.Payloads.{Text}
use Rattle.directory_law.specs.Views.{KeptIn, In}
use Rattle.directory_law.specs.Views as directory
use Rattle.directory_law.specs.Cells.{Area}
use Rattle.directory_law.specs.Law.{DirectoryLaw}
use Rattle.words_law.specs.Views.{View, queues, directories}

-- the slot of an item
abbrev pub head_of : Item → SlotId
head_of x = record { 0 = x.slot }

-- some view has the item among those that were pushed, or popped
abbrev pub WasPushed : List QueueView → Item → Type 0
WasPushed views x = (n : ℕ) × In x (taken_items (queue.view_at views n).pushed)

abbrev pub WasPopped : List QueueView → Item → Type 0
WasPopped views x = (n : ℕ) × In x (taken_items (queue.view_at views n).popped)

-- a view keeps this text for the item's slot, in the item's life
abbrev pub HasText : List DirectoryView → Item → Text → Type 0
HasText views x text = KeptIn views (head_of x) x.life text

-- each item that was pushed has a text
abbrev pub ItemsHaveTexts : List QueueView → List DirectoryView → Type 0
ItemsHaveTexts pushers keepers =
    (x : Item) → WasPushed pushers x → (text : Text) × HasText keepers x text

-- a seat that has left keeps nothing of the directory
abbrev pub Gone : Plain → List DirectoryView → Type 0
Gone p views = (m : ℕ) → (length p.seats ≤ m) ⊎ ((seat_at p m).left ≡ true)
    → directory.view_at views m ≡ directory.gone

-- the laws of both, and what was pushed was bound
pub record WordsLaw (u : Ends) (z : Area) (p : Plain) (views : List View) : Type 0 where
  pub both : Both (WholeLaw u) (DirectoryLaw z) p views
  pub items : ItemsHaveTexts (queues views) (directories views)
  pub left : Gone p (directories views)
