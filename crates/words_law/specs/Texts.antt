-- The texts of items: which words were pushed and popped, and how often.
use Rattle.std.specs.Prelude.{◌≡◌, ℕ, ◌+◌, false, List, [], ◌∷◌, map, if◌then◌else◌}
use Rattle.std.specs.List.{flat_map}
use Rattle.cdrc_text.specs.Fold.{times}
use Rattle.protocol_pairs.specs.plain_state.declared.slot.SlotId.{SlotId}
use Rattle.protocol_pairs.specs.plain_state.declared.slot.Stage.TheVariants.{Live}
use Rattle.protocol_pairs.specs.plain_state.State.{Plain, no_payload, slot_at, stage_at}
use Rattle.protocol_pairs.specs.plain_state.Fits.{AllFit}
use Rattle.protocol_pairs.specs.Shares.{FitsItsPart}
use Rattle.queue_law.specs.declared.view.Item.{Item}
use Rattle.queue_law.specs.declared.view.Taken.{Taken}
use Rattle.queue_law.specs.declared.view.View.{View as QueueView}
use Rattle.queue_law.specs.Lists.{pushed_times, popped_times, item_times, tagged, taken_items}
use Rattle.directory_law.specs.declared.view.Rope.{Rope}
use Rattle.directory_law.specs.declared.view.View.{View as DirectoryView}
use Rattle.directory_law.specs.Bytes.{IsPiece, text_bytes}
use Rattle.directory_law.specs.Payloads.{Text, IsText}
use Rattle.directory_law.specs.Views.{In, is_of, rope}
use Rattle.words_law.specs.Views.{View, queues, directories}
use Rattle.words_law.specs.Law.{HasText, head_of}

-- the text that is kept for a slot in a life
unfoldable pub text_in : List Rope → SlotId → ℕ → Text
text_in [] s l = []
text_in (e ∷ es) s l = if is_of s l e then e.text else text_in es s l

-- all that views keep, and all that they have of pushes and pops
unfoldable pub all_kept : List DirectoryView → List Rope
all_kept views = flat_map (λ (v : DirectoryView). v.kept) views

unfoldable pub all_pushed : List QueueView → List Item
all_pushed views = flat_map (λ (v : QueueView). taken_items v.pushed) views

unfoldable pub all_popped : List QueueView → List Item
all_popped views = flat_map (λ (v : QueueView). taken_items v.popped) views

-- the text of an item, by what is kept, and the bytes of that text
abbrev pub text_of_item : List Rope → Item → Text
text_of_item kept x = text_in kept (head_of x) x.life

abbrev pub word_of_item : List Rope → Item → List ℕ
word_of_item kept x = text_bytes (text_of_item kept x)

-- the words of some items, and how many of them are w
abbrev pub words_of : List Rope → List Item → List (List ℕ)
words_of kept items = map (word_of_item kept) items

abbrev pub word_times : List Rope → List ℕ → List Item → ℕ
word_times kept w items = times w (words_of kept items)

-- the item has one text
pub record HasOneText (views : List DirectoryView) (x : Item) : Type 0 where
  pub has : HasText views x (text_of_item (all_kept views) x)
  pub is : IsText (text_of_item (all_kept views) x)
  pub one : (text : Text) → HasText views x text → text ≡ text_of_item (all_kept views) x

-- the payloads of all objects are those of nodes, of heads and of parts
abbrev pub AllPieces : Plain → Type 0
AllPieces p = AllFit (FitsItsPart (λ words. words ≡ no_payload) IsPiece) p

-- all in the list was pushed, or popped, by seat n
abbrev pub IsOwnList : ℕ → List Taken → Type 0
IsOwnList n taken = tagged n taken ≡ taken_items taken

-- the item's object lives, in the item's life, and has no zero mark
pub record IsAlive (p : Plain) (x : Item) : Type 0 where
  pub stage : stage_at p (head_of x) ≡ Live
  pub mark : (slot_at p (head_of x)).marked ≡ false
  pub life : (slot_at p (head_of x)).life ≡ x.life

-- the item is alive, and has one text
pub record IsLiving (p : Plain) (views : List DirectoryView) (x : Item) : Type 0 where
  pub alive : IsAlive p x
  pub text : HasOneText views x

-- each item was pushed as often as it was popped and stands among the rest together
abbrev pub PushesAre : List QueueView → List Item → Type 0
PushesAre views rest = (x : Item) → pushed_times x views ≡ popped_times x views + item_times x rest

-- the view of seat 0 has all pushes and pops, and all that is kept
pub record HasAll (views : List View) (root : View) : Type 0 where
  pub pushed : all_pushed (queues views) ≡ taken_items root.0.pushed
  pub popped : all_popped (queues views) ≡ taken_items root.0.popped
  pub kept : all_kept (directories views) ≡ root.1.kept

-- by what seat 0 keeps, the item has a text
pub record HasRootText (root : View) (x : Item) : Type 0 where
  pub kept : In (rope (head_of x) x.life (text_of_item root.1.kept x)) root.1.kept
  pub is : IsText (text_of_item root.1.kept x)

-- each word was pushed as often as it was popped
abbrev pub WordsAgree : View → Type 0
WordsAgree root = (w : List ℕ)
    → word_times root.1.kept w (taken_items root.0.pushed)
    ≡ word_times root.1.kept w (taken_items root.0.popped)
