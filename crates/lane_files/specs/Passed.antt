-- What a seat pushed and popped between two of its views, as words.
use Rattle.std.specs.Prelude.{◌≡◌, ℕ, ◌+◌, List, [], ◌∷◌, ◌++◌, Result, Ok, Err, length, map}
use Rattle.words_protocol.specs.cdrc_text.Tally.{count_of}
use Rattle.control_word.specs.plain_state.declared.slot.SlotId.{SlotId}
use Rattle.control_word.specs.domain_rule.Views.{object_in}
use Rattle.control_word.specs.acquire_retire.Seats.{SeatState}
use Rattle.words_protocol.specs.queue_law.declared.view.Item.{Item}
use Rattle.words_protocol.specs.queue_law.declared.view.Taken.{Taken}
use Rattle.words_protocol.specs.queue_law.declared.view.View.{View as QueueView}
use Rattle.words_protocol.specs.directory_law.declared.view.Ran.{Ran}
use Rattle.words_protocol.specs.directory_law.declared.view.View.{View as DirectoryView}
use Rattle.words_protocol.specs.directory_law.Bytes.{text_bytes}
use Rattle.words_protocol.specs.directory_law.Payloads.{IsText, Text}
use Rattle.words_protocol.specs.directory_law.Views.{In}
use Rattle.hand_queues.specs.Pushes.{deeds_of}
use Rattle.words_protocol.specs.words_law.Known.{ForgetsNothing, KnowsTexts}
use Rattle.words_protocol.specs.words_law.Views.{View}
pub use Rattle.lane_work.specs.Tallying.{Tallies}

-- the view tells these words of the items, in order
abbrev pub KnowsWords : DirectoryView → List Item → List (List ℕ) → Type 0
KnowsWords v xs words = (ts : List Text) × KnowsTexts v xs ts × (map text_bytes ts ≡ words)

-- the view tells this text of an object, which it has read whole
abbrev pub HasReadIn : ℕ → SlotId → Text → DirectoryView → Type 0
HasReadIn life s text v =
    (e : Ran) × In e v.ran × (e.slot ≡ s) × (e.life ≡ life) × (e.before ≡ text) × IsText text

-- items, as seat n did something with them
unfoldable pub by_seat : ℕ → List Item → List Taken
by_seat n xs = map (λ (x : Item). record { item = x; taker = n }) xs

-- a view that has pushed and popped these items more
abbrev pub did : List Item → List Item → QueueView → QueueView
did pushes pops v = record v {
  pushed = v.pushed ++ by_seat v.number pushes;
  popped = v.popped ++ by_seat v.number pops;
}

-- a view that has read as far as this last
abbrev pub begins : Ran → View → View
begins e v = (v.0, record v.1 { ran = e ∷ v.1.ran })

-- From the one view to the other the seat pushed items of some words, and popped items of others. It has learnt their
-- words, and forgotten no text and no head that it saw. What it has beside of the queue is as it was, but for its notes
-- on single nodes.
pub record Counts (pushed popped : List (List ℕ)) (v w : View) : Type 0 where
  pub pushes : List Item
  pub pops : List Item
  pub deeds : deeds_of w.0 ≡ did pushes pops (deeds_of v.0)
  pub pushed_words : KnowsWords w.1 pushes pushed
  pub popped_words : KnowsWords w.1 pops popped
  pub more : ForgetsNothing v.1 w.1

-- it pushed items of these words, popped so many, and counted the words of these
pub record Takes (pushed : List (List ℕ)) (taken : ℕ) (v w : View)
    (before after : List (List ℕ × ℕ)) : Type 0 where
  pub words : List (List ℕ)
  pub number : length words ≡ taken
  pub counts : Counts pushed words v w
  pub tallies : Tallies words before after

-- The word was counted once more. Or it wasn't: it is a new one, for which there was no memory, and the tally is as it
-- was.
abbrev pub TalliesIf : {T E : Type 0} → Result T E → List ℕ → List (List ℕ × ℕ)
    → List (List ℕ × ℕ) → Type 0
TalliesIf (Ok done) word before after = Tallies (word ∷ []) before after
TalliesIf (Err error) word before after = (count_of before word ≡ 0) × (after ≡ before)

-- the seat has read that the object which it had in s has this word
pub record ReadsWord (s : SlotId) (word : List ℕ) (old new : SeatState View) : Type 0 where
  pub text : Text
  pub bytes : text_bytes text ≡ word
  pub read : HasReadIn (object_in old.view s).life s text new.view.client.1

-- it has as many interns as it had, and has used n more of them
pub record UsesInterns (n : ℕ) (v w : View) : Type 0 where
  pub quota : w.1.quota ≡ v.1.quota
  pub used : w.1.used ≡ v.1.used + n

-- the seat has read something, and of its view nothing else has changed
pub record OnlyReads (v w : View) : Type 0 where
  pub queue : w.0 ≡ v.0
  pub interns : UsesInterns 0 v w
  pub more : ForgetsNothing v.1 w.1
