-- The word of an item that was popped.
use Rattle.std.proofs.Common.{◌≡◌, inl, inr, ℕ, arith, List, refl, sym, ap, subst, ◌∙◌}
use Rattle.std.specs.Prelude.{Err, Ok, OnErr, OnOk, Result}
use Rattle.words_protocol.specs.cdrc_text.Tally.{CountsOneMore, count_of}
use Rattle.control_word.specs.plain_state.declared.slot.SlotId.{SlotId}
use Rattle.control_word.specs.domain_rule.Views.{object_in}
use Rattle.control_word.specs.acquire_retire.Seats.{SeatState}
use Rattle.words_protocol.specs.directory_law.declared.view.Ran.{Ran}
use Rattle.words_protocol.specs.directory_law.declared.view.Rope.{Rope}
use Rattle.words_protocol.specs.directory_law.declared.view.View.{View as DirectoryView}
use Rattle.words_protocol.specs.directory_law.Bytes.{text_bytes}
use Rattle.words_protocol.specs.directory_law.Payloads.{Text}
use Rattle.words_protocol.specs.directory_law.Views.{In}
use Rattle.weak_intern.specs.directory_calls.Learning.{LearnsIn}
use Rattle.weak_intern.specs.text_reading.Reading.{HasBegun, HasRead, begun}
use Rattle.words_protocol.specs.words_law.Views.{View}
use Rattle.lane_files.specs.Passed.{HasReadIn, OnlyReads, ReadsWord, TalliesIf, begins}
use Rattle.lane_files.proofs.PiecesCounted.{tallies_one}
use Rattle.lane_files.proofs.Offered.{queues, texts}

abbrev with_texts : View → DirectoryView → View
with_texts v w = (v.0, w)

module _ (s : SlotId) (old now : SeatState View)
    (client : now.view.client ≡ begins (begun s now) old.view.client) where
  pub has_begun : HasBegun texts s now
  has_begun = (old.view.client.1.ran, ap (λ (v : View). v.1.ran) client)

  module _ (word : List ℕ) (late new : SeatState View) (learns : LearnsIn texts with_texts 0
      now.view.client late.view.client) (last : new.view.client ≡ late.view.client)
      (same : object_in now.view s ≡ object_in old.view s)
      (still : object_in late.view s ≡ object_in now.view s) where
    pub only : OnlyReads old.view.client new.view.client
    only = record {
      queue = ap queues last ∙ (ap queues learns.rest ∙ ap queues client);
      interns = record {
        quota = ap (λ (v : View). v.1.quota) last
            ∙ (learns.part.quota ∙ ap (λ (v : View). v.1.quota) client);
        used = let l = ap (λ (v : View). v.1.used) last in let m = learns.part.used in
            let n = ap (λ (v : View). v.1.used) client in omega arith;
      };
      more = record {
        knows = record {
          kept = λ e in'. subst (λ (v : View). In e v.1.kept) (sym last)
              (subst (λ (es : List Rope). In e es) (sym learns.part.notes.1)
              (subst (λ (v : View). In e v.1.kept) (sym client) in'));
          ran = λ e in'. subst (λ (v : View). In e v.1.ran) (sym last)
              (learns.part.ran e (subst (λ (v : View). In e v.1.ran) (sym client) (inr in')));
        };
        saw = λ e in'. subst (λ (v : View). In e v.1.seen) (sym last)
            (learns.part.seen e (subst (λ (v : View). In e v.1.seen) (sym client) in'));
      };
    }

    pub reads : (text : Text) → word ≡ text_bytes text → HasRead texts s text late
        → ReadsWord s word old new
    reads text same' read = record {
      text = text;
      bytes = sym same';
      read = (
        read.ran,
        subst (λ (v : View). In read.ran v.1.ran) (sym last)
            (subst (λ (es : List Ran). In read.ran es) (sym read.last) (inl refl)),
        read.slot,
        read.life ∙ ap (λ o. o.life) (still ∙ same),
        read.whole,
        read.is,
      );
    }

module _ (s : SlotId) (word : List ℕ) (old new : SeatState View) (before after : List (List ℕ × ℕ))
  where
    tallies_if : {T E : Type 0} (r : Result T E) → OnOk r (CountsOneMore before after word)
        → OnErr r (after ≡ before) → OnErr r (count_of before word ≡ 0)
        → TalliesIf r word before after
    tallies_if (Ok done) more same new_word = tallies_one word before after more
    tallies_if (Err error) more same new_word = (new_word, same)

    pub reads_if : {T E : Type 0} (r : Result T E) → ReadsWord s word old new
        → OnOk r (CountsOneMore before after word) → OnErr r (after ≡ before)
        → OnErr r (count_of before word ≡ 0)
        → (w : List ℕ) × ReadsWord s w old new × TalliesIf r w before after
    reads_if r reads more same new_word = (word, reads, tallies_if r more same new_word)

-- and it is so after a step that leaves the client's view
pub reads_later : (s : SlotId) (word : List ℕ) (old new late : SeatState View)
    → ReadsWord s word old new → late.view.client ≡ new.view.client → ReadsWord s word old late
reads_later s word old new late is same = record {
  text = is.text;
  bytes = is.bytes;
  read = subst (λ (v : View). HasReadIn (object_in old.view s).life s is.text v.1) (sym same)
      is.read;
}

module _ (s : SlotId) (old new late : SeatState View) (same : late.view.client ≡ new.view.client)
    (before after : List (List ℕ × ℕ)) where
  pub counts_later : {T E : Type 0} (r : Result T E)
      → (word : List ℕ) × ReadsWord s word old new × TalliesIf r word before after
      → (word : List ℕ) × ReadsWord s word old late × TalliesIf r word before after
  counts_later r is = (is.0, reads_later s is.0 old new late is.1 same, is.2)
