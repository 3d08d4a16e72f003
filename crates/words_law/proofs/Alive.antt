-- An item that is alive is the live record of its text; so two of one text are one.
use Rattle.std.proofs.Common.{◌≡◌, inl, ℕ, ◌<◌, List, [], ◌∷◌, ap, sym, subst, arith}
use Rattle.protocol_pairs.specs.plain_state.declared.slot.SlotId.{SlotId}
use Rattle.protocol_pairs.specs.plain_state.declared.slot.Stage.TheVariants.{Live}
use Rattle.protocol_pairs.specs.plain_state.Lawful.{Lawful}
use Rattle.protocol_pairs.specs.plain_state.State.{Plain, slot_at, stage_at}
use Rattle.queue_law.specs.declared.view.Item.{Item}
use Rattle.directory_law.specs.declared.view.View.{View}
use Rattle.directory_law.specs.Cells.{Area}
use Rattle.directory_law.specs.Law.{DirectoryLaw, IsBound}
use Rattle.directory_law.specs.Bytes.{IsPiece, text_bytes}
use Rattle.directory_law.specs.Chains.{Along, Reads}
use Rattle.directory_law.specs.Payloads.{IsOwn, IsText, Text, size}
use Rattle.directory_law.specs.Views.{Each, KeptIn}
use Rattle.directory_law.proofs.Chains.{second_live}
use Rattle.directory_law.proofs.Gives.{bound_live, kept_reads, one_record}
use Rattle.directory_law.proofs.Kept.{kept_counts}
use Rattle.words_law.specs.Law.{HasText, head_of}
use Rattle.words_law.specs.Texts.{AllPieces, IsAlive}
use Rattle.words_law.proofs.TextsTold.{same_bytes}
use Rattle.words_law.proofs.Texts.{has_one}

module _ (z : Area) (p : Plain) (views : List View) (law : DirectoryLaw z p views) where
  pub alive_bound : (x : Item) (text : Text) → IsAlive p x → HasText views x text
      → IsBound z p text (head_of x)
  alive_bound x text alive has =
      let at = law.stands (head_of x) x.life (kept_counts views (head_of x) x.life text has) in
      let kept = subst (λ (l : ℕ). KeptIn views (head_of x) l text) (sym alive.life) has in
      record {
        stands = (at.0, at.1, at.2);
        stage = alive.stage;
        mark = alive.mark;
        reads = (kept_reads z p views law (head_of x) text kept alive.stage).0;
      }

  pub alive_once : (x y : Item) (text : Text) → IsAlive p x → IsAlive p y → HasText views x text
      → HasText views y text → x.slot ≡ y.slot
  alive_once x y text a b has too =
      let bound = alive_bound x text a has in
      let bound_too = alive_bound y text b too in
      ap (λ (s : SlotId). s.0)
      ((one_record z p views law).one (head_of x) (head_of y) text
      (bound_live z p views law text (head_of x) bound)
      (bound_live z p views law text (head_of y) bound_too)
      bound.reads bound_too.reads)

-- WORDS. Where all payloads fit, the text of a slot that lives is one of heads and parts
module _ (p : Plain) (lawful : Lawful p) (fit : AllPieces p) where
  piece_at : (s : SlotId) → stage_at p s ≡ Live → IsOwn (slot_at p s).payload
      → IsPiece (slot_at p s).payload
  piece_at s live own = (fit s (inl live)).1 (λ none. absurd (omega arith))

  along_pieces : (x : SlotId) (ts : Text) → Along p (slot_at p x).second ts → Each IsPiece ts
  along_pieces x [] along = tt
  along_pieces x (t ∷ ts) along =
      let s = along.0 in
      let live = second_live p x s lawful along.1 in
      let part = along.3 in
      let own : IsOwn (slot_at p s).payload =
      subst IsOwn (sym along.2) (let some : 0 < size t = omega arith in some) in
      (subst IsPiece along.2 (piece_at s live own), along_pieces s ts along.4)

  reads_pieces : (s : SlotId) (text : Text) → stage_at p s ≡ Live → IsText text → Reads p s text
      → Each IsPiece text
  reads_pieces s text live is reads =
      let head = subst IsText reads.1 is in
      subst (Each IsPiece) (sym reads.1)
      (piece_at s live head.0.0, along_pieces s reads.0 reads.2)

  -- two items that are alive and have one word are in one slot
  pub alive_word : (z : Area) (views : List View) → DirectoryLaw z p views → (x y : Item)
      → (text other : Text) → IsAlive p x → IsAlive p y → HasText views x text
      → HasText views y other → text_bytes text ≡ text_bytes other → x.slot ≡ y.slot
  alive_word z views law x y text other a b has too same =
      let bound = alive_bound z p views law x text a has in
      let bound_too = alive_bound z p views law y other b too in
      let is = (has_one z p views law x text has).is in
      let is_one = (has_one z p views law x text has).one text has in
      let is_too = (has_one z p views law y other too).is in
      let is_one_too = (has_one z p views law y other too).one other too in
      let whole : IsText text = subst IsText (sym is_one) is in
      let whole_too : IsText other = subst IsText (sym is_one_too) is_too in
      let e = same_bytes text other whole whole_too
      (reads_pieces (head_of x) text a.stage whole bound.reads)
      (reads_pieces (head_of y) other b.stage whole_too bound_too.reads) same in
      alive_once z p views law x y text a b has (subst (HasText views y) (sym e) too)
