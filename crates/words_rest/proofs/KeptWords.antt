-- The words of the references that seat 0 keeps: each slot has one, and as many files have it as there are references.
use Rattle.std.specs.Prelude.{◌↔◌, slice_index_or}
use Rattle.std.proofs.Common.{◌≡◌, ℕ, ◌<◌, List, [], refl, ap, sym, subst, ◌∙◌, arith}
use Rattle.plain_audit.specs.plain_state.declared.slot.SlotId.{SlotId}
use Rattle.plain_audit.specs.plain_state.Lawful.{Lawful}
use Rattle.plain_audit.specs.plain_state.Lists.{times}
use Rattle.plain_audit.specs.plain_state.References.{strong_refs}
use Rattle.plain_audit.specs.plain_state.State.{Plain, seat_at, slot_at}
use Rattle.plain_audit.proofs.Below.plain_state_Kit.{slot_is}
use Rattle.words_law.specs.queue_law.declared.view.Item.{Item}
use Rattle.words_law.specs.queue_law.Chain.{Ends}
use Rattle.words_law.specs.directory_law.declared.view.View.{View as DirectoryView}
use Rattle.words_law.specs.directory_law.Bytes.{AreBytes, text_bytes}
use Rattle.words_law.specs.directory_law.Cells.{Area}
use Rattle.words_law.specs.directory_law.Law.{DirectoryLaw}
use Rattle.words_law.specs.directory_law.Payloads.{Text}
use Rattle.words_law.proofs.Below.directory_law_Bytes.{text_tells}
use Rattle.words_law.specs.cdrc_text.Fold.{File, holders_in}
use Rattle.words_law.specs.Known.{KnowsText}
use Rattle.words_law.specs.Law.{HasText}
use Rattle.words_law.specs.Texts.{HasOneText, IsAlive, all_kept, text_in}
use Rattle.words_law.specs.Views.{View, directories, gone}
use Rattle.words_law.proofs.Alive.{alive_word}
use Rattle.words_law.proofs.Parts.{directory_at}
use Rattle.words_law.proofs.Texts.{has_one, known_has}
use Rattle.words_rest.specs.Kept.{KeepsRecordsOf, TellsWord}
use Rattle.words_rest.specs.Nodes.{HasNoNode}
use Rattle.words_rest.specs.Records.{word_at}
use Rattle.words_rest.specs.Rest.{IsLeft, OwnsHeads}
use Rattle.words_rest.proofs.Heads.{owned_head}
use Rattle.words_rest.proofs.Living.{head_counted}
use Rattle.record_counts.proofs.Living.{root_refs}
use Rattle.record_counts.proofs.Told.{files_counted, held_is_kept, kept_has_word}

module _ (u : Ends) (z : Area) (p : Plain) (views : List View) (lives : SlotId → ℕ)
    (files : List File) (kept : List SlotId) (k : KeepsRecordsOf u z p views lives files kept) where
  abbrev ds : List DirectoryView
  ds = directories views

  abbrev root : DirectoryView
  root = (slice_index_or views 0 gone).1

  abbrev in_life : SlotId → ℕ → Item
  in_life s life = record { slot = s.0; life = life; payload = [] }

  abbrev item : SlotId → Item
  item s = in_life s (slot_at p s).life

  -- what the view tells in the lives that are given
  abbrev pub Told : List ℕ → SlotId → Type 0
  Told w s = TellsWord root w s (lives s)

  lawful : Lawful p
  lawful = k.meets.lawful

  law : DirectoryLaw z p ds
  law = k.meets.law.both.1

  pub kept_told : (s : SlotId) → 0 < times s kept → (w : List ℕ) × TellsWord root w s (lives s)
  kept_told = kept_has_word Told files kept k.tells

  module _ (s : SlotId) (some : 0 < times s kept) where
    alive : IsAlive p (item s)
    alive =
        let own = k.owned s in
        let least = root_refs s p.seats in
        let at = lawful.strong s (omega arith) in record { stage = at.0; mark = at.1; life = refl }

    has_text : (text : Text) → KnowsText root (in_life s (lives s)) text → HasText ds (item s) text
    has_text text knows = known_has z p ds law (item s) 0 text
        (subst (λ (v : DirectoryView). KnowsText v (item s) text) (sym (directory_at views 0))
        (subst (λ (l : ℕ). KnowsText root (in_life s l) text) (k.life s some) knows))

    one_text : HasOneText ds (item s)
    one_text =
        let w = kept_told s some in
        let text = w.1.0 in has_one z p ds law (item s) text (has_text text w.1.2)

    pub kept_word_is : (w : List ℕ) → AreBytes w → TellsWord root w s (lives s)
        → w ≡ word_at p views s
    kept_word_is w bytes told =
        sym (text_tells w told.0 bytes told.1)
        ∙ ap text_bytes (one_text.one told.0 (has_text told.0 told.2))

  pub kept_one : (s t : SlotId) → 0 < times s kept → 0 < times t kept
      → word_at p views s ≡ word_at p views t → s ≡ t
  kept_one s t some more same = slot_is s t
      (alive_word p lawful k.fit z ds law (item s) (item t)
      (text_in (all_kept ds) s (slot_at p s).life) (text_in (all_kept ds) t (slot_at p t).life)
      (alive s some) (alive t more) (one_text s some).has (one_text t more).has same)

  pub kept_heads : ((n : ℕ) → 0 < n → (seat_at p n).owned ≡ []) → OwnsHeads p ds
  kept_heads others = record {
    heads = λ s own.
        let is = k.owned s in
        let one = one_text s (omega (arith, own, is)) in
        (text_in (all_kept ds) s (slot_at p s).life, one.has);
    others = others;
  }

  abbrev IsKept : SlotId → Type 0
  IsKept s = 0 < times s kept

  told_own : (w : List ℕ) (s : SlotId) → IsKept s → AreBytes w → TellsWord root w s (lives s)
      → w ≡ word_at p views s
  told_own w s some = kept_word_is s some w

  pub kept_counted : (s : SlotId) → 0 < times s kept
      → times s kept ≡ holders_in (word_at p views s) files
  kept_counted = files_counted Told (word_at p views) IsKept told_own kept_one files kept
      k.tells k.bytes (λ t some. some)

  pub refs_counted : IsLeft p views → HasNoNode p → (s : SlotId) → 0 < times s kept
      → strong_refs p s ≡ holders_in (word_at p views s) files
  refs_counted left none s some =
      let own = k.owned s in
      let head = owned_head z p views lawful law left s (omega arith) in
      let refs = head_counted z p views lawful law k.fit left none s head in
      let counted = kept_counted s some in omega arith

  pub kept_words : (w : List ℕ)
      → (0 < holders_in w files) ↔ ((s : SlotId) × (0 < times s kept) × (word_at p views s ≡ w))
  kept_words w = (
    held_is_kept Told (word_at p views) IsKept told_own kept_one w files kept k.tells k.bytes
        (λ t some. some),
    λ r.
        let counted = kept_counted r.0 r.1 in
        let same = ap (λ (x : List ℕ). holders_in x files) r.2 in
        let some = r.1 in omega arith,
  )
