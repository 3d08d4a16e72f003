-- What lives is a node or a slot of the directory; what seat 0 owns is a head, the live record of its text.
use Rattle.std.proofs.Common.{◌≡◌, ◌⊎◌, inl, inr, ⊎_elim, ℕ, ◌<◌, List, [], get_or, ap, arith}
use Rattle.std.proofs.lemmas.Bool.{cases_eq}
use Rattle.plain_audit.specs.plain_state.declared.slot.SlotId.{SlotId}
use Rattle.plain_audit.specs.plain_state.declared.slot.Stage.TheVariants.{Live}
use Rattle.plain_audit.specs.plain_state.Lawful.{Lawful}
use Rattle.plain_audit.specs.plain_state.Lists.{times}
use Rattle.plain_audit.specs.plain_state.References.{strong_refs}
use Rattle.plain_audit.specs.plain_state.State.{Plain, seat_at, slot_at, stage_at}
use Rattle.words_law.specs.queue_law.declared.view.Item.{Item}
use Rattle.words_law.specs.directory_law.declared.view.View.{View as DirectoryView}
use Rattle.words_law.specs.directory_law.Bytes.{text_bytes}
use Rattle.words_law.specs.directory_law.Cells.{Area}
use Rattle.words_law.specs.directory_law.Chains.{OwnSlot, Reads}
use Rattle.words_law.specs.directory_law.Law.{DirectoryLaw, IsBound}
use Rattle.words_law.specs.directory_law.Payloads.{IsHead, IsText}
use Rattle.words_law.specs.directory_law.Views.{keeps}
use Rattle.words_law.proofs.Below.directory_law_Bytes.{piece_own}
use Rattle.words_law.proofs.Below.directory_law_Chains.{live_own}
use Rattle.words_law.proofs.Below.directory_law_Gives.{kept_reads, kept_stands, set_cell}
use Rattle.words_law.proofs.Below.directory_law_Kept.{kept_counts}
use Rattle.words_law.specs.Law.{head_of}
use Rattle.words_law.specs.Texts.{AllPieces, HasOneText, IsAlive, all_kept, text_in, word_of_item}
use Rattle.words_law.specs.Views.{View, directories}
use Rattle.words_law.proofs.Texts.{has_one}
use Rattle.words_rest.specs.Nodes.{IsLiveNode}
use Rattle.words_rest.specs.Records.{word_at}
use Rattle.words_rest.specs.Rest.{IsLeft}
use Rattle.words_rest.proofs.Referring.{refs_are}

pub live_kind : (p : Plain) → AllPieces p → (s : SlotId) → stage_at p s ≡ Live
    → IsLiveNode p s ⊎ OwnSlot p s
live_kind p fit s live = ⊎_elim
    (λ zero. inl (live, (fit s (inl live)).0 zero))
    (λ some. inr (live_own p s live
    (piece_own (slot_at p s).payload ((fit s (inl live)).1 some))))
    (cases_eq (get_or (slot_at p s).payload 0 0) 0)

-- a slot is in one life
pub slot_word : (p : Plain) (views : List View) (x : Item) → IsAlive p x
    → word_at p views (head_of x) ≡ word_of_item (all_kept (directories views)) x
slot_word p views x alive =
    ap (λ (l : ℕ). text_bytes (text_in (all_kept (directories views)) (head_of x) l)) alive.life

module _ (z : Area) (p : Plain) (views : List View) (lawful : Lawful p)
    (law : DirectoryLaw z p (directories views)) (left : IsLeft p views)
    (s : SlotId) (own : 0 < times s (seat_at p 0).owned) where
  abbrev ds : List DirectoryView
  ds = directories views

  abbrev life : ℕ
  life = (slot_at p s).life

  kept_once : 0 < keeps ds s life
  kept_once = let h = left.owns.heads s own in kept_counts ds s life h.0 h.1

  pub owned_head : IsHead (slot_at p s).payload
  owned_head =
      let at = law.stands s life kept_once in
      (set_cell z p ds law at.0 s at.1 at.2).head

  owned_refs : 0 < strong_refs p s
  owned_refs = omega (arith, own, refs_are p views left s)

  pub owned_live : stage_at p s ≡ Live
  owned_live = (lawful.strong s owned_refs).0

  abbrev item : Item
  item = record { slot = s.0; life = life; payload = [] }

  owned_text : HasOneText ds item
  owned_text = let h = left.owns.heads s own in has_one z p ds law item h.0 h.1

  pub owned_reads : Reads p s (text_in (all_kept ds) s life)
      × IsText (text_in (all_kept ds) s life)
  owned_reads =
      kept_reads z p ds law s (text_in (all_kept ds) s life) owned_text.has owned_live

  pub owned_bound : IsBound z p (text_in (all_kept ds) s life) s
  owned_bound = record {
    stands = (kept_stands z p ds law s life kept_once).0;
    stage = owned_live;
    mark = (lawful.strong s owned_refs).1;
    reads = owned_reads.0;
  }
