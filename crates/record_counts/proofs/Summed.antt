-- What lives are the slots of the records that seat 0 owns, each once.
use Rattle.std.specs.Prelude.{sum_by, Some}
use Rattle.std.specs.List.{flat_map}
use Rattle.std.proofs.Common.{◌≡◌, inl, inr, ⊎_elim, ℕ, ◌<◌, List, ◌∷◌, length, refl, ap, sym, subst, ◌∙◌, arith}
use Rattle.std.proofs.lemmas.List.Sums.{sum_by-cons}
use Rattle.plain_audit.specs.plain_state.declared.slot.SlotId.{SlotId}
use Rattle.plain_audit.specs.plain_state.declared.slot.Stage.TheVariants.{Live}
use Rattle.plain_audit.specs.plain_state.Lawful.{Lawful}
use Rattle.plain_audit.specs.plain_state.Lists.{times}
use Rattle.plain_audit.specs.plain_state.References.{held_in, over_slots, strong_refs}
use Rattle.plain_audit.specs.plain_state.State.{Plain, seat_at, slot_at, stage_at}
use Rattle.plain_audit.proofs.Below.plain_state_Kit.{held_other, times_cons}
use Rattle.directory_law.specs.declared.view.View.{View as DirectoryView}
use Rattle.directory_law.specs.Bytes.{piece_weight, text_bytes}
use Rattle.directory_law.specs.Cells.{Area}
use Rattle.directory_law.specs.Chains.{Reads}
use Rattle.directory_law.specs.Law.{DirectoryLaw}
use Rattle.directory_law.specs.Payloads.{IsHead, IsPart, IsText, Text}
use Rattle.directory_law.specs.Views.{Each}
use Rattle.directory_law.proofs.Chains.{begins_head}
use Rattle.plain_audit.specs.Audits.{if_live, live_bytes, live_slots}
use Rattle.cdrc_text.specs.Text.{slots_of_word}
use Rattle.record_counts.specs.Records.{AreOwned, HoldsRecords, OwnsTexts, words_of}
use Rattle.record_counts.proofs.Added.{slots_listed}
use Rattle.record_counts.proofs.Chains.{chain, chain_of_parts, chain_passes, chain_weighs, live_weighs, weighed}
use Rattle.record_counts.proofs.Lengths.{IsFull, text_slots, text_weighs}
use Rattle.record_counts.proofs.Listed.{members_same, sum_flat, sum_mapped, times_flat, times_summed}
use Rattle.record_counts.proofs.Living.{leads_to_part, living, own_live, root_refs}
use Rattle.record_counts.proofs.Pieces.{along_full, piece_full}
use Rattle.record_counts.proofs.Sums.{if_not_live, stage_live}

module _ (z : Area) (p : Plain) (views : List DirectoryView) (lawful : Lawful p)
    (law : DirectoryLaw z p views) (holds : HoldsRecords p) (text : SlotId → Text)
    (owns : OwnsTexts p text) where
  -- the slots of a record
  abbrev record_at : SlotId → List SlotId
  record_at s = chain p (text s) (Some s)

  -- ONE RECORD: its head, and then parts
  module _ (h : SlotId) (own : 0 < times h (seat_at p 0).owned) where
    reads : Reads p h (text h)
    reads = (owns h own).0

    owned_head : IsHead (slot_at p h).payload
    owned_head = begins_head p h (text h) (owns h own).1 (reads.0, reads.1)

    owned_live : stage_at p h ≡ Live
    owned_live =
        let least = root_refs h p.seats in
        let some : 0 < strong_refs p h = omega arith in (lawful.strong h some).0

    record_is : record_at h ≡ h ∷ chain p reads.0 (slot_at p h).second
    record_is = ap (λ (t : Text). chain p t (Some h)) reads.1

    record_weighs : (weight : List ℕ → ℕ)
        → sum_by (weighed weight p) (record_at h) ≡ sum_by weight (text h)
    record_weighs weight =
        let here = live_weighs weight p h (slot_at p h).payload owned_live refl in
        let rest = chain_weighs p weight lawful h reads.0 reads.2 in
        let is = ap (λ (xs : List SlotId). sum_by (weighed weight p) xs) record_is in
        let one = sum_by-cons (weighed weight p) h (chain p reads.0 (slot_at p h).second) in
        let two = sum_by-cons weight (slot_at p h).payload reads.0 in
        let all = ap (λ (t : Text). sum_by weight t) reads.1 in omega arith

    record_head : (k : SlotId) → ¬ (IsPart (slot_at p k).payload)
        → times k (record_at h) ≡ held_in k (Some h)
    record_head k not =
        let none = chain_of_parts p k not (slot_at p h).second reads.0 reads.2 in
        let is = ap (times k) record_is in
        let all = times_cons k h (chain p reads.0 (slot_at p h).second) in omega arith

    record_passes : (t k : SlotId) → stage_at p t ≡ Live → (slot_at p t).second ≡ Some k
        → times k (record_at h) ≡ times t (record_at h)
    record_passes t k live leads =
        let own_t = own_live z p views lawful law holds t live in
        let own_h = own_live z p views lawful law holds h owned_live in
        let passes = chain_passes z p views lawful law t k own_t leads h reads.0 own_h reads.2 in
        let part = leads_to_part z p views lawful law holds t k live leads in
        let apart = held_other k h (λ e.
        let same : (slot_at p h).payload ≡ (slot_at p k).payload =
        ap (λ (n : ℕ). (slot_at p (record { 0 = n })).payload) e in
        let no_part : IsPart (slot_at p h).payload = subst IsPart (sym same) part in
        let most = owned_head.1 in omega arith) in
        let is = ap (times k) record_is in
        let is_too = ap (times t) record_is in
        let all = times_cons k h (chain p reads.0 (slot_at p h).second) in omega arith

    -- the payloads of its text are those of a head and of parts
    record_full : Each IsFull (text h)
    record_full =
        subst (λ (t : Text). Each IsFull t) (sym reads.1) (
          piece_full (slot_at p h).payload (holds.pieces h owned_live),
          along_full p lawful holds h reads.0 reads.2,
        )

  -- ALL RECORDS: each slot that lives stands in one of them, once
  module _ (heads : List SlotId) (are : AreOwned p heads) where
    abbrev all : List SlotId
    all = flat_map record_at heads

    listed : (s : SlotId) → 0 < times s heads → 0 < times s (seat_at p 0).owned
    listed s some = (are.owned s).0 some

    live_once : (k : SlotId) → stage_at p k ≡ Live → times k all ≡ 1
    live_once = living z p views lawful law holds (λ k. times k all ≡ 1)
        (λ k own.
        let head = owned_head k own in
        let flat = times_flat k record_at heads in
        let same = members_same (λ h. times k (record_at h)) (λ h. held_in k (Some h)) heads
        (λ h some. record_head h (listed h some) k (λ part. let most = head.1 in omega arith)) in
        let sum = times_summed k heads in
        let some = (are.owned k).1 own in
        let once = are.once k in omega arith)
        (λ t k live leads one.
        let flat = times_flat k record_at heads in
        let flat_too = times_flat t record_at heads in
        let same = members_same (λ h. times k (record_at h)) (λ h. times t (record_at h)) heads
        (λ h some. record_passes h (listed h some) t k live leads) in omega arith)

    records_weigh : (weight : List ℕ → ℕ)
        → over_slots (λ x. if_live (weight x.payload) x.stage) p.slots
        ≡ sum_by (λ (h : SlotId). sum_by weight (text h)) heads
    records_weigh weight =
        slots_listed (λ x. if_live (weight x.payload) x.stage) p.slots all refl
        (λ s. ⊎_elim
        (λ (live : stage_at p s ≡ Live). inr (live_once s live))
        (λ not. inl (if_not_live (weight (slot_at p s).payload) (stage_at p s) not))
        (stage_live (stage_at p s)))
        ∙ (sum_flat (weighed weight p) record_at heads
        ∙ members_same (λ h. sum_by (weighed weight p) (record_at h))
        (λ h. sum_by weight (text h)) heads
        (λ h some. record_weighs h (listed h some) weight))

    -- what a number of each record's word adds up to, where the payloads of its text make this number
    pub records_tell : (weight : List ℕ → ℕ) (f : List ℕ → ℕ)
        → ((t : Text) → IsText t → Each IsFull t → sum_by weight t ≡ f (text_bytes t))
        → over_slots (λ x. if_live (weight x.payload) x.stage) p.slots
        ≡ sum_by f (words_of text heads)
    records_tell weight f tells =
        records_weigh weight
        ∙ (members_same (λ h. sum_by weight (text h)) (λ h. f (text_bytes (text h))) heads
        (λ h some. tells (text h) (owns h (listed h some)).1 (record_full h (listed h some)))
        ∙ sum_mapped f (λ (s : SlotId). text_bytes (text s)) heads)

    pub slots_told : live_slots p ≡ sum_by slots_of_word (words_of text heads)
    slots_told = records_tell (λ t. 1) slots_of_word text_slots

    pub bytes_told : live_bytes piece_weight p
        ≡ sum_by (λ (w : List ℕ). length w) (words_of text heads)
    bytes_told = records_tell piece_weight (λ (w : List ℕ). length w) text_weighs
