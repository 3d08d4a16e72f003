-- Where no node is left, what lives is owned, or a slot of the directory that lives leads to it: so the state holds
-- records alone, all of it is reached, and there is nothing of it where nothing is owned.
use Rattle.std.proofs.Common.{◌≡◌, ◌≢◌, ◌⊎◌, inl, inr, ⊎_elim, ℕ, ◌<◌, List, length, get_or, ap, sym, ◌∙◌, arith}
use Rattle.std.proofs.lemmas.Bool.{cases_eq}
use Rattle.plain_audit.specs.plain_state.declared.slot.SlotId.{SlotId}
use Rattle.plain_audit.specs.plain_state.declared.slot.Stage.TheVariants.{Live}
use Rattle.plain_audit.specs.plain_state.Lawful.{Lawful}
use Rattle.plain_audit.specs.plain_state.Lists.{Entry, times}
use Rattle.plain_audit.specs.plain_state.References.{over_slots, strong_fields, strong_refs}
use Rattle.plain_audit.specs.plain_state.State.{Plain, seat_at, slot_at, stage_at}
use Rattle.plain_audit.proofs.Below.plain_state_Kit.{none_by, none_or_some}
use Rattle.words_law.specs.directory_law.Bytes.{IsPiece}
use Rattle.words_law.specs.directory_law.Cells.{Area}
use Rattle.words_law.specs.directory_law.Chains.{OwnSlot}
use Rattle.words_law.specs.directory_law.Law.{DirectoryLaw}
use Rattle.words_law.specs.directory_law.Payloads.{IsHead}
use Rattle.words_law.proofs.Below.directory_law_Kit.{none_some}
use Rattle.plain_audit.specs.heap_audit.Heaps.{slot}
use Rattle.plain_audit.specs.heap_audit.Reached.{HowMany}
use Rattle.plain_audit.specs.Audits.{deferred_entries}
use Rattle.plain_audit.specs.Reached.{IsUnreached}
use Rattle.words_law.specs.Texts.{AllPieces}
use Rattle.words_law.specs.Views.{View, directories}
use Rattle.record_counts.specs.Records.{HoldsRecords}
use Rattle.record_counts.proofs.Living as held
use Rattle.record_counts.proofs.Living.{Second}
use Rattle.record_counts.proofs.Sums.{seats_none}
use Rattle.words_rest.specs.Nodes.{HasNoNode, IsAllReached, IsLiveNode}
use Rattle.words_rest.specs.Rest.{IsLeft, Rests}
use Rattle.words_rest.proofs.Heads.{live_kind}
use Rattle.words_rest.proofs.Referring.{referrer, refs_are}

module _ (z : Area) (p : Plain) (views : List View) (lawful : Lawful p)
    (law : DirectoryLaw z p (directories views)) (fit : AllPieces p) (left : IsLeft p views)
    (none : HasNoNode p) where
  own_live : (s : SlotId) → stage_at p s ≡ Live → OwnSlot p s
  own_live s live = ⊎_elim
      (λ (node : IsLiveNode p s). absurd (none s node))
      (λ (own : OwnSlot p s). own)
      (live_kind p fit s live)

  piece_at : (s : SlotId) → stage_at p s ≡ Live → IsPiece (slot_at p s).payload
  piece_at s live = ⊎_elim
      (λ zero. absurd (none s (live, (fit s (inl live)).0 zero)))
      (λ some. (fit s (inl live)).1 some)
      (cases_eq (get_or (slot_at p s).payload 0 0) 0)

  -- what a field holds, field 1 of a slot that lives leads to
  before : (s : SlotId) → 0 < over_slots (strong_fields s) p.slots
      → (t : SlotId) × (stage_at p t ≡ Live) × Second p t s
  before s some =
      let r = referrer p views left s lawful some in (
        r.0,
        r.1,
        ⊎_elim
            (λ first. absurd (none_some s (sym (law.shape r.0 (own_live r.0 r.1)).0 ∙ first)))
            (λ second. second) r.2,
      )

  pub holds : HoldsRecords p
  holds = record { pieces = piece_at; led = led }
    where
      led : (s : SlotId) → stage_at p s ≡ Live
          → (0 < times s (seat_at p 0).owned)
          ⊎ ((t : SlotId) × (stage_at p t ≡ Live) × Second p t s)
      led s live = ⊎_elim
          (λ (no : times s (seat_at p 0).owned ≡ 0).
          let some = left.rests.live s live in
          let are = refs_are p views left s in inr (before s (omega arith)))
          (λ (own : 0 < times s (seat_at p 0).owned). inl own)
          (none_or_some (times s (seat_at p 0).owned))

  pub head_counted : (s : SlotId) → IsHead (slot_at p s).payload
      → strong_refs p s ≡ times s (seat_at p 0).owned
  head_counted s head =
      let fields = none_by (over_slots (strong_fields s) p.slots) (λ some.
      let b = before s some in
      let part = held.leads_to_part z p (directories views) lawful law holds b.0 s b.1 b.2 in
      let most = head.1 in omega arith) in
      let are = refs_are p views left s in omega arith

  pub all_reached : IsAllReached p
  all_reached = held.all_reached z p (directories views) lawful law holds

  pub none_cyclic : (many : ℕ) → HowMany (λ n. IsUnreached p (slot n)) (length p.slots) many
      → many ≡ 0
  none_cyclic = held.none_cyclic z p (directories views) lawful law holds

  pub none_lives : ((s : SlotId) → times s (seat_at p 0).owned ≡ 0) → (s : SlotId)
      → stage_at p s ≢ Live
  none_lives = held.none_lives z p (directories views) lawful law holds

pub none_deferred : (p : Plain) → Rests p → deferred_entries p ≡ 0
none_deferred p rests = seats_none (λ v. length v.deferred) p.seats
    (λ n. ap (λ (es : List Entry). length es) (rests.seats n).deferred)
