-- The audit of the words that a seat takes of what isn't free is one of the state that it knows.
use Rattle.std.proofs.Common.{◌≡◌, ℕ, ◌+◌, ◌<◌, ◌≤◌, List, [], ◌++◌, length, map, All, refl, ap, sym, ◌∙◌, subst, arith}
use Rattle.std.specs.Prelude.{IfOk, Result, Some, slice_index}
use Rattle.plain_audit.specs.plain_state.declared.image.Heap.{Heap}
use Rattle.plain_audit.specs.plain_state.declared.slot.SlotId.{SlotId}
use Rattle.plain_audit.specs.plain_state.State.{Plain, PlainSeat, seat_at}
use Rattle.protected_loads.specs.core_events.declared.view.CoreView.{CoreView}
use Rattle.protected_loads.specs.core_events.Runs.{Core}
use Rattle.protected_loads.specs.core_events.Shows.{show_seat, shows}
use Rattle.protected_loads.specs.core_events.Steps.{HasRoom, IsIdle}
use Rattle.protected_loads.specs.acquire_retire.Domains.{DomainState}
use Rattle.protected_loads.specs.acquire_retire.Seats.{SeatState}
use Rattle.protected_loads.specs.acquire_retire.Taken.{IsTakenImage}
use Rattle.protected_loads.specs.acquire_retire.Wholes.{known_core}
use Rattle.slot_store.proofs.Below.acquire_retire_Wholes.{then_ok}
use Rattle.protected_loads.specs.control_word.Resting.{IsAtRest}
use Rattle.plain_audit.specs.heap_audit.declared.finding.Audit.{Audit}
use Rattle.plain_audit.specs.Audits.{IsAudit}
use Rattle.taken_audit.specs.Parts.{AreRanks, HasTaken}
use Rattle.taken_audit.proofs.Whole.{all_within, ranks_by}
use Rattle.domain_audit.specs.Audits.{IsWholeAudit, KnowsLone, Stays, numbers}
use Rattle.domain_audit.specs.Lone.{IsLone}
use Rattle.protected_loads.proofs.Below.core_law_Bridge.{shown_seat}
use Rattle.protected_loads.proofs.Below.core_law_Each.{get_each}
use Rattle.domain_audit.proofs.AllCyclic.{all_cyclic}
use Rattle.domain_audit.proofs.Learning.{knows_shown}
use Rattle.domain_audit.proofs.OneSeat.{IsLoneState, audit_same, has_words, is_heap, is_settled, with_one_seat}
use Rattle.domain_audit.proofs.Showing.{lone_state, size}

some_same : {A : Type 0} (x y : A) → Some x ≡ Some y → x ≡ y
some_same x y e = cc (e)

module _ {P V : Type 0} {fits : List ℕ → Type 0} (d : DomainState P) (old seat : SeatState V) where
  -- what was so of the seat but for its trail is so
  pub room_stays : Stays fits d old seat → HasRoom old.view.core → HasRoom seat.view.core
  room_stays stays = subst HasRoom (sym stays.1.core)

  dying_stays : Stays fits d old seat → old.view.core.dying ≡ [] → seat.view.core.dying ≡ []
  dying_stays stays none = ap (λ (v : CoreView). v.dying) stays.1.core ∙ none

  module _ (stays : Stays fits d old seat) (none_dying : old.view.core.dying ≡ [])
      (knows : KnowsLone fits d seat) (rest : IsAtRest d seat) (taken : List SlotId) (words : Heap)
      (whole : IsTakenImage fits seat.view taken words) where
    abbrev core : Core
    core = known_core seat.view

    lone : IsLone core
    lone = record {
      others = knows.others;
      idle = subst (λ (v : CoreView). IsIdle v) knows.half rest.idle;
      none_dying = ap (λ (v : CoreView). v.dying) (sym knows.half) ∙ dying_stays stays none_dying;
    }

    -- the state of these words is what the core shows
    state_is : whole.state ≡ shows d.shape core
    state_is = some_same whole.state (shows d.shape core)
        (sym whole.knows.whole ∙ knows_shown d.shape seat.view rest.of_domain.1 knows.known)

    state : IsLoneState fits whole.state
    state = subst (IsLoneState fits) (sym state_is)
        (lone_state d.shape core knows.sound lone fits knows.fit)

    pub has_taken : HasTaken fits (with_one_seat whole.state) taken words
    has_taken = record {
      state = is_heap fits whole.state state;
      settled = is_settled fits whole.state state;
      all = whole.all;
      words = has_words fits whole.state state taken words whole.words;
    }

    slots_are : length whole.state.slots ≡ d.shape.slots
    slots_are = ap (λ (p : Plain). length p.slots) state_is ∙ size d.shape core knows.sound

    -- each slot that is listed has a rank
    pub within : (ranks : List ℕ) → length ranks ≡ d.shape.slots
        → All (λ (s : SlotId). s.0 < length ranks) taken
    within ranks count = subst (λ (n : ℕ). All (λ (s : SlotId). s.0 < n) taken)
        (slots_are ∙ sym count)
        (all_within fits (with_one_seat whole.state) taken words words has_taken)

    pub numbered : (places : List ℕ) → places ≡ map (λ (s : SlotId). s.0) taken
        → AreRanks taken places (numbers d.shape.slots)
    numbered places are = ranks_by (λ (s : SlotId). s.0) taken places (numbers d.shape.slots) are
        (λ s lt. let at : 0 + s.0 ≡ s.0 = omega arith in
        sym (get_each 0 d.shape.slots s.0 (λ i. i) 0 lt ∙ at))
        (subst (λ (n : ℕ). All (λ (s : SlotId). s.0 < n) taken) slots_are
        (all_within fits (with_one_seat whole.state) taken words words has_taken))

    pub ranked : (ranks : List ℕ) → length ranks ≡ d.shape.slots → (places : List ℕ)
        → places ≡ map (λ (s : SlotId). slice_index ranks s.0) taken → AreRanks taken places ranks
    ranked ranks count places are = ranks_by (λ (s : SlotId). slice_index ranks s.0) taken places
        ranks are (λ s lt. refl) (within ranks count)

    -- of which the seat has this part
    seat_is : seat_at whole.state 0 ≡ show_seat seat.view.core
    seat_is =
        let views = knows.sound.views in
        let some_seat = knows.sound.shape.0 in
        ap (λ (p : Plain). seat_at p 0) state_is
        ∙ (shown_seat d.shape core 0 (omega arith) ∙ ap show_seat (sym knows.half))

    whole_audit : (weight : List ℕ → ℕ) (ranks : List ℕ) (found : Audit)
        → IsAudit weight ranks (with_one_seat whole.state) found
        → IsWholeAudit fits weight ranks seat.view found
    whole_audit weight ranks found is =
        let audit = audit_same fits whole.state state weight ranks found is in record {
          state = whole.state;
          knows = whole.knows;
          audit = audit;
          left = λ holds. all_cyclic fits whole.state state
              (ap (λ (v : PlainSeat). v.owned) seat_is ∙ holds.0)
              (ap (λ (v : PlainSeat). v.deferred) seat_is ∙ λ i. holds.1 i ++ holds.2 i)
              holds.3 weight ranks found audit;
        }

    -- and the words leave the seat as it is
    pub audits : {E : Type 0} (weight : List ℕ → ℕ) (places ranks : List ℕ)
        (are : AreRanks taken places ranks) (r : Result Audit E) (late : SeatState V) → late ≡ seat
        → IfOk r (λ found. (p : Plain) → HasTaken fits p taken words → (ranks : List ℕ)
        → AreRanks taken places ranks → IsAudit weight ranks p found)
        → IfOk r (IsWholeAudit fits weight ranks late.view)
    audits weight places ranks are r late same told =
        then_ok (λ found. (p : Plain) → HasTaken fits p taken words → (ranks : List ℕ)
        → AreRanks taken places ranks → IsAudit weight ranks p found)
        (IsWholeAudit fits weight ranks late.view) r
        (λ found all. subst (λ (x : SeatState V). IsWholeAudit fits weight ranks x.view found)
        (sym same) (whole_audit weight ranks found
        (all (with_one_seat whole.state) has_taken ranks are)))
        told
