-- What is left after a collect that ejected nothing, made by a seat that is alone.
use Rattle.std.proofs.Common.{◌≡◌, ℕ, ◌≤◌, List, ap, sym, ◌∙◌, arith}
use Rattle.std.specs.Prelude.{IsSome}
use Rattle.protocol_pairs.specs.plain_state.declared.slot.Kind.{Kind}
use Rattle.protocol_pairs.specs.plain_state.declared.slot.Kind.TheVariants.{Disposal}
use Rattle.protocol_pairs.specs.plain_state.declared.slot.SlotId.{SlotId}
use Rattle.protocol_pairs.specs.plain_state.Ejection.{kept}
use Rattle.protocol_pairs.specs.plain_state.Lists.{entry_times}
use Rattle.deleter.proofs.Below.plain_state_Ejections.{kept_times}
use Rattle.claim_law.specs.announce_slots.Seen.{announced_in}
use Rattle.claim_law.specs.core_events.declared.view.CoreView.{CoreView}
use Rattle.claim_law.specs.core_events.Views.{snapshots, valid_of}
use Rattle.retiring_stores.specs.acquire_retire.declared.payment.Work.{Work}
use Rattle.retiring_stores.specs.acquire_retire.Domains.{DomainState}
use Rattle.retiring_stores.specs.acquire_retire.Seats.{SeatState}
use Rattle.retiring_stores.specs.control_word.Resting.{IsAtRest}
use Rattle.slot_store.specs.Leftovers.{IsQuiet}
use Rattle.slot_store.specs.Settling.{Quiets}
use Rattle.slot_store.proofs.OwnNotes.{own_times}
use Rattle.slot_store.proofs.Quieting.{no_items}
use Rattle.slot_store.proofs.Scans.{own_words, unpaid, words_of}

module _ {P V : Type 0} {fits : List ℕ → Type 0} (d : DomainState P) (old new : SeatState V)
    (rest : IsAtRest d old) (known : IsSome old.view.whole) (quiet : Quiets fits d old new) where
  abbrev words : List ℕ
  words = words_of d old new quiet.collected

  -- the words announce what the seat itself is under snapshots of
  own_times_now : (k : Kind) (s : SlotId)
      → announced_in words k s ≤ entry_times k s (snapshots new.view.core)
  own_times_now k s =
      let c = quiet.collected in
      let times = own_times old.view.core words rest.others (own_words d old new rest c known) k s in
      let notes = ap (λ (v : CoreView). entry_times k s (valid_of v.notes)) c.collects.goes.rest in
      omega arith

  kept_now : new.view.core.retired ≡ kept old.view.core.retired (announced_in words)
  kept_now =
      let c = quiet.collected in
      (unpaid d old new rest c (no_items c.collects.payments
      (ap (λ (x : Work). x.ejected) (sym c.collects.did) ∙ quiet.none_ejected))).retired

  pub is_quiet : IsQuiet new.view.core
  is_quiet = record {
    entries = λ k s.
        let is = ap (entry_times k s) kept_now in
        let few = kept_times k s old.view.core.retired (announced_in words) in
        let own = own_times_now k s in omega arith;
    dying = λ s some.
        let told = quiet.announced s some in
        let own = own_times_now Disposal s in omega arith;
    ripe = quiet.none_ripe;
  }
