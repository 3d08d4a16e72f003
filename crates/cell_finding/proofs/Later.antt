-- What was so at a step of a call was so at a step of a longer one, and what was found stays.
use Rattle.std.proofs.Common.{◌≡◌, ℕ, List, sym, ap, subst, arith}
use Rattle.cell_calls.specs.Cells.{area_of}
use Rattle.cell_calls.specs.Keeping.{Keeps}
use Rattle.cell_calls.specs.cell_law.directory_law.Payloads.{Text}
use Rattle.cell_calls.specs.cell_law.directory_law.Views.{In, rope}
use Rattle.cell_calls.specs.cell_protocol.declared.law.CellLaw.{CellLaw}
use Rattle.cell_law.specs.declared.view.View.{View}
use Rattle.directory_law.specs.declared.view.Rope.{Rope}
use Rattle.epoch_domain.specs.plain_protocol.plain_state.declared.slot.SlotId.{SlotId}
use Rattle.epoch_domain.specs.plain_protocol.plain_state.State.{Plain}
use Rattle.epoch_domain.specs.plain_protocol.Owns.{Object}
use Rattle.epoch_domain.specs.epoch_core.declared.view.EpochView.{EpochView}
use Rattle.epoch_domain.specs.epoch_rule.Views.{object_in}
use Rattle.epoch_domain.specs.Domains.{DomainState}
use Rattle.epoch_domain.specs.Seats.{SeatState}
use Rattle.cell_finding.specs.Finding.{IsFound, IsRecordIn}
use Rattle.cell_finding.specs.Looking.{AtStep, HasSeen}
use Rattle.cell_finding.proofs.Looks.{earlier_step, later_step, seen_holds}

module _ (d : DomainState CellLaw) (makes adds : ℕ) (owned : List SlotId) where
  pub step_before : (fact : Plain → Type 0) (old mid new : SeatState View)
      → Keeps makes adds owned old mid → AtStep d fact mid new → AtStep d fact old new
  step_before fact old mid new keeps at =
      later_step d fact old mid new (ap (λ (v : EpochView). v.seat) keeps.same) keeps.goes at

  pub step_after : (fact : Plain → Type 0) (old mid new : SeatState View)
      → AtStep d fact old mid → Keeps makes adds owned mid new → AtStep d fact old new
  step_after fact old mid new at keeps = earlier_step d fact old mid new keeps.goes at

  module _ (text : Text) (s : SlotId) (old mid new : SeatState View) where
    pub found_before : Keeps makes adds owned old mid → IsFound d text s mid new
        → IsFound d text s old new
    found_before keeps found = record {
      noted = found.noted;
      seen = found.seen;
      stood = step_before (IsRecordIn (area_of d.protocol) text s (object_in new.view s).life)
          old mid new keeps found.stood;
    }

    pub found_after : IsFound d text s old mid → Keeps makes adds owned mid new
        → ((e : Rope) → In e mid.view.client.found → In e new.view.client.found)
        → IsFound d text s old new
    found_after found keeps notes =
        let more = keeps.sees s in
        let was = found.seen in
        let seen : HasSeen new.view.core s = omega (arith, more, was) in
        let same : (object_in mid.view s).life ≡ (object_in new.view s).life =
        sym (ap (λ (o : Object). o.life) (keeps.knows s (seen_holds mid.view.core s was)
        (seen_holds new.view.core s seen))) in
        record {
          noted = subst (λ (l : ℕ). In (rope s l text) new.view.client.found) same
              (notes (rope s (object_in mid.view s).life text) found.noted);
          seen = seen;
          stood = subst (λ (l : ℕ). AtStep d (IsRecordIn (area_of d.protocol) text s l) old new) same
              (step_after (IsRecordIn (area_of d.protocol) text s (object_in mid.view s).life)
              old mid new found.stood keeps);
        }
