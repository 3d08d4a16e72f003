-- What a look at field 1 shows.
use Rattle.std.proofs.Common.{◌≡◌, ◌≢◌, inl, inr, ℕ, List, [], ◌∷◌, ◌++◌, refl, sym, ap, subst, ◌∙◌}
use Rattle.std.specs.Prelude.{Option, Some, None}
use Rattle.cell_calls.specs.Cells.{area_of}
use Rattle.cell_calls.specs.Keeping.{Learns}
use Rattle.cell_calls.specs.cell_law.Lessons.{ReadReady, ReadTells, read_next, sees_part}
use Rattle.cell_law.specs.declared.view.Sight.{Sight}
use Rattle.cell_law.specs.declared.view.View.{View}
use Rattle.cell_calls.specs.cell_law.Walks.{HasAll, last_of, last_sight}
use Rattle.cell_calls.specs.cell_law.directory_law.Cells.{Area}
use Rattle.cell_calls.specs.cell_law.directory_law.Payloads.{IsText}
use Rattle.cell_calls.specs.cell_law.directory_law.Views.{Each}
use Rattle.cell_calls.specs.cell_protocol.declared.law.CellLaw.{CellLaw}
use Rattle.directory_law.proofs.Notes.{each_append, each_known}
use Rattle.epoch_domain.specs.plain_protocol.plain_state.declared.act.EventPlace.TheVariants.{Field}
use Rattle.epoch_domain.specs.plain_protocol.plain_state.declared.act.PlainAct.TheVariants as plain
use Rattle.epoch_domain.specs.plain_protocol.plain_state.declared.slot.SlotId.{SlotId}
use Rattle.epoch_domain.specs.plain_protocol.plain_state.State.{Plain, slot_at}
use Rattle.epoch_domain.specs.plain_protocol.Owns.{own_part}
use Rattle.epoch_domain.specs.epoch_core.core_events.Words.{slot_in}
use Rattle.epoch_domain.specs.epoch_core.declared.act.EpochAct.TheVariants as act
use Rattle.epoch_domain.specs.epoch_core.declared.outcome.EpochOutcome.TheVariants as outcome
use Rattle.epoch_domain.specs.epoch_rule.Views.{own_of}
use Rattle.epoch_domain.specs.Calls.{Steps}
use Rattle.epoch_domain.specs.Domains.{DomainState}
use Rattle.epoch_domain.specs.Seats.{SeatState}
use Rattle.epoch_domain.proofs.Below.epoch_rule_Others.{held_has}
use Rattle.cell_finding.specs.Comparing.{GoesOnTo, IsAlong, sighted, sighted_text}
use Rattle.cell_finding.specs.Looking.{HasSeen, OnlyLooks}
use Rattle.cell_finding.proofs.Along.{first_added, has_along, holds_last, last_added, none_added, region_kept}
use Rattle.cell_finding.proofs.Looks.{look_few, look_keeps, look_sees}
use Rattle.cell_finding.proofs.Past.{payloads_same}
use Rattle.cell_finding.proofs.Shown.{objects_told, second_shows, slot_is, state, there, word_is, word_some}
use Rattle.cell_finding.proofs.Sighted.{along_by}

-- a look at field 1 of the last slot is ready
pub read_ready : (head last : SlotId) (a : SeatState View) → IsAlong head last a
    → ReadReady (own_of a.view) a.view.client (plain.Look (Field last 1))
read_ready head last a along = record {
  is_open = along.is_open;
  earlier = along.earlier;
  seen = along.seen;
  some_slot = along.some_slot;
  looks = inl (ap (λ (s : SlotId). plain.Look (Field s 1)) (sym along.last_is));
}

module _ (fits : List ℕ → Type 0) (d : DomainState CellLaw) (head last : SlotId)
    (x : Option SlotId) (old new : SeatState View) (along : IsAlong head last old)
    (step : Steps fits d read_next (ReadTells (area_of d.protocol)) (act.Look (Field last 1)) old new
    (outcome.Found x)) where
  abbrev z : Area
  z = area_of d.protocol

  abbrev p : Plain
  p = state fits d read_next (ReadTells z) (Field last 1) x old new step

  abbrev ss : List SlotId
  ss = (sighted old).slots

  told : (s : SlotId) → (own_part p old.view.core.seat).objects s ≡ (own_of old.view).objects s
  told = objects_told fits d read_next (ReadTells z) (Field last 1) x old new step

  -- where the payloads so far aren't a whole text there is a part
  module _ (none : x ≡ None) where
    null_there : (slot_at p (last_of ss)).second ≡ None
    null_there =
        let held = holds_last head last old along in
        let inside = there fits d read_next (ReadTells z) (Field last 1) x old new step last
        (held_has last old.view.core held) in
        let w = word_is fits d read_next (ReadTells z) (Field last 1) x old new step in
        ap (λ (s : SlotId). (slot_at p s).second) along.last_is
        ∙ (second_shows d.shape step.told.happened.before last inside
        ∙ (ap slot_in (sym w)
        ∙ (slot_is fits d read_next (ReadTells z) (Field last 1) x old new step ∙ none)))

    has_there : HasAll (own_part p old.view.core.seat) ss
    has_there =
        each_known (λ (s : SlotId). (own_of old.view).objects s ≢ None)
        (λ (s : SlotId). (own_part p old.view.core.seat).objects s ≢ None) ss
        (λ s i some is. some (sym (told s) ∙ is)) (has_along head last old along)

    pub whole_then : IsText (sighted_text old)
    whole_then =
        subst IsText
        (payloads_same (own_of old.view) (own_part p old.view.core.seat) ss (λ s i. told s))
        (step.told.happened.fact.2.2 has_there null_there)

  read_looks : OnlyLooks 1 old new
  read_looks = record {
    keeps = look_keeps fits d read_next (ReadTells z) (Field last 1) (outcome.Found x) old new step;
    learns = subst (λ (v : View). Learns old.view.client v) (sym step.told.client)
        (record { saw = λ e i. inr i; found = λ e i. i; rest = refl });
    few = look_few fits d read_next (ReadTells z) (Field last 1) (outcome.Found x) old new step;
  }

  module _ (part : SlotId) (some : x ≡ Some part) where
    found : slot_in step.word ≡ Some part
    found = slot_is fits d read_next (ReadTells z) (Field last 1) x old new step ∙ some

    abbrev longer : Sight
    longer = record (sighted old) { slots = ss ++ part ∷ [] }

    client_is : new.view.client
        ≡ record old.view.client { seen = longer ∷ old.view.client.seen }
    client_is =
        step.told.client
        ∙ ap (λ (k : ℕ).
        record old.view.client { seen = sees_part k (sighted old) ∷ old.view.client.seen })
        (word_some step.word part found)

    seen_is : new.view.client.seen ≡ longer ∷ old.view.client.seen
    seen_is = ap (λ (v : View). v.seen) client_is

    region : Each (HasSeen new.view.core) longer.slots
    region =
        each_append (HasSeen new.view.core) ss (part ∷ [])
        (region_kept head last old along 1 new read_looks) (
          look_sees fits d read_next (ReadTells z) (Field last 1) (outcome.Found x) old new step
              part found,
          tt,
        )

    pub goes_on_to : GoesOnTo head part old new
    goes_on_to = record {
      along = along_by head part new longer old.view.client.seen seen_is
          (ap (λ (v : View). v.cleared) client_is ∙ along.is_open) (none_added ss part)
          (first_added ss part along.some_slot ∙ along.first_is) (last_added ss part) region;
      cell = ap (λ (es : List Sight). (last_sight es).cell) seen_is;
      slots = ap (λ (es : List Sight). (last_sight es).slots) seen_is;
      looks = read_looks;
    }
