-- A part that is protected by a look and a check, which find the same.
use Rattle.std.proofs.Common.{◌≡◌, ◌≢◌, inl, inr, ℕ, suc, ◌+◌, ◌<◌, List, ◌∷◌, ◌++◌, length, refl, sym, ap, subst, ◌∙◌, arith, Some, None}
use Rattle.std.specs.Prelude.{Option, if◌then◌else◌}
use Rattle.snapshot_ptr.specs.plain_state.declared.act.EventPlace.{EventPlace}
use Rattle.snapshot_ptr.specs.plain_state.declared.act.EventPlace.TheVariants.{Field}
use Rattle.snapshot_ptr.specs.plain_state.declared.act.PlainAct.{PlainAct}
use Rattle.snapshot_ptr.specs.plain_state.declared.act.PlainAct.TheVariants as plain
use Rattle.snapshot_ptr.specs.plain_state.declared.slot.Kind.TheVariants.{Strong}
use Rattle.snapshot_ptr.specs.plain_state.declared.slot.SlotId.{SlotId}
use Rattle.snapshot_ptr.specs.plain_state.Lists.{Entry, entry_times, times}
use Rattle.snapshot_ptr.specs.plain_state.State.{Plain, slot_at}
use Rattle.snapshot_ptr.specs.plain_protocol.Acts.{Owned}
use Rattle.snapshot_ptr.specs.plain_protocol.Owns.{HasSlot, Object, OwnPart}
use Rattle.slot_store.specs.protocol_pairs.Parts.{Accepts, Frees}
use Rattle.slot_store.specs.core_events.declared.act.Act.TheVariants as act
use Rattle.slot_store.specs.core_events.declared.outcome.Outcome.{Outcome}
use Rattle.slot_store.specs.core_events.declared.outcome.Outcome.TheVariants as outcome
use Rattle.slot_store.specs.core_events.declared.view.CoreView.{CoreView}
use Rattle.slot_store.specs.core_events.declared.view.Note.TheVariants as note
use Rattle.slot_store.specs.core_events.Runs.{after}
use Rattle.slot_store.specs.core_events.Shows.{show_seat, shows}
use Rattle.slot_store.specs.core_events.Steps.{IsIdle, with_note}
use Rattle.slot_store.specs.core_events.Views.{HoldsStrongly, IsReadable, note_of}
use Rattle.slot_store.specs.core_events.Words.{slot_in}
use Rattle.slot_store.specs.domain_rule.Views.{object_in, own_of}
use Rattle.slot_store.specs.acquire_retire.Calls.{IsOf, IsReady, IsSameView, Steps, same_view}
use Rattle.slot_store.specs.acquire_retire.Domains.{DomainState}
use Rattle.slot_store.specs.acquire_retire.Seats.{SeatState}
use Rattle.slot_store.proofs.Below.acquire_retire_Contents.{check_on, look_on}
use Rattle.slot_store.specs.control_word.Moves.{KnowsStill}
use Rattle.slot_store.specs.control_word.Resting.{IsAtRest}
use Rattle.snapshot_ptr.specs.protected_loads.Loads.{Announces, Protects, announced_by}
use Rattle.snapshot_ptr.proofs.Below.protected_loads_Checking.{has_announced, may_check, moved_word}
use Rattle.snapshot_ptr.proofs.Below.protected_loads_Noting.{announced_not_valid, announced_same}
use Rattle.snapshot_ptr.proofs.Below.protected_loads_Looking.{Looks, announces, may_announce}
use Rattle.snapshot_ptr.proofs.Below.protected_loads_Protecting.{holds_snapshot, protected}
use Rattle.snapshot_ptr.proofs.Below.protected_loads_Telling.{content_found, four_notes, holds_has}
use Rattle.directory_calls.specs.directory_law.declared.view.Led.{Led}
use Rattle.directory_calls.specs.directory_law.declared.view.Ran.{Ran}
use Rattle.directory_calls.specs.directory_law.declared.view.View.{View}
use Rattle.directory_calls.specs.directory_law.Views.{In}
use Rattle.directory_calls.specs.directory_law.Lessons.{ReadReady, ReadTells, first_ran, lead_next, leads, read_next, reads_on, reads_part}
use Rattle.directory_calls.specs.directory_law.Payloads.{IsText}
use Rattle.directory_calls.specs.directory_law.Steps.{life_in, life_of}
use Rattle.directory_calls.specs.directory_protocol.Keeping.{MindsNone}
use Rattle.directory_calls.proofs.Learnt.{learns_keeps}
use Rattle.directory_calls.proofs.Parts.{LearnsBy, Place, lift_learns, lift_ready, lifts, part_then, tells}
use Rattle.text_reading.specs.Going.{ComesTo, IsReading, PartTells, ReadsOn, last_run}
use Rattle.text_reading.proofs.Leading.{as_seen, calm_look, lead_learns, read_learns, read_ready, rest_as_seen, word_is}

module _ {P V : Type 0} (fits : List ℕ → Type 0) (d : DomainState P) (l : Place V) (s : SlotId)
    (old : SeatState V) (held : HoldsStrongly old.view.core s)
    (reading : IsReading l.seen s old) where
  abbrev place : EventPlace
  place = Field s 1

  abbrev run : Ran
  run = last_run l.seen old

  abbrev seen_old : View
  seen_old = l.seen old.view.client

  pub readable : IsReadable d.shape old.view.core place
  readable = (omega arith, omega (arith, held))

  has : HasSlot (show_seat old.view.core) s
  has = holds_has old.view.core s (omega (arith, held))

  life : life_in (own_of old.view) s ≡ run.now_life
  life = ap (λ b. life_of (if b then Some (object_in old.view s) else None)) has ∙ sym reading.life

  module _ (owned : Owned) (free : OwnPart → PlainAct → Type 0) (suits : V → View → Type 0)
      (frees : Frees owned free) (minds : MindsNone suits l.seen) where
    pub ready_look : IsReady (λ own v a. ReadReady own (l.seen v) a × free own a
        × Accepts suits lead_next l.seen own v a) d.shape (act.Look place) old.view
    ready_look w =
        lift_ready l owned free suits frees minds ReadReady lead_next
        (own_of old.view) old.view.client (plain.Look place)
        (read_ready (own_of old.view) seen_old (plain.Look place) s reading.earlier reading.last
        reading.now (inl refl) held life)
        tt
        (λ after n e in'. in')

  module _ (mid : SeatState V) (o : Outcome)
      (look : Steps fits d (lifts l lead_next) (tells l ReadTells) (act.Look place) old mid o) where
    told : (slot_at (shows d.shape look.told.happened.before) s).second ≡ None → IsText run.before
    told null = look.told.happened.fact.2.whole
        (subst (λ (x : SlotId).
        (slot_at (shows d.shape look.told.happened.before) x).second ≡ None)
        (sym reading.now) null)

    -- it didn't find null
    pub not_null : ¬ (IsText run.before) → ¬ (o ≡ outcome.Found None)
    not_null more is =
        let none : slot_in look.word ≡ None = cc (look.answers, is) in
        more (told (content_found look.told place (look_on d.shape place) ∙ none))

    -- it found a part
    module _ (rest : IsAtRest d old) (j : ℕ) (some' : 0 < j) (small : j < 4)
        (idle : note_of old.view.core j ≡ note.Idle) (part : SlotId)
        (is : o ≡ outcome.Found (Some part)) where
      abbrev before : SeatState V
      before = as_seen old mid

      rest_before : IsAtRest d before
      rest_before = rest_as_seen d old mid rest

      looks : Looks fits d place same_view IsSameView before mid o
      looks = calm_look d place old mid o look

      number : look.word ≡ suc part.0
      number = word_is look.word part (sym (cc (look.answers, is)))

      -- what is noted of it
      abbrev led : Led
      led = leads run (suc part.0)

      abbrev seen_led : View
      seen_led = record seen_old { led = led ∷ seen_old.led }

      client_mid : mid.view.client ≡ l.with_seen old.view.client seen_led
      client_mid = look.told.client
          ∙ ap (λ (w : ℕ). l.with_seen old.view.client
          (record seen_old { led = leads run w ∷ seen_old.led })) number

      seen_mid : l.seen mid.view.client ≡ seen_led
      seen_mid = ap l.seen client_mid ∙ l.reads old.view.client seen_led

      pub may_tell : IsIdle mid.view.core × (j < 4) × (note_of mid.view.core j ≡ note.Idle)
          × (part.0 < d.shape.slots)
      may_tell = may_announce d place j small part Strong refl before mid mid rest_before idle
          same_view IsSameView o looks is

      module _ (late : SeatState V) (o2 : Outcome)
          (announce : Steps fits d same_view IsSameView (act.Announce j Strong part) mid late o2)
        where
          announced : Announces fits d j place part before late
          announced = announces d place j small part Strong refl before mid late rest_before idle
              same_view IsSameView o looks is o2 announce

          pub four : length old.view.core.notes ≡ 4
          four = four_notes announced.becomes.walks.1.told

          pub may_look_again : IsIdle late.view.core × (j < 4)
              × ((x : SlotId) × (note_of late.view.core j ≡ note.Announced Strong x))
              × IsReadable d.shape late.view.core place
          may_look_again =
              may_check d place j small part before late rest_before idle announced readable

          client_late : late.view.client ≡ mid.view.client
          client_late = announced.client

          seen_late : l.seen late.view.client ≡ seen_led
          seen_late = ap l.seen client_late ∙ seen_mid

          has_late : HasSlot (show_seat late.view.core) s
          has_late =
              subst (λ (v : CoreView). HasSlot (show_seat v) s) (sym announced.becomes.core)
              (has_announced d place j small part before late rest_before idle announced s has
              (old.view.core.trail ++ announced_by j place part))

          there : j < length old.view.core.notes
          there = omega (arith, four, small)

          held_late : HoldsStrongly late.view.core s
          held_late =
              subst (λ (v : CoreView). HoldsStrongly v s) (sym announced.becomes.core)
              (subst (λ (es : List Entry).
              0 < times s old.view.core.owned + entry_times Strong s es)
              (sym (announced_same old.view.core j there (note.Announced Strong part)
              (announced_not_valid Strong part) idle)) held)

          life_late : life_in (own_of late.view) s ≡ run.now_life
          life_late =
              ap (λ b. life_of (if b then Some (object_in late.view s) else None)) has_late
              ∙ (ap (λ (x : Object). x.life) (announced.knows s has) ∙ sym reading.life)

          module _ (owned : Owned) (free : OwnPart → PlainAct → Type 0)
              (suits : V → View → Type 0)
              (frees : Frees owned free) (minds : MindsNone suits l.seen) where
            pub ready_check : IsReady (λ own v a. ReadReady own (l.seen v) a × free own a
                × Accepts suits read_next l.seen own v a) d.shape (act.Check j place) late.view
            ready_check w =
                lift_ready l owned free suits frees minds ReadReady read_next
                (own_of late.view) late.view.client (plain.Check j place)
                (subst (λ (v : View). ReadReady (own_of late.view) v (plain.Check j place))
                (sym seen_late)
                (read_ready (own_of late.view) seen_led (plain.Check j place) s reading.earlier
                reading.last reading.now (inr (j, refl)) held_late life_late))
                tt
                (λ after n. learns_keeps 0 (l.seen late.view.client)
                (read_next (own_of late.view) after (l.seen late.view.client)
                (plain.Check j place) n)
                (read_learns (own_of late.view) after (l.seen late.view.client)
                (plain.Check j place) n))

          module _ (new : SeatState V) (o3 : Outcome)
              (check : Steps fits d (lifts l read_next) (tells l PartTells) (act.Check j place)
              late new o3) where
            abbrev state : Plain
            state = shows d.shape check.told.happened.before

            tell : PartTells state
                (shows d.shape
                (after d.shape check.told.happened.before late.view.core.seat (act.Check j place)))
                late.view.core.seat (l.seen late.view.client)
                (l.seen new.view.client)
            tell = check.told.happened.fact.2

            -- it found the part still
            field : (slot_at state s).second ≡ Some part
            field =
                let seen_first = ap (λ (v : View). first_ran v.ran) seen_late in
                let is_led = tell.read.led led
                (subst (λ (v : View). In led v.led) (sym seen_late) (inl refl))
                (ap (λ (r : Ran). r.now) (sym seen_first))
                (ap (λ (r : Ran). r.now_life) (sym seen_first)) in
                subst (λ (x : SlotId). (slot_at state x).second ≡ Some part) reading.now is_led

            word : slot_in check.word ≡ Some part
            word = sym (content_found check.told place (check_on d.shape j place)) ∙ field

            not_moved : (now : Option SlotId) → o3 ≡ outcome.Moved now → ⊥
            not_moved now moved =
                let other = moved_word d place j small part before late rest_before idle announced
                new now (subst (Steps fits d (lifts l read_next) (tells l PartTells)
                (act.Check j place) late new) moved check) in
                other.1 (other.0 ∙ word)

            all : Protects fits d j place (lifts l read_next) (tells l PartTells) part before new
                × KnowsStill old.view.core before new × IsOf d new × (j ≢ 0 → IsAtRest d new)
            all = protected d place j small part before late rest_before idle announced new o3
                check not_moved

            -- WHAT IT LEAVES
            pub goes : ComesTo 3 (with_note j (note.Valid Strong part) old.view.core)
                old.view.core new.view.core
            goes = (_, all.0.core, refl)

            pub knows : KnowsStill old.view.core old new
            knows = all.1

            pub rests : IsAtRest d new
            rests = all.3 (λ zero. omega (arith, zero, some'))

            has_part : HasSlot (show_seat new.view.core) part
            has_part = holds_has new.view.core part
                (holds_snapshot place j part old.view.core there idle new _ all.0.core)

            abbrev seen_read : View
            seen_read = record seen_led {
              ran = reads_on run part (object_in new.view part) ∷ seen_led.ran;
            }

            client_new : new.view.client ≡ l.with_seen late.view.client seen_read
            client_new = check.told.client
                ∙ (ap (λ (w : ℕ). lifts l read_next (own_of late.view) (own_of new.view)
                late.view.client (plain.Check j place) w) (word_is check.word part word)
                ∙ (ap (λ b. l.with_seen late.view.client (reads_part part
                (if b then Some (object_in new.view part) else None) (l.seen late.view.client)))
                has_part
                ∙ ap (λ (v : View). l.with_seen late.view.client
                (reads_part part (Some (object_in new.view part)) v)) seen_late))

            seen_new : l.seen new.view.client ≡ seen_read
            seen_new = ap l.seen client_new ∙ l.reads late.view.client seen_read

            pub reads : ReadsOn l.seen part old new
            reads =
                let on = tell.goes_on (reads_on run part (object_in new.view part))
                (subst (λ (v : View). In (reads_on run part (object_in new.view part)) v.ran)
                (sym seen_new) (inl refl)) in record {
                  ran = ap (λ (v : View). v.ran) seen_new;
                  rest = on.0;
                  goes_on = on.1;
                }

            pub learns : LearnsBy l 0 old.view.client new.view.client
            learns =
                part_then l 0 0 old.view.client late.view.client new.view.client
                (subst (λ v. LearnsBy l 0 old.view.client v) (sym (client_late ∙ client_mid))
                (lift_learns l 0 old.view.client seen_led
                (lead_learns (own_of old.view) (own_of mid.view) seen_old (plain.Look place)
                (suc part.0))))
                (subst (λ v. LearnsBy l 0 late.view.client v) (sym check.told.client)
                (lift_learns l 0 late.view.client _
                (read_learns (own_of late.view) (own_of new.view) (l.seen late.view.client)
                (plain.Check j place) check.word)))
