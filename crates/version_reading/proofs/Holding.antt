-- A field of a node is read, and what it holds is held.
use Rattle.std.proofs.Common.{◌≡◌, ◌⊎◌, inl, inr, ⊎_elim, ℕ, suc, ◌+◌, ◌<◌, true, List, ◌++◌, length, length-set, refl, ap, sym, ◌∙◌, subst, arith}
use Rattle.std.specs.Prelude.{Some, None, ◌==◌, slice_set}
use Rattle.std.proofs.lemmas.Bool.Decides.{nat_tests}
use Rattle.map_law.specs.plain_state.declared.act.EventPlace.{EventPlace}
use Rattle.map_law.specs.plain_state.declared.act.EventPlace.TheVariants.{Field}
use Rattle.map_law.specs.plain_state.declared.act.PlainAct.{PlainAct}
use Rattle.map_law.specs.plain_state.declared.act.PlainAct.TheVariants as plain
use Rattle.map_law.specs.plain_state.declared.slot.Kind.TheVariants.{Strong}
use Rattle.map_law.specs.plain_state.declared.slot.SlotId.{SlotId}
use Rattle.map_law.specs.plain_state.Lists.{Entry, entry_times, times}
use Rattle.map_law.specs.plain_state.Places.{content}
use Rattle.map_law.specs.plain_state.State.{Plain, PlainSeat, seat_at}
use Rattle.map_law.specs.plain_state.Steps.{word_of}
use Rattle.map_law.specs.plain_protocol.Owns.{HasSlot, Object, object_of}
use Rattle.map_law.specs.declared.view.View.{View}
use Rattle.map_law.specs.Views.{In, note}
use Rattle.map_law.specs.Nodes.{IsNode}
use Rattle.map_law.specs.Making.{frozen}
use Rattle.map_law.specs.Lessons.{led_by, read_next}
use Rattle.map_protocol.specs.declared.law.MapLaw.{MapLaw}
use Rattle.protected_loads.specs.core_events.declared.act.Act.TheVariants as act
use Rattle.protected_loads.specs.core_events.declared.outcome.Outcome.{Outcome}
use Rattle.protected_loads.specs.core_events.declared.outcome.Outcome.TheVariants as outcome
use Rattle.protected_loads.specs.core_events.declared.view.CoreView.{CoreView}
use Rattle.protected_loads.specs.core_events.declared.view.Note.{Note}
use Rattle.protected_loads.specs.core_events.declared.view.Note.TheVariants as stands
use Rattle.protected_loads.specs.core_events.Shows.{show_seat, shows}
use Rattle.protected_loads.specs.core_events.Steps.{IsIdle, is_valid, validated, with_note}
use Rattle.protected_loads.specs.core_events.Views.{HoldsStrongly, IsReadable, note_of, valid_of}
use Rattle.protected_loads.specs.core_events.Words.{slot_in}
use Rattle.protected_loads.specs.domain_rule.Views.{object_in, own_of}
use Rattle.protected_loads.specs.acquire_retire.Calls.{IsReady, IsSameView, Steps, same_view}
use Rattle.protected_loads.specs.acquire_retire.Domains.{DomainState}
use Rattle.protected_loads.specs.acquire_retire.Seats.{SeatState}
use Rattle.protected_loads.specs.control_word.Moves.{KnowsStill}
use Rattle.control_word.proofs.Below.acquire_retire_Contents.{check_on, look_on}
use Rattle.protected_loads.proofs.Below.control_word_Becoming.{bare, knows_after}
use Rattle.protected_loads.proofs.Below.core_functions_Snapshots.{snapshot_at}
use Rattle.protected_loads.proofs.Below.core_law_ShownPlaces.{word_slot}
use Rattle.protected_loads.proofs.Looking.{null_found}
use Rattle.protected_loads.proofs.Noting.{announced_not_valid, announced_same, same_has, second_stays, written}
use Rattle.protected_loads.proofs.Telling.{checked_slot, content_found, four_notes, holds_has, slot_found}
use Rattle.map_law.proofs.Frame.{led_live, side_leads}
use Rattle.protected_loads.proofs.Below.control_word_Finding.{sound_before}
use Rattle.protected_loads.proofs.Below.core_law_Lawful.{shows_lawful}
use Rattle.version_reading.specs.Lessons.{SideReady, SideTells}
use Rattle.version_reading.specs.Reading.{HasNode, IsReading, KnowsSide, Learns, Reads}
use Rattle.version_reading.proofs.Events.{one_read, own_has, part_has, reads_as, reads_then, seat_shown, still_reading}
use Rattle.version_reading.proofs.Learning.{IsNoted, kid_noted, led_note, learns_as, next_is, null_noted, shown_note, side_learns, slot_noted}

-- A FIELD IS READ
side_of : (i : ℕ) → i < 2 → (i ≡ 0) ⊎ (i ≡ 1)
side_of i low = grind (arith, nat_tests)

module _ (d : DomainState MapLaw) (s : SlotId) (i j : ℕ)
    (old : SeatState View) (reading : IsReading d old) (node : HasNode s old)
    (low : i < 2) (small : j < 4)
    (idle : note_of old.view.core j ≡ stands.Idle) where
  abbrev c : ℕ
  c = d.protocol.cell

  abbrev place : EventPlace
  place = Field s i

  abbrev object : Object
  object = object_in old.view s

  has : HasSlot (show_seat old.view.core) s
  has = holds_has old.view.core s (omega (arith, node.held))

  pub ready_look : IsReady (SideReady s i) d.shape (act.Look place) old.view
  ready_look w = record {
    read = record {
      is = inl refl;
      here = reading.here;
      side = side_of i low;
      held = node.held;
      object = object;
      has = own_has old.view s has;
      node = node.node;
      known = inl node.solid;
    };
    solid = node.solid;
  }

  module _ (mid : SeatState View) (o : Outcome)
      (look : Steps IsNode d (read_next s i) (SideTells c) (act.Look place) old mid o) where
    abbrev shown_look : PlainAct
    shown_look = plain.Look place

    client_mid : mid.view.client
        ≡ led_by s object.life i (own_of mid.view) look.word (frozen s object.life old.view.client)
    client_mid = look.told.client
        ∙ next_is s i (own_of old.view) (own_of mid.view) old.view.client shown_look look.word object
        (own_has old.view s has)

    pub look_reads : Reads old.view.core old mid
    look_reads =
        one_read d (act.Look place) old mid o old.view.core look refl refl tt
        (subst (λ (u : View). Learns old.view.client u)
        (sym look.told.client)
        (side_learns s i (own_of old.view) (own_of mid.view) old.view.client shown_look look.word
        object (own_has old.view s has)
        (ap (λ (u : View). u.raw) (sym look.told.client) ∙ look.told.happened.fact.2.raw)))

    pub look_knows : KnowsStill old.view.core old mid
    look_knows =
        knows_after d (act.Look place) old mid o old.view.core look (λ x it. it) (λ w x it. refl)

    pub look_null : o ≡ outcome.Found None → KnowsSide s i None mid
    look_null is =
        let none : slot_in look.word ≡ None = cc (look.answers, is) in
        let zero : look.word ≡ 0 = null_found look.word none in (
          record { slot = s; life = object.life; side = i; kid = None },
          subst (λ (u : View).
              In (record { slot = s; life = object.life; side = i; kid = None }) u.led)
              (sym (client_mid
              ∙ ap (λ (w : ℕ). led_by s object.life i (own_of mid.view) w
              (frozen s object.life old.view.client)) zero))
              (null_noted s object.life i (own_of mid.view) (frozen s object.life old.view.client)),
          refl,
          ap (λ (x : Object). x.life) (sym (look_knows s has)),
          refl,
          refl,
        )

    module _ (kid : SlotId) (is : o ≡ outcome.Found (Some kid)) where
      found : slot_in look.word ≡ Some kid
      found = sym (cc (look.answers, is))

      word : look.word ≡ suc kid.0
      word = let e : kid.0 + 1 ≡ look.word = ap word_of (sym found) ∙ word_slot look.word in
          omega (arith, e)

      noted_mid : IsNoted s object.life i kid mid.view.client
      noted_mid =
          subst (λ (u : View). IsNoted s object.life i kid u)
          (sym (client_mid ∙ ap (λ (w : ℕ). led_by s object.life i (own_of mid.view) w
          (frozen s object.life old.view.client)) word))
          (slot_noted s object.life i (own_of mid.view) kid (frozen s object.life old.view.client))

      reading_mid : IsReading d mid
      reading_mid = still_reading d old.view.core old mid look_reads refl refl refl reading

      pub may_announce : IsIdle mid.view.core × (j < 4) × (note_of mid.view.core j ≡ stands.Idle)
          × (kid.0 < d.shape.slots)
      may_announce = (
        reading_mid.idle,
        small,
        ap (λ (u : CoreView). note_of u j) look_reads.core ∙ idle,
        slot_found look.told place (look_on d.shape place) kid found,
      )

      module _ (late : SeatState View) (o2 : Outcome)
          (announce : Steps IsNode d same_view IsSameView (act.Announce j Strong kid) mid late o2)
        where
          abbrev announced : Note
          announced = stands.Announced Strong kid

          four : length old.view.core.notes ≡ 4
          four = four_notes look.told

          there : j < length old.view.core.notes
          there = omega (arith, four, small)

          tells_reads : Reads (with_note j announced mid.view.core) mid late
          tells_reads =
              one_read d (act.Announce j Strong kid) mid late o2
              (with_note j announced mid.view.core) announce refl refl tt
              (learns_as mid.view.client late.view.client announce.told.client)

          late_reads : Reads (with_note j announced old.view.core) old late
          late_reads =
              reads_then (λ (u : CoreView). with_note j announced u) (λ u t. refl) old.view.core
              old mid late look_reads tells_reads

          reading_late : IsReading d late
          reading_late =
              still_reading d (with_note j announced old.view.core) old late late_reads refl refl
              refl reading

          same_valid : valid_of (slice_set old.view.core.notes j announced)
              ≡ valid_of old.view.core.notes
          same_valid =
              announced_same old.view.core j there announced (announced_not_valid Strong kid) idle

          has_mid : (x : SlotId) → HasSlot (show_seat old.view.core) x
              → HasSlot (show_seat mid.view.core) x
          has_mid x it = subst (λ (u : CoreView). HasSlot (show_seat u) x) (sym look_reads.core) it

          has_late : (x : SlotId) → HasSlot (show_seat old.view.core) x
              → HasSlot (show_seat late.view.core) x
          has_late x it =
              subst (λ (u : CoreView). HasSlot (show_seat u) x) (sym late_reads.core)
              (same_has old.view.core (slice_set old.view.core.notes j announced)
              (old.view.core.trail ++ late_reads.moves) same_valid x it)

          late_knows : KnowsStill old.view.core old late
          late_knows x it =
              knows_after d (act.Announce j Strong kid) mid late o2 old.view.core announce has_mid
              (λ w y z. refl) x it ∙ look_knows x it

          held_late : HoldsStrongly late.view.core s
          held_late =
              subst (λ (u : CoreView). HoldsStrongly u s) (sym late_reads.core)
              (subst (λ (es : List Entry).
              0 < times s old.view.core.owned + entry_times Strong s es) (sym same_valid) node.held)

          object_late : object_in late.view s ≡ object
          object_late = late_knows s has

          solid_late : In (note s (object_in late.view s).life) late.view.client.solid
          solid_late =
              subst (λ (x : Object). In (note s x.life) late.view.client.solid) (sym object_late)
              (late_reads.learns.solid (note s object.life) node.solid)

          noted_note : note_of late.view.core j ≡ announced
          noted_note = ap (λ (u : CoreView). note_of u j) late_reads.core
              ∙ written old.view.core j there announced

          pub may_check : IsIdle late.view.core × (j < 4)
              × ((x : SlotId) × (note_of late.view.core j ≡ stands.Announced Strong x))
              × IsReadable d.shape late.view.core place
          may_check =
              (reading_late.idle, small, (kid, noted_note), (low, omega (arith, held_late)))

          pub ready_check : IsReady (SideReady s i) d.shape (act.Check j place) late.view
          ready_check w = record {
            read = record {
              is = inr (j, refl);
              here = reading_late.here;
              side = side_of i low;
              held = held_late;
              object = object_in late.view s;
              has = own_has late.view s (has_late s has);
              node = subst (λ (x : Object). IsNode x.payload) (sym object_late) node.node;
              known = inl solid_late;
            };
            solid = solid_late;
          }

          module _ (new : SeatState View) (o3 : Outcome)
              (check : Steps IsNode d (read_next s i) (SideTells c) (act.Check j place) late new o3)
            where
              abbrev taken : Note
              taken = stands.Valid Strong kid

              abbrev state : Plain
              state = shows d.shape check.told.happened.before

              abbrev old_late : Object
              old_late = object_in late.view s

              held_part : 0 < times s (seat_at state late.view.core.seat).owned
                  + entry_times Strong s (seat_at state late.view.core.seat).snapshots
              held_part =
                  subst (λ (x : PlainSeat). 0 < times s x.owned + entry_times Strong s x.snapshots)
                  (sym (seat_shown check.told)) held_late

              -- the field holds still what the look has found there
              field : content state place ≡ Some kid
              field =
                  let tell = check.told.happened.fact.2 in
                  let part = part_has check.told s (has_late s has) in
                  let life = ap (λ (x : Object). x.life) object_late in
                  ⊎_elim
                  (λ at. tell.shown (shown_note s object.life i kid) old_late at part life held_part)
                  (λ at. tell.led (led_note s object.life i kid at.0) old_late at.1 part life
                  held_part)
                  (subst (λ (u : View). IsNoted s object.life i kid u) (sym announce.told.client)
                  noted_mid)

              number : check.word ≡ suc kid.0
              number =
                  let holds : slot_in check.word ≡ Some kid =
                  sym (content_found check.told place (check_on d.shape j place)) ∙ field in
                  let e : kid.0 + 1 ≡ check.word = ap word_of (sym holds) ∙ word_slot check.word in
                  omega (arith, e)

              valid : is_valid check.word (note_of late.view.core j) ≡ true
              valid =
                  let n = number in
                  let same : (check.word == kid.0 + 1) ≡ true = grind (arith, nat_tests) in
                  ap (is_valid check.word) noted_note ∙ same

              abbrev shown_check : PlainAct
              shown_check = plain.Check j place

              has_old : (own_of late.view).objects s ≡ Some old_late
              has_old = own_has late.view s (has_late s has)

              check_reads : Reads (with_note j taken late.view.core) late new
              check_reads =
                  one_read d (act.Check j place) late new o3 (with_note j taken late.view.core) check
                  (rw valid (ap (λ (n : Note). bare (with_note j (validated n) late.view.core))
                  noted_note)) refl tt
                  (subst (λ (u : View). Learns late.view.client u) (sym check.told.client)
                  (side_learns s i (own_of late.view) (own_of new.view) late.view.client shown_check
                  check.word old_late has_old
                  (ap (λ (u : View). u.raw) (sym check.told.client)
                  ∙ check.told.happened.fact.2.raw)))

              pub hold_reads : Reads (with_note j taken old.view.core) old new
              hold_reads =
                  reads_as (with_note j taken (with_note j announced old.view.core))
                  (with_note j taken old.view.core) old new
                  (second_stays old.view.core j announced taken)
                  (reads_then (λ (u : CoreView). with_note j taken u) (λ u t. refl)
                  (with_note j announced old.view.core) old late new late_reads check_reads)

              pub hold_knows : KnowsStill old.view.core old new
              hold_knows x it =
                  knows_after d (act.Check j place) late new o3 old.view.core check has_late
                  (λ w y z. refl) x it ∙ late_knows x it

              noted_new : note_of new.view.core j ≡ taken
              noted_new = ap (λ (u : CoreView). note_of u j) hold_reads.core
                  ∙ written old.view.core j there taken

              held_kid : HoldsStrongly new.view.core kid
              held_kid =
                  let four' = ap (λ (u : CoreView). length u.notes) hold_reads.core
                  ∙ length-set old.view.core.notes j taken in
                  let some' = snapshot_at Strong kid new.view.core.notes j
                  (omega (arith, four', there)) noted_new in omega (arith, some')

              has_kid : HasSlot (show_seat new.view.core) kid
              has_kid = holds_has new.view.core kid (omega (arith, held_kid))

              kid_learnt : In (led_note s old_late.life i kid (object_in new.view kid)) new.view.client.led
                  × In (note kid (object_in new.view kid).life) new.view.client.solid
              kid_learnt =
                  subst (λ (u : View).
                  In (led_note s old_late.life i kid (object_in new.view kid)) u.led
                  × In (note kid (object_in new.view kid).life) u.solid)
                  (sym (check.told.client
                  ∙ (next_is s i (own_of late.view) (own_of new.view) late.view.client shown_check
                  check.word old_late has_old
                  ∙ ap (λ (w : ℕ). led_by s old_late.life i (own_of new.view) w
                  (frozen s old_late.life late.view.client)) number)))
                  (kid_noted s old_late.life i (own_of new.view) kid (object_in new.view kid)
                  (frozen s old_late.life late.view.client) (own_has new.view kid has_kid))

              pub hold_side : KnowsSide s i (Some kid) new
              hold_side = (
                led_note s old_late.life i kid (object_in new.view kid),
                kid_learnt.0,
                refl,
                ap (λ (x : Object). x.life) (object_late ∙ sym (hold_knows s has)),
                refl,
                refl,
              )

              -- what a field of a live node holds lives, so its payload fits
              fits_kid : IsNode (object_in new.view kid).payload
              fits_kid =
                  let told = check.told in
                  let lawful = shows_lawful d.shape told.happened.before (sound_before told) in
                  let live = led_live state lawful s kid (side_leads state i s kid field) in
                  subst (λ (x : Object). IsNode x.payload)
                  (sym (told.says.objects kid has_kid
                  ∙ ap object_of (checked_slot told j place refl kid)))
                  (told.happened.fact.0 kid (inl live))

              pub hold_node : HasNode kid new
              hold_node = record { held = held_kid; node = fits_kid; solid = kid_learnt.1 }
