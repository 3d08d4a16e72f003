-- What a load of a cell with the deed SeeHead asks, and what it leaves of a seat.
use Rattle.std.proofs.Common.{◌≡◌, inl, inr, ℕ, suc, ◌+◌, ◌-◌, ◌<◌, List, length, refl, sym, ap, subst, ◌∙◌, arith, Option, Some, None}
use Rattle.std.specs.Prelude.{if◌then◌else◌}
use Rattle.atomic_weak.specs.plain_state.declared.act.EventPlace.TheVariants.{WeakCell}
use Rattle.atomic_weak.specs.plain_state.declared.act.PlainAct.{PlainAct}
use Rattle.atomic_weak.specs.plain_state.declared.act.PlainAct.TheVariants as plain
use Rattle.atomic_weak.specs.plain_state.declared.slot.Kind.TheVariants.{Weak}
use Rattle.atomic_weak.specs.plain_state.declared.slot.SlotId.{SlotId}
use Rattle.atomic_weak.specs.plain_state.Places.{content}
use Rattle.atomic_weak.specs.plain_state.Steps.{word_of}
use Rattle.atomic_weak.specs.plain_protocol.Acts.{Owned}
use Rattle.atomic_weak.specs.plain_protocol.Owns.{HasSlot, OwnPart}
use Rattle.record_making.specs.protocol_pairs.Parts.{Accepts, Frees}
use Rattle.record_making.specs.protocol_pairs.Spared.{IsWithin}
use Rattle.atomic_weak.specs.core_events.declared.act.Act.TheVariants as act
use Rattle.atomic_weak.specs.core_events.declared.outcome.Outcome.TheVariants as outcome
use Rattle.atomic_weak.specs.core_events.declared.view.CoreView.{CoreView}
use Rattle.atomic_weak.specs.core_events.declared.view.Note.TheVariants as stands
use Rattle.atomic_weak.specs.core_events.Runs.{after}
use Rattle.atomic_weak.specs.core_events.Shows.{show_seat, shows}
use Rattle.atomic_weak.specs.core_events.Views.{note_of}
use Rattle.atomic_weak.specs.core_events.Words.{slot_in}
use Rattle.atomic_weak.proofs.Below.core_law_ShownPlaces.{word_slot}
use Rattle.atomic_weak.specs.domain_rule.Views.{object_in, own_of}
use Rattle.atomic_weak.specs.acquire_retire.Calls.{Steps}
use Rattle.atomic_weak.specs.acquire_retire.Domains.{DomainState}
use Rattle.atomic_weak.specs.acquire_retire.Notes.{least_free}
use Rattle.atomic_weak.specs.acquire_retire.Seats.{SeatState}
use Rattle.atomic_weak.specs.control_word.Resting.{IsAtRest}
use Rattle.atomic_weak.specs.protected_loads.Loads.{FindsNull, Protects, protected_by, with_snapshot}
use Rattle.atomic_weak.specs.protected_loads.Retries.{AcquiresAtLast, IsReadyToReacquire}
use Rattle.atomic_weak.proofs.Below.protected_loads_Checking.{valid_word}
use Rattle.atomic_weak.proofs.Below.protected_loads_Learning.{client_null}
use Rattle.atomic_weak.proofs.Below.protected_loads_Noting.{written}
use Rattle.atomic_weak.proofs.Below.protected_loads_Protecting.{holds_snapshot}
use Rattle.atomic_weak.proofs.Below.protected_loads_Telling.{four_notes, holds_has}
use Rattle.record_making.specs.directory_law.declared.view.View.{View}
use Rattle.record_making.specs.directory_law.Views.{In}
use Rattle.record_making.specs.directory_law.Cells.{Area, cell, on}
use Rattle.record_making.specs.directory_law.Law.{NoneBound}
use Rattle.record_making.specs.directory_law.Lessons.{SeeReady, SeeTells, see_next, sees}
use Rattle.record_making.specs.directory_law.Steps.{LooksAt}
use Rattle.record_making.specs.directory_protocol.Keeping.{MindsNone}
use Rattle.weak_intern.specs.declared.seeing.Sighted.{Sighted}
use Rattle.weak_intern.specs.Seeing.{EndsAt, HasSeenAt, seen_in}
use Rattle.text_reading.proofs.Below.snapshot_ptr_Under.{IsFreeWord}
use Rattle.weak_intern.specs.Sighting.{IsSighted, Sights, SightsBy, seen_by}
use Rattle.record_making.specs.directory_calls.Steps.{AtStep}
use Rattle.record_making.proofs.Below.directory_calls_Going.{at_step, from_earlier}
use Rattle.record_making.proofs.Below.directory_calls_Learnt.{learns_keeps, learns_none, see_learns, sees_learns, walked_still}
use Rattle.weak_intern.proofs.Tries.{goes_mid, idle_mid, learns_mid, rest_mid, sights_so}
use Rattle.record_making.proofs.Below.directory_calls_Parts.{LearnsBy, Place, lift_learns, lift_ready, lifts, part_then, tells}

module _ {P V : Type 0} (fits : List ℕ → Type 0) (d : DomainState P) (l : Place V) (z : Area)
    (i c : ℕ) (is : i ≡ z.first + c) (j : ℕ) (old : SeatState V) where
  -- THE DEED is ready
  pub ready : (owned : Owned) (free : OwnPart → PlainAct → Type 0) (suits : V → View → Type 0)
      → Frees owned free → MindsNone suits l.seen → c < z.cells
      → IsReadyToReacquire fits d (WeakCell i) (lifts l (see_next z)) (tells l (SeeTells z)) j
      (λ own v a. SeeReady z own (l.seen v) a × free own a × Accepts suits (see_next z) l.seen own v a)
      old
  ready owned free suits frees minds inside lost mid loses = record {
    look = λ w. one (own_of mid.view) mid.view.client (plain.Look (WeakCell i))
        (inl (ap (λ k. plain.Look (WeakCell k)) is)) tt;
    check = λ s late announces w. one (own_of late.view) late.view.client
        (plain.Check j (WeakCell i)) (inr (j, ap (λ k. plain.Check j (WeakCell k)) is)) tt;
  }
    where
      one : (own : OwnPart) (v : V) (a : PlainAct) → LooksAt (WeakCell (z.first + c)) a
          → IsWithin owned own a
          → SeeReady z own (l.seen v) a × free own a × Accepts suits (see_next z) l.seen own v a
      one own v a looks within = lift_ready l owned free suits frees minds (SeeReady z) (see_next z) own v a
          (record { cell = c; inside = inside; looks = looks })
          within
          (λ after w. learns_keeps 0 (l.seen v) (see_next z own after (l.seen v) a w)
          (see_learns z own after (l.seen v) a w))

  -- WHAT IT LEAVES
  module _ (rest : IsAtRest d old) (word : IsFreeWord j old.view.core) (new : SeatState V)
      (found : Option SlotId)
      (last : AcquiresAtLast fits d (WeakCell i) (lifts l (see_next z)) (tells l (SeeTells z)) j
      found old new) where
    abbrev mid : SeatState V
    mid = last.mid

    resting : IsAtRest d mid
    resting = rest_mid fits d l z i j old rest word new found last

    free : note_of mid.view.core j ≡ stands.Idle
    free = idle_mid fits d l z i j old rest word new found last

    learnt : LearnsBy l 0 old.view.client mid.view.client
    learnt = learns_mid fits d l z i j old rest word new found last

    -- the cell was null
    module _ (null : FindsNull fits d (WeakCell i) (lifts l (see_next z))
        (tells l (SeeTells z)) mid new) where
      pub null_ends : EndsAt l.seen d z c old new
      null_ends text m walked at =
          let late = null.becomes.walks.0 in
          let step = null.becomes.walks.1 in
          let p = shows d.shape step.told.happened.before in
          let q = shows d.shape
          (after d.shape step.told.happened.before mid.view.core.seat (act.Look (WeakCell i))) in
          let told : SeeTells z p q mid.view.core.seat (l.seen mid.view.client)
          (l.seen late.view.client) =
          step.told.happened.fact.2 in
          let empty : cell z p (on z text m) ≡ None =
          ap (λ k. cell z p k) at ∙ ap (λ k. content p (WeakCell k)) (sym is) ∙ null.null in
          let none : NoneBound z p text =
          told.1 text m
          (walked_still 0 z (l.seen old.view.client) (l.seen mid.view.client) text m
          learnt.part walked)
          (inl empty) in
          from_earlier d (λ x. NoneBound z x text) old mid new
          (ap (λ (v : CoreView). v.seat) last.core) (goes_mid fits d l z i j old rest word new found last)
          (subst (λ (x : SeatState V). AtStep d (λ y. NoneBound z y text) mid x)
          (sym null.becomes.walks.2)
          (at_step d (λ x. NoneBound z x text) step none))

      pub null_learns : LearnsBy l 0 old.view.client new.view.client
      null_learns =
          part_then l 0 0 old.view.client mid.view.client new.view.client learnt
          (subst (λ v. LearnsBy l 0 mid.view.client v) (sym (client_null d (WeakCell i) mid new null))
          (lift_learns l 0 mid.view.client (l.seen mid.view.client)
          (learns_none (l.seen mid.view.client))))

      pub null_sights : (k : ℕ) × Sights i k None old.view.core new.view.core
      null_sights = (
        j,
        record {
          lost = last.lost;
          core = sights_so fits d l z i j old rest word new found last (λ v. v) (seen_by i None)
              (λ u t. refl) null.becomes.core;
        },
      )

    -- it held s
    module _ (s : SlotId) (r : Protects fits d j (WeakCell i) (lifts l (see_next z))
        (tells l (SeeTells z)) s mid new) where
      abbrev it : Sighted
      it = record { slot = s; word = j }

      abbrev before : V
      before = r.mid.view.client

      abbrev checked : SeatState V
      checked = r.checks.walks.0

      step : Steps fits d (lifts l (see_next z)) (tells l (SeeTells z)) (act.Check j (WeakCell i))
          r.mid checked outcome.Valid
      step = r.checks.walks.1

      there : j < length mid.view.core.notes
      there = let four = four_notes r.announces.becomes.walks.1.told in omega (arith, four, word.1)

      valid : slot_in step.word ≡ Some s
      valid = valid_word d (WeakCell i) j word.1 s mid r.mid resting free r.announces checked
          step

      suc_word : step.word ≡ suc s.0
      suc_word = let e : s.0 + 1 ≡ step.word = ap word_of (sym valid) ∙ word_slot step.word in
          omega (arith, e)

      has_found : HasSlot (show_seat checked.view.core) s
      has_found = subst (λ (x : SeatState V). HasSlot (show_seat x.view.core) s) r.checks.walks.2
          (holds_has new.view.core s
          (holds_snapshot (WeakCell i) j s mid.view.core there free new _ r.core))

      number : i - z.first ≡ c
      number = omega (arith, is)

      abbrev now_seen : View
      now_seen = sees (i - z.first) s (Some (object_in checked.view s)) (l.seen before)

      client : new.view.client ≡ l.with_seen before now_seen
      client =
          ap (λ (x : SeatState V). x.view.client) r.checks.walks.2
          ∙ (step.told.client
          ∙ (ap (λ (w : ℕ). lifts l (see_next z) (own_of r.mid.view) (own_of checked.view) before
          (plain.Check j (WeakCell i)) w) suc_word
          ∙ ap (λ b. l.with_seen before (sees (i - z.first) s
          (if b then Some (object_in checked.view s) else None) (l.seen before))) has_found))

      known : object_in new.view s ≡ object_in checked.view s
      known = ap (λ (x : SeatState V). object_in x.view s) r.checks.walks.2

      pub found_seen : HasSeenAt l.seen c s new
      found_seen =
          subst (λ (v : View). In (seen_in c s new) v.seen)
          (sym (ap l.seen client ∙ l.reads before now_seen))
          (inl (λ k. record {
            cell = sym number k;
            slot = s;
            life = (known k).life;
            head = (known k).payload;
          }))

      pub found_learns : LearnsBy l 0 old.view.client new.view.client
      found_learns =
          part_then l 0 0 old.view.client mid.view.client new.view.client learnt
          (subst (λ v. LearnsBy l 0 v new.view.client) r.announces.client
          (subst (λ v. LearnsBy l 0 before v) (sym client)
          (lift_learns l 0 before now_seen
          (sees_learns (i - z.first) s (Some (object_in checked.view s)) (l.seen before)))))

      pub found_sights : Sights i j (Some it) old.view.core new.view.core
      found_sights = record {
        lost = last.lost;
        core = sights_so fits d l z i j old rest word new found last
            (λ v. with_snapshot j (WeakCell i) s v) (protected_by j (WeakCell i) s)
            (λ u t. refl) r.core;
      }

      pub found_sighted : IsSighted it new.view.core
      found_sighted = (
        word.0,
        word.1,
        ap (λ (v : CoreView). note_of v j) r.core
            ∙ written mid.view.core j there (stands.Valid Weak s),
      )

  -- whatever was found
  module _ (rest : IsAtRest d old) (word : IsFreeWord j old.view.core) where
    pub after_null : (new : SeatState V) (found : Option SlotId) → found ≡ None
        → AcquiresAtLast fits d (WeakCell i) (lifts l (see_next z)) (tells l (SeeTells z)) j
        found old new
        → EndsAt l.seen d z c old new
        × SightsBy (z.first + c) None old.view.core new.view.core
        × LearnsBy l 0 old.view.client new.view.client
    after_null new found null acquired =
        let last = subst (λ f. AcquiresAtLast fits d (WeakCell i) (lifts l (see_next z))
        (tells l (SeeTells z)) j f old new) null acquired in (
          null_ends rest word new None last last.goes,
          subst (λ n. SightsBy n None old.view.core new.view.core) is
              (null_sights rest word new None last last.goes),
          null_learns rest word new None last last.goes,
        )

    pub after_found : least_free old.view.core ≡ Some j → (new : SeatState V)
        (found : Option SlotId) (s : SlotId) → found ≡ Some s
        → AcquiresAtLast fits d (WeakCell i) (lifts l (see_next z)) (tells l (SeeTells z)) j
        found old new
        → HasSeenAt l.seen c s new
        × SightsBy (z.first + c) (Some (record { slot = s; word = j })) old.view.core
        new.view.core
        × LearnsBy l 0 old.view.client new.view.client
    after_found least new found s same acquired =
        let last = subst (λ f. AcquiresAtLast fits d (WeakCell i) (lifts l (see_next z))
        (tells l (SeeTells z)) j f old new) same acquired in (
          found_seen rest word new (Some s) last s last.goes,
          (
            least,
            found_sighted rest word new (Some s) last s last.goes,
            subst (λ n. Sights n j (Some (record { slot = s; word = j })) old.view.core
                new.view.core) is (found_sights rest word new (Some s) last s last.goes),
          ),
          found_learns rest word new (Some s) last s last.goes,
        )
