-- What an upgrade with the deed UpgradeHead asks, and what it leaves of a seat.
use Rattle.std.proofs.Common.{◌≡◌, inl, inr, ℕ, ◌+◌, Bool, true, false, [], ◌∷◌, List, refl, sym, ap, subst, ◌∙◌, arith, Some, None}
use Rattle.std.specs.Prelude.{◌==◌, if◌then◌else◌, nat_lt}
use Rattle.atomic_weak.specs.plain_state.declared.slot.SlotId.{SlotId}
use Rattle.atomic_weak.specs.plain_state.declared.act.PlainAct.{PlainAct}
use Rattle.atomic_weak.specs.plain_state.declared.act.PlainAct.TheVariants as plain
use Rattle.atomic_weak.specs.plain_state.State.{Plain}
use Rattle.atomic_weak.specs.plain_protocol.Acts.{Owned}
use Rattle.atomic_weak.specs.plain_protocol.Owns.{HasSlot, Object, OwnPart}
use Rattle.record_making.specs.protocol_pairs.Parts.{Accepts, Frees}
use Rattle.atomic_weak.specs.core_events.declared.act.Act.TheVariants as act
use Rattle.atomic_weak.specs.core_events.declared.outcome.Outcome.TheVariants as outcome
use Rattle.atomic_weak.specs.core_events.Runs.{after}
use Rattle.atomic_weak.specs.core_events.Shows.{show_seat, shows}
use Rattle.atomic_weak.specs.counter_word.Words.{ZERO}
use Rattle.atomic_weak.specs.domain_rule.Views.{object_in, own_of}
use Rattle.atomic_weak.specs.acquire_retire.Calls.{IsReady}
use Rattle.atomic_weak.specs.acquire_retire.Domains.{DomainState}
use Rattle.atomic_weak.specs.acquire_retire.Seats.{SeatState}
use Rattle.atomic_weak.specs.control_word.Calls.{FindsEnded, GainsStrong}
use Rattle.atomic_weak.specs.control_word.Moves.{KnowsStill}
use Rattle.atomic_weak.specs.core_events.Views.{Holds}
use Rattle.atomic_weak.proofs.Below.protected_loads_Telling.{holds_has}
use Rattle.record_making.specs.directory_law.declared.view.View.{View}
use Rattle.record_making.specs.directory_law.Cells.{Area}
use Rattle.record_making.specs.directory_law.Views.{In, note}
use Rattle.record_making.specs.directory_law.Payloads.{IsText}
use Rattle.record_making.specs.directory_law.Law.{IsBound}
use Rattle.record_making.specs.directory_law.Lessons.{UpgradeReady, UpgradeTells, spent, starts_at, upgrade_next}
use Rattle.record_making.specs.directory_law.Steps.{life_in, life_of, payload_in, payload_of, slot_in}
use Rattle.record_making.specs.directory_protocol.Keeping.{KeepsAll, MindsNone}
use Rattle.record_making.specs.directory_calls.Directories.{CanCount}
use Rattle.text_reading.specs.Reading.{HasBegun}
use Rattle.weak_intern.specs.Seeing.{BeginsText, HasSeenIn}
use Rattle.record_making.specs.directory_calls.Steps.{AtStep}
use Rattle.record_making.proofs.Below.directory_calls_Going.{at_step}
use Rattle.record_making.proofs.Below.directory_calls_Parts.{LearnsBy, Place, lift_learns, lift_ready, lifts, tells}

counts : (w : ℕ) → outcome.Up ≡ (if nat_lt w ZERO then outcome.Up else outcome.Dead)
    → ((if nat_lt w ZERO then 0 else 1) == 0) ≡ true
counts w is = go (nat_lt w ZERO) is
  where
    go : (b : Bool) → outcome.Up ≡ (if b then outcome.Up else outcome.Dead)
        → ((if b then 0 else 1) == 0) ≡ true
    go true is = refl
    go false is = absurd (cc (is))

ends : (w : ℕ) → outcome.Dead ≡ (if nat_lt w ZERO then outcome.Up else outcome.Dead)
    → ((if nat_lt w ZERO then 0 else 1) == 0) ≡ false
ends w is = go (nat_lt w ZERO) is
  where
    go : (b : Bool) → outcome.Dead ≡ (if b then outcome.Up else outcome.Dead)
        → ((if b then 0 else 1) == 0) ≡ false
    go true is = absurd (cc (is))
    go false is = refl

-- the next view of the deed UpgradeHead
upgrade_learns_if : (b intern : Bool) (own : OwnPart) (s : SlotId) (v : View)
    → KeepsAll v (if b
    then record v { used = v.used + spent intern; ran = starts_at own s ∷ v.ran }
    else record v { ended = note s (life_in own s) ∷ v.ended })
upgrade_learns_if true intern own s v = λ e in'. in'
upgrade_learns_if false intern own s v = λ e in'. in'

upgrade_keeps : (intern : Bool) (own after : OwnPart) (v : View) (a : PlainAct) (w : ℕ)
    → KeepsAll v (upgrade_next intern own after v a w)
upgrade_keeps intern own after v a w = upgrade_learns_if (w == 0) intern own (slot_in a) v

module _ {P V : Type 0} (fits : List ℕ → Type 0) (d : DomainState P) (l : Place V) (z : Area)
    (intern : Bool) (s : SlotId) (old : SeatState V) (held : Holds old.view.core s) where
  has : HasSlot (show_seat old.view.core) s
  has = holds_has old.view.core s held

  life : life_in (own_of old.view) s ≡ (object_in old.view s).life
  life = ap (λ b. life_of (if b then Some (object_in old.view s) else None)) has

  payload : payload_in (own_of old.view) s ≡ (object_in old.view s).payload
  payload = ap (λ b. payload_of (if b then Some (object_in old.view s) else None)) has

  abbrev next : OwnPart → OwnPart → V → PlainAct → ℕ → V
  next = lifts l (upgrade_next intern)

  abbrev allows : Plain → Plain → ℕ → V → V → Type 0
  allows = tells l (UpgradeTells z)

  -- what the view has of the directory, where the add counts and where it finds the zero flag
  abbrev counted : View
  counted = record (l.seen old.view.client) {
    used = (l.seen old.view.client).used + spent intern;
    ran = starts_at (own_of old.view) s ∷ (l.seen old.view.client).ran;
  }

  abbrev dead : View
  dead = record (l.seen old.view.client) {
    ended = note s (life_in (own_of old.view) s) ∷ (l.seen old.view.client).ended;
  }

  -- THE DEED is ready
  pub ready : (owned : Owned) (free : OwnPart → PlainAct → Type 0) (suits : V → View → Type 0)
      → Frees owned free → MindsNone suits l.seen
      → HasSeenIn l.seen s old → CanCount intern (l.seen old.view.client)
      → IsReady (λ own v a. UpgradeReady intern own (l.seen v) a × free own a
      × Accepts suits (upgrade_next intern) l.seen own v a) d.shape (act.Add s) old.view
  ready owned free suits frees minds saw quota w =
      lift_ready l owned free suits frees minds (UpgradeReady intern) (upgrade_next intern)
      (own_of old.view) old.view.client (plain.Add s)
      (record {
        slot = s;
        act_is = refl;
        seen = (
          saw.0,
          subst (λ (o : Object). In (record {
            cell = saw.0;
            slot = s;
            life = o.life;
            head = o.payload;
          }) (l.seen old.view.client).seen)
              (λ i. record { life = sym life i; payload = sym payload i }) saw.1,
        );
        spare = quota;
      })
      tt
      (λ after n. upgrade_keeps intern (own_of old.view) after (l.seen old.view.client)
      (plain.Add s) n)

  module _ (new : SeatState V) where
    -- IT COUNTED
    module _ (gains : GainsStrong fits d next allows s old new) where
      abbrev late : SeatState V
      late = gains.walks.0

      client_late : late.view.client ≡ l.with_seen old.view.client counted
      client_late =
          let step = gains.walks.1 in
          step.told.client
          ∙ ap (λ b. l.with_seen old.view.client (if b then counted else dead))
          (counts step.word step.answers)

      pub live : KnowsStill old.view.core old new → AtStep d (BeginsText z s new) old new
      live knows =
          let step = gains.walks.1 in
          let p = shows d.shape step.told.happened.before in
          let q = shows d.shape
          (after d.shape step.told.happened.before old.view.core.seat (act.Add s)) in
          let told : UpgradeTells z p q old.view.core.seat (l.seen old.view.client)
          (l.seen late.view.client) =
          step.told.happened.fact.2 in
          let seen_late : l.seen late.view.client ≡ counted =
          ap l.seen client_late ∙ l.reads old.view.client counted in
          let is = told (starts_at (own_of old.view) s) (ap (λ (v : View). v.ran) seen_late) in
          let same : payload_in (own_of old.view) s ≡ (object_in new.view s).payload =
          payload ∙ ap (λ (o : Object). o.payload) (sym (knows s has)) in
          subst (λ (x : SeatState V). AtStep d (BeginsText z s new) old x) (sym gains.walks.2)
          (at_step d (BeginsText z s new) step (
            is.0,
            subst (λ h. IsText (h ∷ is.0)) same is.1,
            subst (λ h. IsBound z p (h ∷ is.0) s) same is.2,
          ))

      pub live_begun : KnowsStill old.view.core old new → HasBegun l.seen s new
      live_begun knows =
          let known = sym (knows s has) in (
            (l.seen old.view.client).ran,
            ap (λ (x : SeatState V). (l.seen x.view.client).ran) gains.walks.2
                ∙ ap (λ (c : V). (l.seen c).ran) client_late
                ∙ ap (λ (v : View). v.ran) (l.reads old.view.client counted)
                ∙ starts_as (object_in new.view s)
                (life ∙ ap (λ (o : Object). o.life) known)
                (payload ∙ ap (λ (o : Object). o.payload) known),
          )
        where
          starts_as : (o : Object) → life_in (own_of old.view) s ≡ o.life
              → payload_in (own_of old.view) s ≡ o.payload
              → starts_at (own_of old.view) s ∷ (l.seen old.view.client).ran
              ≡ record {
                slot = s;
                life = o.life;
                before = o.payload ∷ [];
                now = s;
                now_life = o.life;
              } ∷ (l.seen old.view.client).ran
          starts_as o lives words = λ i. record {
            slot = s;
            life = lives i;
            before = words i ∷ [];
            now = s;
            now_life = lives i;
          } ∷ (l.seen old.view.client).ran

      pub live_learns : LearnsBy l (spent intern) old.view.client new.view.client
      live_learns =
          subst (λ v. LearnsBy l (spent intern) old.view.client v)
          (sym (ap (λ (x : SeatState V). x.view.client) gains.walks.2 ∙ client_late))
          (lift_learns l (spent intern) old.view.client counted (record {
            seen = λ e in'. in';
            ended = λ e in'. in';
            ran = λ e in'. inr in';
            led = λ e in'. in';
            quota = refl;
            used = refl;
            notes = (refl, refl);
          }))

    -- IT FOUND THE ZERO FLAG
    module _ (finds : FindsEnded fits d next allows s old new) where
      client_ended : new.view.client ≡ l.with_seen old.view.client dead
      client_ended =
          let step = finds.becomes.walks.1 in
          ap (λ (x : SeatState V). x.view.client) finds.becomes.walks.2
          ∙ (step.told.client
          ∙ ap (λ b. l.with_seen old.view.client (if b then counted else dead))
          (ends step.word step.answers))

      pub ended : In (note s (object_in old.view s).life) (l.seen new.view.client).ended
      ended = subst (λ (v : View). In (note s (object_in old.view s).life) v.ended)
          (sym (ap l.seen client_ended ∙ l.reads old.view.client dead))
          (inl (ap (note s) (sym life)))

      pub ended_learns : LearnsBy l 0 old.view.client new.view.client
      ended_learns =
          subst (λ v. LearnsBy l 0 old.view.client v) (sym client_ended)
          (lift_learns l 0 old.view.client dead (record {
            seen = λ e in'. in';
            ended = λ e in'. inr in';
            ran = λ e in'. in';
            led = λ e in'. in';
            quota = refl;
            used = omega arith;
            notes = (refl, refl);
          }))
