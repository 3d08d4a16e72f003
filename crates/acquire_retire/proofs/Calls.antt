-- What a call of a seat makes of the seat, from the atomic step that it makes.
use Rattle.std.proofs.Common.{◌≡◌, ℕ, ◌*◌, ◌≤◌, Bool, true, false, List, [], ◌∷◌, refl, ap, sym, ◌∙◌, subst, arith}
use Rattle.std.specs.Prelude.{◌==◌, if◌then◌else◌, Option, Some, None}
use Rattle.std.proofs.lemmas.Bool.Decides.{nat_tests}
use Rattle.atomic_table.specs.declared.shared.Seat.{Seat as TableSeat}
use Rattle.plain_state.specs.declared.act.PlainAct.{PlainAct}
use Rattle.plain_state.specs.declared.act.PlainAct.TheVariants as plain
use Rattle.plain_state.specs.declared.act.EventPlace.{EventPlace}
use Rattle.plain_state.specs.declared.slot.Kind.{Kind}
use Rattle.plain_state.specs.declared.slot.Kind.TheVariants.{Strong, Weak, Disposal}
use Rattle.plain_state.specs.declared.slot.SlotId.{SlotId}
use Rattle.plain_state.specs.Lists.{Entry}
use Rattle.plain_state.specs.Places.{place_kind}
use Rattle.plain_state.specs.State.{Plain}
use Rattle.plain_state.specs.Steps.{joined, word_of}
use Rattle.domain_rule.specs.plain_protocol.Acts.{IsCalm}
use Rattle.domain_rule.specs.plain_protocol.Owns.{OwnPart}
use Rattle.core_promises.specs.core_events.declared.act.Act.{Act}
use Rattle.core_promises.specs.core_events.declared.act.Act.TheVariants as act
use Rattle.core_promises.specs.core_events.declared.outcome.Outcome.{Outcome}
use Rattle.core_promises.specs.core_events.declared.outcome.Outcome.TheVariants as outcome
use Rattle.core_promises.specs.core_events.declared.shape.Shape.{Shape}
use Rattle.core_promises.specs.core_events.declared.view.CoreView.{CoreView}
use Rattle.core_promises.specs.core_events.declared.view.Note.{Note}
use Rattle.core_promises.specs.core_events.declared.view.Note.TheVariants as note
use Rattle.core_promises.specs.core_events.ShownSteps.{ejects, on_slot, releases, shown_act}
use Rattle.core_promises.specs.core_events.Steps.{May, answer, exchanged, is_last, moved, noted}
use Rattle.core_promises.specs.core_events.Views.{note_of, room_of, slot_of}
use Rattle.core_promises.specs.core_events.Words.{bit_in, slot_in}
use Rattle.plain_state.specs.counter_word.Words.{has_help}
use Rattle.domain_rule.specs.declared.view.SeatView.{SeatView}
use Rattle.domain_rule.specs.Told.{FitsStart, IsOwn}
use Rattle.acquire_retire.specs.Calls.{CanStep, IsOf, IsReady, Stepped, Steps}
use Rattle.acquire_retire.specs.Domains.{DomainState}
use Rattle.acquire_retire.specs.Seats.{HasRooms, IsSeat, IsSeated, SeatState, Stored, stored}

-- what a seat stores of a view, and the room that the view asks for
abbrev pub kept : CoreView → Stored × ℕ
kept v = (stored v, v.room)

-- what clauses see of the seat of a table
abbrev pub value_of : {V : Type 0} → TableSeat (Unit {0}) (SeatView V) → SeatState V
value_of seat = record { table = seat.table_id; view = seat.me.0 }

module _ {P V : Type 0} (d : DomainState P) where
  -- what a call requires is what its atomic step requires
  pub can_step : (ready : OwnPart → V → PlainAct → Type 0) (fits : List ℕ → Type 0) (a : Act)
      (seat : TableSeat (Unit {0}) (SeatView V)) (s : SeatState V) → value_of seat ≡ s
      → IsSeated seat.me → IsOf d s → IsOwn a s.view → May d.shape a s.view.core → FitsStart fits a s.view
      → IsReady ready d.shape a s.view → CanStep d ready fits a seat
  can_step ready fits a seat s is seated of own may starts is_ready =
      let T : SeatState V → Type 0 = λ x. IsOf d x × IsOwn a x.view × May d.shape a x.view.core
      × FitsStart fits a x.view × IsReady ready d.shape a x.view in
      let t = subst T (sym is) (of, own, may, starts, is_ready) in
      record {
        table = t.0.0;
        shape = t.0.1;
        seated = seated;
        own = t.1;
        may = t.2;
        starts = t.3;
        is_ready = t.4;
      }

  module _ {fits : List ℕ → Type 0} (next_view : OwnPart → OwnPart → V → PlainAct → ℕ → V)
      (allows : Plain → Plain → ℕ → V → V → Type 0) (a : Act)
      (old new : TableSeat (Unit {0}) (SeatView V)) (w : ℕ)
      (step : Stepped fits d next_view allows a old w new) where
    -- and what the atomic step told is what the call tells
    pub call_tells : (s : SeatState V) → value_of old ≡ s → (o : Outcome)
        → o ≡ answer d.shape a w old.me.0.core
        → Steps fits d next_view allows a s (value_of new) o
    call_tells s is o answers =
        let T : SeatState V → Type 0 = λ x. Steps fits d next_view allows a x (value_of new) o in
        subst T is (record {
          table = step.table;
          word = w;
          told = step.told;
          answers = answers;
        })

    -- the seat stores what its new view has
    pub seat_after : (f : Stored → Stored) (s : Stored) (batch_room seen_room dying_room : ℕ)
        → old.me.0.core.shape ≡ d.shape → s ≡ stored old.me.0.core
        → HasRooms old.me.0.core batch_room seen_room dying_room
        → kept (moved d.shape a w old.me.0.core) ≡ (f (stored old.me.0.core), old.me.0.core.room)
        → IsSeat new.me (f s) batch_room seen_room dying_room
    seat_after f s batch_room seen_room dying_room same stores rooms goes =
        let after = ap kept step.told.core ∙ goes in
        let shape = step.told.law.same_shape ∙ sym same in
        let seats = ap (λ (z : Shape). z.seats) shape in
        let slots = ap (λ (z : Shape). z.slots) shape in
        let room = ap (λ (k : Stored × ℕ). k.1) after in
        record {
          seated = step.seated;
          stores = ap f stores ∙ sym (ap (λ (k : Stored × ℕ). k.0) after);
          rooms = record {
            batch = omega (arith, rooms.batch);
            root = λ first. subst (λ (z : Shape). z.seats * room_of z ≤ batch_room) (sym shape)
                (rooms.root (sym step.told.law.number ∙ first));
            seen = omega (arith, rooms.seen);
            dying = omega (arith, rooms.dying);
          };
        }

-- what a seat stores where a place of kind k gave it up what it held
exchanged_kept : (a : Act) (o : Outcome) (k : Kind) (new : Option SlotId) (w : ℕ) (v : CoreView)
    → kept (noted a o (exchanged k new w v))
    ≡ (record (stored v) { retired = joined k (slot_in w) v.retired }, v.room)
exchanged_kept a o k None w v = refl
exchanged_kept a o Strong (Some s) w v = refl
exchanged_kept a o Weak (Some s) w v = refl
exchanged_kept a o Disposal (Some s) w v = refl

module _ (z : Shape) (p : EventPlace) (old new : Option SlotId) (w : ℕ) (v : CoreView) where
  pub cas_done : w ≡ word_of old → kept (moved z (act.Cas p old new) w v)
      ≡ (
        record (stored v) { retired = joined (place_kind p) (slot_in w) v.retired },
        v.room,
      )
  cas_done is =
      let test : (w == word_of old) ≡ true = grind (arith, nat_tests) in
      rw test (exchanged_kept (act.Cas p old new) outcome.Done (place_kind p) new w v)

  pub cas_lost : (w ≡ word_of old → ⊥)
      → kept (moved z (act.Cas p old new) w v) ≡ (stored v, v.room)
  cas_lost lost =
      let test : (w == word_of old) ≡ false = grind (arith, nat_tests) in rw test refl

-- acts that are calm whatever they find
abbrev pub IsQuiet : Act → Type 0
IsQuiet (act.Swap p new) = ⊥
IsQuiet (act.Cas p old new) = ⊥
IsQuiet act.Start = ⊥
IsQuiet act.Ticket = ⊥
IsQuiet (act.Leave j) = ⊥
IsQuiet a = Unit {0}

on_slot_calm : (f : SlotId → PlainAct) (o : Option SlotId) → ((s : SlotId) → IsCalm (f s))
    → IsCalm (on_slot f o)
on_slot_calm f None calm = tt
on_slot_calm f (Some s) calm = calm s

ends_calm : (b : Bool) (o : Option SlotId)
    → IsCalm (if b then on_slot plain.End o else plain.Still)
ends_calm true o = on_slot_calm plain.End o (λ s. tt)
ends_calm false o = tt

-- they need no deed
quiet_calm : (z : Shape) (a : Act) (w : ℕ) (v : CoreView) → IsQuiet a → IsCalm (shown_act z a w v)
quiet_calm z (act.Add s) w v quiet = tt
quiet_calm z (act.Drop s) w v quiet = tt
quiet_calm z act.Pay w v quiet = paying v.owed
  where
    paying : (es : List Entry) → IsCalm (ejects es)
    paying [] = tt
    paying (e ∷ es) = tt
quiet_calm z act.Finish w v quiet = ends_calm (w == 0) (slot_of v.phase)
quiet_calm z act.Take w v quiet = ends_calm (has_help w) (slot_of v.phase)
quiet_calm z (act.Count s) w v quiet = tt
quiet_calm z act.Mark w v quiet = on_slot_calm plain.Mark (slot_of v.phase) (λ s. tt)
quiet_calm z (act.Announce j k s) w v quiet = tt
quiet_calm z (act.Release j) w v quiet = ended (note_of v j)
  where
    ended : (n : Note) → IsCalm (releases n)
    ended note.Idle = tt
    ended (note.Announced k s) = tt
    ended (note.Valid k s) = tt
quiet_calm z (act.Look p) w v quiet = tt
quiet_calm z (act.Check j p) w v quiet = tt
quiet_calm z (act.Alive j) w v quiet = tt
quiet_calm z act.Scan w v quiet = splits (is_last z v)
  where
    splits : (b : Bool) → IsCalm (if b then plain.Split else plain.Still)
    splits true = tt
    splits false = tt
quiet_calm z (act.Swap p new) w v quiet = absurd quiet
quiet_calm z (act.Cas p old new) w v quiet = absurd quiet
quiet_calm z (act.Claim s) w v quiet = claims (bit_in s w == 1)
  where
    claims : (b : Bool) → IsCalm (if b then plain.Claim s else plain.Still)
    claims true = tt
    claims false = tt
quiet_calm z act.Arm w v quiet = tt
quiet_calm z (act.Fill i x) w v quiet =
    on_slot_calm (λ (s : SlotId). plain.Fill s i x) (slot_of v.phase) (λ s. tt)
quiet_calm z act.Start w v quiet = absurd quiet
quiet_calm z (act.See s i) w v quiet = tt
quiet_calm z act.Free w v quiet = on_slot_calm plain.Give (slot_of v.phase) (λ s. tt)
quiet_calm z act.Ticket w v quiet = absurd quiet
quiet_calm z (act.Wadd s) w v quiet = tt
quiet_calm z (act.Wdrop s) w v quiet = tt
quiet_calm z (act.Destroy s) w v quiet = tt
quiet_calm z (act.Wcount s) w v quiet = tt
quiet_calm z (act.Leave j) w v quiet = absurd quiet

not_start : (a : Act) → IsQuiet a → a ≡ act.Start → ⊥
not_start a quiet is = subst IsQuiet is quiet

-- what a call without a deed requires is what its atomic step requires
pub can_still : {P V : Type 0} (d : DomainState P) (fits : List ℕ → Type 0) (a : Act)
    (seat : TableSeat (Unit {0}) (SeatView V)) (s : SeatState V) → value_of seat ≡ s
    → IsSeated seat.me → IsOf d s → IsOwn a s.view → IsQuiet a → May d.shape a s.view.core
    → CanStep d (λ own v act. IsCalm act) fits a seat
can_still d fits a seat s is seated of own quiet may =
    can_step d (λ own v act. IsCalm act) fits a seat s is seated of own may
    (λ start. absurd (not_start a quiet start)) (λ w. quiet_calm d.shape a w s.view.core quiet)
