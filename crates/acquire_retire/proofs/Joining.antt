-- What seat 0 has learnt once it has taken over what another seat has, and then has read a word.
use Rattle.std.proofs.Common.{refl, Bool, true, false, ◌≡◌, ℕ, ◌<◌, List, length, ap, sym, ◌∙◌, subst, arith}
use Rattle.std.specs.Prelude.{slice_index_or}
use Rattle.atomic_table.specs.declared.shared.Seat.{Seat as TableSeat}
use Rattle.plain_state.specs.declared.slot.SlotId.{SlotId}
use Rattle.domain_rule.specs.plain_protocol.Owns.{HasSlot, Object, has_slot}
use Rattle.core_promises.specs.core_events.declared.view.CoreView.{CoreView}
use Rattle.core_promises.specs.core_events.declared.act.Act.TheVariants as act
use Rattle.core_promises.specs.core_events.declared.outcome.Outcome.TheVariants as outcome
use Rattle.core_promises.specs.core_events.Runs.{view_at}
use Rattle.core_promises.specs.core_events.Shows.{show_seat}
use Rattle.core_promises.specs.Trails.{HasEvent}
use Rattle.core_promises.specs.core_events.Steps.{CanLeave}
use Rattle.domain_rule.specs.declared.view.Known.{Known}
use Rattle.core_promises.specs.core_law.Sound.{Sound}
use Rattle.core_promises.proofs.Below.core_law_Always.{history_sound}
use Rattle.core_promises.proofs.Below.core_law_Events.{event_shows}
use Rattle.core_promises.proofs.LastMove.{last_move}
use Rattle.domain_rule.specs.declared.view.SeatView.{SeatView}
use Rattle.domain_rule.specs.Opening.{joined_view, merged_object, merged_objects}
use Rattle.domain_rule.specs.Reading.{FoundIn, HasRead}
use Rattle.domain_rule.specs.Views.{known_of, no_object, object_in}
use Rattle.domain_rule.proofs.Leaves.{alike, alike_whole, known_once, merged_at, other_had, root_has}
use Rattle.domain_rule.proofs.Others.{has_there}
use Rattle.domain_rule.proofs.Owns.{shown_payload}
use Rattle.acquire_retire.specs.Domains.{DomainState}
use Rattle.acquire_retire.specs.Leavings.{HasJoined, HasLeft, KnowsAlike, KnowsSame, MayJoin}

module _ {P V : Type 0} (fits : List ℕ → Type 0) (d : DomainState P) (joined : V → V → V)
    (root v new : SeatView V) (word : ℕ) (found : FoundIn fits d.shape d.terms new 0 word)
    (view : new ≡ record (joined_view joined root v) { whole = new.whole })
    (shape : root.core.shape ≡ d.shape) (inside : new.core.seat < d.shape.seats) where
  sound : Sound d.shape found.core
  sound = history_sound d.shape d.terms found.events found.core found.shape found.terms
      found.history

  there : new.core.seat < length found.core.views
  there = let views = sound.views in omega arith

  now_has : (s : SlotId) → HasSlot (show_seat root.core) s → HasSlot (show_seat new.core) s
  now_has s mine =
      subst (λ (u : SeatView V). HasSlot (show_seat u.core) s) (sym view)
      (root_has root.core v.core s mine)

  -- a seat's slot has 16 payload words
  words : (s : SlotId) → HasSlot (show_seat root.core) s
      → length (slice_index_or (merged_objects root v) s.0 no_object).payload ≡ 16
  words s mine =
      ap (λ (u : SeatView V). length (slice_index_or u.objects s.0 no_object).payload) (sym view)
      ∙ ap (λ (o : Object). length o.payload) (found.says.objects s (now_has s mine))
      ∙ shown_payload d.shape found.core s

  module _ (s : SlotId) (has : HasSlot (show_seat new.core) s) where
    at : s.0 < d.shape.slots
    at = has_there d.shape found.core sound new.core.seat s there
        (subst (λ (u : CoreView). HasSlot (show_seat u) s) found.says.core has)

    told : slice_index_or new.objects s.0 no_object ≡ known_of (merged_object root v s)
    told = ap (λ (u : SeatView V). slice_index_or u.objects s.0 no_object) view
        ∙ merged_at root v d.shape shape s at

    life : (object_in new s).life ≡ (merged_object root v s).life
    life = ap (λ (o : Known). o.life) told

  root_alike : KnowsAlike root new
  root_alike s mine = life s (now_has s mine) ∙ go (has_slot (show_seat v.core) s) refl
    where
      go : (b : Bool) → has_slot (show_seat v.core) s ≡ b
          → (merged_object root v s).life ≡ (object_in root s).life
      go true is = rw mine (rw is refl)
      go false is = rw mine (rw is refl)

  other_alike : CanLeave v.core → KnowsAlike v new
  other_alike can s others = go (has_slot (show_seat root.core) s) refl
    where
      now : HasSlot (show_seat new.core) s
      now = subst (λ (u : SeatView V). HasSlot (show_seat u.core) s) (sym view)
          (other_had root.core v.core can s others)

      go : (b : Bool) → has_slot (show_seat root.core) s ≡ b
          → (object_in new s).life ≡ (object_in v s).life
      go true mine =
          root_alike s mine
          ∙ alike root v d.shape shape s (at s now) mine others (words s mine)
      go false none = life s now ∙ rw none refl

  root_same : KnowsSame root new
  root_same s mine = ap object (told s (now_has s mine)) ∙ go (has_slot (show_seat v.core) s) refl
    where
      object : Known → Object
      object o = record { life = o.life; payload = o.payload }

      go : (b : Bool) → has_slot (show_seat v.core) s ≡ b
          → merged_object root v s ≡ object_in root s
      go true is =
          rw mine (rw is (known_once (object_in root s) (object_in v s)
          (alike_whole root v d.shape shape s (at s (now_has s mine)) mine is (words s mine))))
      go false is = rw mine (rw is refl)

  other_same : CanLeave v.core → KnowsSame v new
  other_same can s others = go (has_slot (show_seat root.core) s) refl
    where
      now : HasSlot (show_seat new.core) s
      now = subst (λ (u : SeatView V). HasSlot (show_seat u.core) s) (sym view)
          (other_had root.core v.core can s others)

      object : Known → Object
      object o = record { life = o.life; payload = o.payload }

      go : (b : Bool) → has_slot (show_seat root.core) s ≡ b → object_in new s ≡ object_in v s
      go true mine =
          root_same s mine
          ∙ alike_whole root v d.shape shape s (at s now) mine others (words s mine)
      go false none = ap object (told s now) ∙ rw none refl

  -- the leave is the last move of seat 0's trail, and so an event
  left_now : root.core.seat ≡ 0 → CanLeave root.core
      → HasLeft d.shape d.terms found.events v.core.seat
  left_now first can = record {
    event = event;
    shows = event_shows d.shape event.core 0 (act.Leave v.core.seat) before event.enabled;
  }
    where
      number : new.core.seat ≡ 0
      number = ap (λ (u : SeatView V). u.core.seat) view ∙ first

      own : view_at found.core 0 ≡ (joined_view joined root v).core
      own = ap (view_at found.core) (sym number)
          ∙ (sym found.says.core ∙ ap (λ (u : SeatView V). u.core) view)

      event : HasEvent d.shape d.terms found.events 0 (act.Leave v.core.seat)
      event =
          let seats = found.shape.0 in
          last_move d.shape d.terms found.events found.core 0 root.core.trail
          (record { act = act.Leave v.core.seat; outcome = outcome.Plain }) found.shape found.terms
          found.history (omega arith) (ap (λ (u : CoreView). u.left) own ∙ can.0.1)
          (ap (λ (u : CoreView). u.trail) own)

      before : Sound d.shape event.core
      before = history_sound d.shape d.terms event.before event.core found.shape found.terms
          event.history

pub has_joined : {P V : Type 0} (fits : List ℕ → Type 0) (d : DomainState P) (joined : V → V → V)
    (root v between new : TableSeat (Unit {0}) (SeatView V)) (word : ℕ) → MayJoin d root v
    → between.table_id ≡ root.table_id
    → between.me ≡ (joined_view joined root.me.0 v.me.0, root.me.1)
    → new.table_id ≡ between.table_id
    → HasRead fits d.shape d.terms 0 word between.me.0 new.me.0 → new.me.1 ≡ between.me.1
    → HasJoined d fits joined root v new
has_joined {V = V} fits d joined root v between new word may table me stays read carries =
    let own = ap (λ m. m.0) me in
    let view : new.me.0 ≡ record (joined_view joined root.me.0 v.me.0) { whole = new.me.0.whole } =
    read.same ∙ (λ i. record (own i) { whole = new.me.0.whole }) in
    let at = ap (λ (u : SeatView V). u.core.seat) view ∙ may.first in
    let some_seat = read.found.shape.0 in
    let inside : new.me.0.core.seat < d.shape.seats = omega arith in record {
      table = stays ∙ table;
      carries = carries ∙ ap (λ m. m.1) me;
      view = view;
      knows = read.knows;
      word = word;
      found = read.found;
      alike = (
        root_alike fits d joined root.me.0 v.me.0 new.me.0 word read.found view may.shape inside,
        other_alike fits d joined root.me.0 v.me.0 new.me.0 word read.found view may.shape inside
            may.may.1,
      );
      same = (
        root_same fits d joined root.me.0 v.me.0 new.me.0 word read.found view may.shape inside,
        other_same fits d joined root.me.0 v.me.0 new.me.0 word read.found view may.shape inside
            may.may.1,
      );
      left = left_now fits d joined root.me.0 v.me.0 new.me.0 word read.found view may.shape inside
          may.first may.may.0;
    }
