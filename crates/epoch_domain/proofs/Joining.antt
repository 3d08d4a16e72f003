-- What seat 0 has learnt once it has taken over what another seat has, and then has read a word.
use Rattle.std.proofs.Common.{refl, Bool, true, false, ◌≡◌, ℕ, ◌<◌, List, [], ◌∷◌, ◌++◌, length, get_or, length-append, ap, sym, ◌∙◌, subst, arith}
use Rattle.std.specs.Prelude.{slice_index_or}
use Rattle.std.proofs.Math.Seq.{get_or-append_seam}
use Rattle.atomic_table.specs.declared.shared.Seat.{Seat as TableSeat}
use Rattle.domain_rule.proofs.Leaves.{known_once}
use Rattle.epoch_rule.specs.domain_rule.declared.view.Known.{Known}
use Rattle.epoch_rule.specs.domain_rule.Views.{known_of, no_object}
use Rattle.epoch_rule.specs.plain_protocol.plain_state.declared.slot.SlotId.{SlotId}
use Rattle.epoch_rule.specs.plain_protocol.Owns.{HasSlot, Object, has_slot}
use Rattle.epoch_rule.specs.epoch_core.declared.view.EpochView.{EpochView}
use Rattle.epoch_rule.specs.epoch_core.declared.view.LeftEpochSeat.{LeftEpochSeat}
use Rattle.epoch_rule.specs.epoch_core.Shows.{show_seat}
use Rattle.epoch_rule.specs.epoch_core.Sound.{Sound}
use Rattle.epoch_rule.specs.epoch_core.Steps.{CanLeave}
use Rattle.epoch_core.proofs.Keeps.{history_sound}
use Rattle.epoch_rule.specs.declared.view.EpochSeatView.{EpochSeatView}
use Rattle.epoch_rule.specs.Opening.{joined_view, merged_object, merged_objects}
use Rattle.epoch_rule.specs.Reading.{FoundIn, HasRead}
use Rattle.epoch_rule.specs.Views.{object_in}
use Rattle.epoch_rule.proofs.Merged.{alike, merged_at, other_had, root_has}
use Rattle.epoch_rule.proofs.Others.{has_there}
use Rattle.epoch_rule.proofs.Owns.{shown_payload}
use Rattle.epoch_domain.specs.Domains.{DomainState}
use Rattle.epoch_domain.specs.Leavings.{HasJoined, HasLeft, KnowsSame, MayJoin}
use Rattle.epoch_domain.proofs.Knowing.{found_leavers}

module _ {P V : Type 0} (fits : List ℕ → Type 0) (d : DomainState P) (joined : V → V → V)
    (root v new : EpochSeatView V) (word : ℕ) (found : FoundIn fits d.shape d.quotas new 0 word)
    (view : new ≡ record (joined_view joined root v) { whole = new.whole })
    (shape : root.core.shape ≡ d.shape) (inside : new.core.seat < d.shape.seats) where
  sound : Sound d.shape found.core
  sound = history_sound d.shape d.quotas found.events found.core found.shape found.quotas
      found.history

  there : new.core.seat < length found.core.views
  there = let views = sound.views in omega arith

  now_has : (s : SlotId) → HasSlot (show_seat root.core) s → HasSlot (show_seat new.core) s
  now_has s mine =
      subst (λ (u : EpochSeatView V). HasSlot (show_seat u.core) s) (sym view)
      (root_has root.core v.core s mine)

  -- a seat's slot has 16 payload words
  words : (s : SlotId) → HasSlot (show_seat root.core) s
      → length (slice_index_or (merged_objects root v) s.0 no_object).payload ≡ 16
  words s mine =
      ap (λ (u : EpochSeatView V). length (slice_index_or u.objects s.0 no_object).payload) (sym view)
      ∙ ap (λ (o : Object). length o.payload) (found.says.objects s (now_has s mine))
      ∙ shown_payload d.shape found.core s

  module _ (s : SlotId) (has : HasSlot (show_seat new.core) s) where
    at : s.0 < d.shape.slots
    at = has_there d.shape found.core sound new.core.seat s there
        (subst (λ (u : EpochView). HasSlot (show_seat u) s) found.says.core has)

    told : slice_index_or new.objects s.0 no_object ≡ known_of (merged_object root v s)
    told = ap (λ (u : EpochSeatView V). slice_index_or u.objects s.0 no_object) view
        ∙ merged_at root v d.shape shape s at

  abbrev object : Known → Object
  object o = record { life = o.life; payload = o.payload }

  root_same : KnowsSame root new
  root_same s mine = ap object (told s (now_has s mine)) ∙ go (has_slot (show_seat v.core) s) refl
    where
      go : (b : Bool) → has_slot (show_seat v.core) s ≡ b
          → merged_object root v s ≡ object_in root s
      go true is =
          rw mine (rw is (known_once (object_in root s) (object_in v s)
          (alike root v d.shape shape s (at s (now_has s mine)) mine is (words s mine))))
      go false is = rw mine (rw is refl)

  other_same : CanLeave v.core → v.core.seen ≡ [] → KnowsSame v new
  other_same can unseen s others = go (has_slot (show_seat root.core) s) refl
    where
      now : HasSlot (show_seat new.core) s
      now = subst (λ (u : EpochSeatView V). HasSlot (show_seat u.core) s) (sym view)
          (other_had root.core v.core s can unseen others)

      go : (b : Bool) → has_slot (show_seat root.core) s ≡ b → object_in new s ≡ object_in v s
      go true mine =
          root_same s mine
          ∙ alike root v d.shape shape s (at s now) mine others (words s mine)
      go false none = ap object (told s now) ∙ rw none refl

  -- the leave is the last of which seat 0 keeps something, and so it was an event
  left_now : root.core.seat ≡ 0 → HasLeft d.shape d.quotas found.events v.core.seat
  left_now first =
      let number = ap (λ (u : EpochSeatView V). u.core.seat) view ∙ first in
      let ls = root.core.left_seats in
      let leaver : LeftEpochSeat = record { seat = v.core.seat; trail = v.core.trail } in
      let are : new.core.left_seats ≡ ls ++ leaver ∷ [] =
      ap (λ (u : EpochSeatView V). u.core.left_seats) view in
      let more = length-append ls (leaver ∷ []) in
      let count = ap length are in
      let last : get_or new.core.left_seats (length ls) leaver ≡ leaver =
      ap (λ (xs : List LeftEpochSeat). get_or xs (length ls) leaver) are
      ∙ get_or-append_seam ls leaver [] leaver in
      subst (λ (l : LeftEpochSeat). HasLeft d.shape d.quotas found.events l.seat) last
      (found_leavers fits d.shape d.quotas new 0 word found inside number (length ls) leaver
      (omega arith))

pub has_joined : {P V : Type 0} (fits : List ℕ → Type 0) (d : DomainState P) (joined : V → V → V)
    (root v between new : TableSeat (Unit {0}) (EpochSeatView V)) (word : ℕ) → MayJoin d root v
    → between.table_id ≡ root.table_id
    → between.me ≡ (joined_view joined root.me.0 v.me.0, root.me.1)
    → new.table_id ≡ between.table_id
    → HasRead fits d.shape d.quotas 0 word between.me.0 new.me.0 → new.me.1 ≡ between.me.1
    → HasJoined d fits joined root v new
has_joined {V = V} fits d joined root v between new word may table me stays read carries =
    let own = ap (λ m. m.0) me in
    let view : new.me.0 ≡ record (joined_view joined root.me.0 v.me.0) { whole = new.me.0.whole } =
    read.same ∙ (λ i. record (own i) { whole = new.me.0.whole }) in
    let at = ap (λ (u : EpochSeatView V). u.core.seat) view ∙ may.first in
    let some_seat = read.found.shape.0 in
    let inside : new.me.0.core.seat < d.shape.seats = omega arith in record {
      table = stays ∙ table;
      carries = carries ∙ ap (λ m. m.1) me;
      view = view;
      knows = read.knows;
      word = word;
      found = read.found;
      same = (
        root_same fits d joined root.me.0 v.me.0 new.me.0 word read.found view may.shape.0 inside,
        other_same fits d joined root.me.0 v.me.0 new.me.0 word read.found view may.shape.0 inside
            may.may.1 (may.seated.1.law.outside may.may.1.1),
      );
      left = left_now fits d joined root.me.0 v.me.0 new.me.0 word read.found view may.shape.0
          inside may.first;
    }
