-- Neither what an act answers nor what it changes hangs on the trail.
use Rattle.std.proofs.Common.{◌≡◌, inl, inr, ⊎_elim, ℕ, Bool, true, false, List, [], ◌∷◌, ◌++◌, ◌+◌, refl}
use Rattle.std.specs.Prelude.{if◌then◌else◌, ◌==◌, nat_lt, Option, Some, None}
use Rattle.core_functions.specs.plain_state.declared.act.EventPlace.{EventPlace}
use Rattle.core_functions.specs.plain_state.declared.act.EventPlace.TheVariants.{Cell, Field, WeakCell, WeakField}
use Rattle.core_functions.specs.plain_state.declared.slot.Kind.{Kind}
use Rattle.core_functions.specs.plain_state.declared.slot.Kind.TheVariants.{Strong, Weak, Disposal}
use Rattle.core_functions.specs.plain_state.declared.slot.SlotId.{SlotId}
use Rattle.core_functions.specs.plain_state.Lists.{Entry}
use Rattle.core_functions.specs.plain_state.Places.{place_kind}
use Rattle.core_functions.specs.plain_state.Steps.{word_of}
use Rattle.core_functions.specs.core_events.declared.act.Act.{Act}
use Rattle.core_functions.specs.core_events.declared.act.Act.TheVariants as act
use Rattle.core_functions.specs.core_events.declared.shape.Shape.{Shape}
use Rattle.core_functions.specs.core_events.declared.view.CoreView.{CoreView}
use Rattle.core_functions.specs.core_events.declared.view.Move.{Move}
use Rattle.core_functions.specs.core_events.declared.view.Phase.{Phase}
use Rattle.core_functions.specs.core_events.Steps.{May, CanGive, answer, changed, given_up, paid, ended, exchanged, is_last, all_seen, is_valid, with_note, validated}
use Rattle.core_functions.specs.plain_state.Ejection.{ripened, kept, ejected}
use Rattle.core_functions.specs.core_events.declared.view.Phase.TheVariants as phase
use Rattle.core_functions.specs.core_events.Words.{bit_in}
use Rattle.core_functions.specs.counter_word.Words.{ZERO, has_help, value}
use Rattle.core_functions.specs.core_events.Views.{IsOpen, IsReadable, IsRipeField, about, note_of, slot_of, without}

-- the view with this trail
abbrev with : List Move → CoreView → CoreView
with t v = record v { trail = t }

either_way : (b : Bool) (x y : CoreView) (t : List Move)
    → (if b then with t x else with t y) ≡ with t (if b then x else y)
either_way true x y t = refl
either_way false x y t = refl

given_up_with : (k : Kind) (s : SlotId) (w : ℕ) (v : CoreView) (t : List Move)
    → given_up k s w (with t v) ≡ with t (given_up k s w v)
given_up_with Strong s w v t = refl
given_up_with Weak s w v t = refl
given_up_with Disposal s w v t = refl

ended_with : (b : Bool) (s : Option SlotId) (next : Phase) (v : CoreView) (t : List Move)
    → ended b s next (with t v) ≡ with t (ended b s next v)
ended_with true s next v t = refl
ended_with false s next v t = refl

paid_with : (es : List Entry) (w : ℕ) (v : CoreView) (t : List Move)
    → paid w es (with t v) ≡ with t (paid w es v)
paid_with [] w v t = refl
paid_with (e ∷ es) w v t = given_up_with e.0 e.1 w (record v { owed = es }) t

exchanged_with : (k : Kind) (new : Option SlotId) (w : ℕ) (v : CoreView) (t : List Move)
    → exchanged k new w (with t v) ≡ with t (exchanged k new w v)
exchanged_with k None w v t = refl
exchanged_with Strong (Some s) w v t = refl
exchanged_with Weak (Some s) w v t = refl
exchanged_with Disposal (Some s) w v t = refl

-- the places of a seat, without the trail
open_with : (z : Shape) (v : CoreView) (t : List Move) (p : EventPlace)
    → IsOpen z (with t v) p → IsOpen z v p
open_with z v t (Cell i) h = h
open_with z v t (Field s i) h = h
open_with z v t (WeakCell i) h = h
open_with z v t (WeakField s) h = h

readable_with : (z : Shape) (v : CoreView) (t : List Move) (p : EventPlace)
    → IsReadable z (with t v) p → IsReadable z v p
readable_with z v t (Cell i) h = h
readable_with z v t (Field s i) h = h
readable_with z v t (WeakCell i) h = h
readable_with z v t (WeakField s) h = h

ripe_with : (v : CoreView) (t : List Move) (p : EventPlace)
    → IsRipeField (with t v) p → IsRipeField v p
ripe_with v t (Cell i) h = h
ripe_with v t (Field s i) h = h
ripe_with v t (WeakCell i) h = h
ripe_with v t (WeakField s) h = h

can_give_with : (k : Kind) (new : Option SlotId) (v : CoreView) (t : List Move)
    → CanGive k new (with t v) → CanGive k new v
can_give_with k None v t h = h
can_give_with Strong (Some s) v t h = h
can_give_with Weak (Some s) v t h = h
can_give_with Disposal (Some s) v t h = h

-- the condition of an act, without the trail
pub may_with : (z : Shape) (a : Act) (v : CoreView) (t : List Move) → May z a (with t v) → May z a v
may_with z (act.Add s) v t h = h
may_with z (act.Drop s) v t h = h
may_with z act.Pay v t h = h
may_with z act.Finish v t h = h
may_with z act.Take v t h = h
may_with z (act.Count s) v t h = h
may_with z act.Mark v t h = h
may_with z (act.Announce j k s) v t h = h
may_with z (act.Release j) v t h = h
may_with z (act.Look p) v t h = (h.0, readable_with z v t p h.1)
may_with z (act.Check j p) v t h = (h.0, h.1, h.2, readable_with z v t p h.3)
may_with z (act.Alive j) v t h = h
may_with z act.Scan v t h = h
may_with z (act.Swap p new) v t h = (
  h.0,
  h.1,
  ⊎_elim (λ o. inl (open_with z v t p o.0, can_give_with (place_kind p) new v t o.1))
      (λ d. inr (ripe_with v t p d.0, d.1)) h.2,
)
may_with z (act.Cas p old new) v t h =
    (h.0, h.1, open_with z v t p h.2, can_give_with (place_kind p) new v t h.3, h.4)
may_with z (act.Claim s) v t h = h
may_with z act.Arm v t h = h
may_with z (act.Fill i x) v t h = h
may_with z act.Start v t h = h
may_with z (act.See s i) v t h = h
may_with z act.Free v t h = h
may_with z act.Ticket v t h = h
may_with z (act.Wadd s) v t h = h
may_with z (act.Wdrop s) v t h = h
may_with z (act.Destroy s) v t h = h
may_with z (act.Wcount s) v t h = h
may_with z (act.Leave j) v t h = h

-- what it answers
pub answer_with : (z : Shape) (a : Act) (w : ℕ) (v : CoreView) (t : List Move)
    → answer z a w (with t v) ≡ answer z a w v
answer_with z (act.Add s) w v t = refl
answer_with z (act.Drop s) w v t = refl
answer_with z act.Pay w v t = refl
answer_with z act.Finish w v t = refl
answer_with z act.Take w v t = refl
answer_with z (act.Count s) w v t = refl
answer_with z act.Mark w v t = refl
answer_with z (act.Announce j k s) w v t = refl
answer_with z (act.Release j) w v t = refl
answer_with z (act.Look p) w v t = refl
answer_with z (act.Check j p) w v t = refl
answer_with z (act.Alive j) w v t = refl
answer_with z act.Scan w v t = refl
answer_with z (act.Swap p new) w v t = refl
answer_with z (act.Cas p old new) w v t = refl
answer_with z (act.Claim s) w v t = refl
answer_with z act.Arm w v t = refl
answer_with z (act.Fill i x) w v t = refl
answer_with z act.Start w v t = refl
answer_with z (act.See s i) w v t = refl
answer_with z act.Free w v t = refl
answer_with z act.Ticket w v t = refl
answer_with z (act.Wadd s) w v t = refl
answer_with z (act.Wdrop s) w v t = refl
answer_with z (act.Destroy s) w v t = refl
answer_with z (act.Wcount s) w v t = refl
answer_with z (act.Leave j) w v t = refl

-- what it changes
pub changed_with : (z : Shape) (a : Act) (w : ℕ) (v : CoreView) (t : List Move)
    → changed z a w (with t v) ≡ with t (changed z a w v)
changed_with z (act.Add s) w v t =
    either_way (nat_lt w ZERO)
    (record v { owned = v.owned ++ s ∷ []; adds = v.adds + 1 }) (record v { adds = v.adds + 1 }) t
changed_with z (act.Drop s) w v t =
    given_up_with Strong s w (record v { owned = without s v.owned }) t
changed_with z act.Pay w v t = paid_with v.owed w v t
changed_with z act.Finish w v t =
    ended_with (w == 0) (slot_of v.phase)
    (if has_help w then about phase.Help (slot_of v.phase) else phase.Idle) v t
changed_with z act.Take w v t = ended_with (has_help w) (slot_of v.phase) phase.Idle v t
changed_with z (act.Count s) w v t = either_way (w == 0) (record v { phase = phase.Zero s }) v t
changed_with z act.Mark w v t = refl
changed_with z (act.Announce j k s) w v t = refl
changed_with z (act.Release j) w v t = refl
changed_with z (act.Look p) w v t = refl
changed_with z (act.Check j p) w v t =
    either_way (is_valid w (note_of v j))
    (with_note j (validated (note_of v j)) v) v t
changed_with z (act.Alive j) w v t =
    either_way (nat_lt 0 (value w)) (with_note j (validated (note_of v j)) v) v t
changed_with z act.Scan w v t =
    either_way (is_last z v)
    (record v {
      phase = phase.Idle;
      seen = [];
      retired = kept v.retired (all_seen w v);
      owed = ejected v.retired (all_seen w v);
      ripe = ripened v.ripe v.dying (all_seen w v);
    })
    (record v { phase = phase.Scan; seen = v.seen ++ w ∷ [] }) t
changed_with z (act.Swap p new) w v t = exchanged_with (place_kind p) new w v t
changed_with z (act.Cas p old new) w v t =
    rw (exchanged_with (place_kind p) new w v t)
    (either_way (w == word_of old) (exchanged (place_kind p) new w v) v t)
changed_with z (act.Claim s) w v t =
    either_way (bit_in s w == 1)
    (record v { makes = v.makes + 1; phase = phase.Bare s }) v t
changed_with z act.Arm w v t = refl
changed_with z (act.Fill i x) w v t = refl
changed_with z act.Start w v t = refl
changed_with z (act.See s i) w v t = refl
changed_with z act.Free w v t = refl
changed_with z act.Ticket w v t = refl
changed_with z (act.Wadd s) w v t = refl
changed_with z (act.Wdrop s) w v t =
    given_up_with Weak s w (record v { weaks = without s v.weaks }) t
changed_with z (act.Destroy s) w v t =
    given_up_with Weak s w
    (record v { dying = without s v.dying; ripe = without s v.ripe }) t
changed_with z (act.Wcount s) w v t = refl
changed_with z (act.Leave j) w v t = refl
