-- Each step that writes a place keeps Sound.
-- What the place held is deferred, and what it holds is what the seat gave up.
use Rattle.std.proofs.Common.{◌≡◌, ◌≢◌, ◌⊎◌, ⊎_elim, ℕ, ◌+◌, ◌<◌, List, length, refl, ap, sym, ◌∙◌, subst, arith, Option, Some, None}
use Rattle.std.specs.Prelude.{◌==◌}
use Rattle.std.specs.List.{All}
use Rattle.std.proofs.lemmas.List.Elements.{All-set}
use Rattle.plain_state.specs.declared.act.EventPlace.{EventPlace}
use Rattle.plain_state.specs.declared.act.EventPlace.TheVariants.{Cell, Field, WeakCell, WeakField}
use Rattle.plain_state.specs.declared.slot.Kind.{Kind}
use Rattle.plain_state.specs.declared.slot.Kind.TheVariants.{Strong, Weak, Disposal}
use Rattle.plain_state.specs.declared.slot.SlotId.{SlotId}
use Rattle.plain_state.specs.declared.slot.PlainSlot.{PlainSlot}
use Rattle.plain_state.specs.declared.slot.Stage.TheVariants.{Live, Ended}
use Rattle.plain_state.specs.Lists.{Entry, times, entry_times}
use Rattle.plain_state.specs.State.{Plain, PlainSeat, new_slot, seat_at, slot_at, stage_at, with_seat, with_slot}
use Rattle.plain_state.specs.Places.{place_kind, with_field, content, with_content}
use Rattle.plain_state.specs.References.{held_in}
use Rattle.plain_state.specs.Lawful.{IsVacant, HasNullFields}
use Rattle.plain_state.specs.Steps.{joined, GivesUp}
use Rattle.plain_state.specs.Sound.{Sound}
use Rattle.plain_state.proofs.Kit.{cases_slot, of_kind, held_none, times_loses, entry_push}
use Rattle.plain_state.proofs.Changes.{IsThere, IsSameObject, place_holds, content_object, field_object, seat_change, seats_same, place_change, slot_other}
use Rattle.plain_state.proofs.SlotLaw.{SlotLaw, NoMore, numbers, slot_law, sound_by, no_more}

-- a place of kind k that holds null counts for no slot
null_holds : (j k : Kind) (s : SlotId) → of_kind j k (held_in s None) ≡ 0
null_holds Strong Strong s = held_none s
null_holds Strong Weak s = refl
null_holds Strong Disposal s = refl
null_holds Weak Strong s = refl
null_holds Weak Weak s = held_none s
null_holds Weak Disposal s = refl
null_holds Disposal Strong s = refl
null_holds Disposal Weak s = refl
null_holds Disposal Disposal s = held_none s

-- a list that takes what a place held
pub joined_times : (j k : Kind) (s : SlotId) (old : Option SlotId) (es : List Entry)
    → entry_times j s (joined k old es) ≡ entry_times j s es + of_kind j k (held_in s old)
joined_times j k s None es = let z = null_holds j k s in omega arith
joined_times j k s (Some x) es = entry_push j s (k, x) es

-- what a seat gives up is what the place then holds, and it has the rest
pub record Gave (k : Kind) (new : Option SlotId) (v w : PlainSeat) (s : SlotId) : Type 0 where
  pub owned : times s w.owned + of_kind Strong k (held_in s new) ≡ times s v.owned
  pub weaks : times s w.weaks + of_kind Weak k (held_in s new) ≡ times s v.weaks
  pub snapshots : w.snapshots ≡ v.snapshots
  pub deferred : w.deferred ≡ v.deferred
  pub dying : w.dying ≡ v.dying
  pub adds : w.adds ≡ v.adds

gave_null : (k : Kind) (v w : PlainSeat) (s : SlotId) → w ≡ v → Gave k None v w s
gave_null k v w s e =
    let a = null_holds Strong k s in
    let b = null_holds Weak k s in
    let o : times s w.owned ≡ times s v.owned = ap (λ (u : PlainSeat). times s u.owned) e in
    let y : times s w.weaks ≡ times s v.weaks = ap (λ (u : PlainSeat). times s u.weaks) e in
    record {
      owned = omega arith;
      weaks = omega arith;
      snapshots = ap (λ (u : PlainSeat). u.snapshots) e;
      deferred = ap (λ (u : PlainSeat). u.deferred) e;
      dying = ap (λ (u : PlainSeat). u.dying) e;
      adds = ap (λ (u : PlainSeat). u.adds) e;
    }

pub gave : (k : Kind) (new : Option SlotId) (v w : PlainSeat) (s : SlotId) → GivesUp k new v w
    → Gave k new v w s
gave Strong None v w s g = gave_null Strong v w s g
gave Weak None v w s g = gave_null Weak v w s g
gave Disposal None v w s g = gave_null Disposal v w s g
gave Disposal (Some x) v w s g = absurd g
gave Strong (Some x) v w s g =
    let l = times_loses s x v.owned g.0 g.1 in
    let o : times s w.owned ≡ times s g.0 = ap (λ (u : PlainSeat). times s u.owned) g.2 in
    let y : times s w.weaks ≡ times s v.weaks = ap (λ (u : PlainSeat). times s u.weaks) g.2 in
    record {
      owned = omega arith;
      weaks = omega arith;
      snapshots = ap (λ (u : PlainSeat). u.snapshots) g.2;
      deferred = ap (λ (u : PlainSeat). u.deferred) g.2;
      dying = ap (λ (u : PlainSeat). u.dying) g.2;
      adds = ap (λ (u : PlainSeat). u.adds) g.2;
    }
gave Weak (Some x) v w s g =
    let l = times_loses s x v.weaks g.0 g.1 in
    let o : times s w.owned ≡ times s v.owned = ap (λ (u : PlainSeat). times s u.owned) g.2 in
    let y : times s w.weaks ≡ times s g.0 = ap (λ (u : PlainSeat). times s u.weaks) g.2 in
    record {
      owned = omega arith;
      weaks = omega arith;
      snapshots = ap (λ (u : PlainSeat). u.snapshots) g.2;
      deferred = ap (λ (u : PlainSeat). u.deferred) g.2;
      dying = ap (λ (u : PlainSeat). u.dying) g.2;
      adds = ap (λ (u : PlainSeat). u.adds) g.2;
    }

-- the place is a cell, or a field of an object that isn't destroyed
abbrev pub HasObject : Plain → EventPlace → Type 0
HasObject p (Cell i) = Unit {0}
HasObject p (Field s i) = (stage_at p s ≡ Live) ⊎ (stage_at p s ≡ Ended)
HasObject p (WeakCell i) = Unit {0}
HasObject p (WeakField s) = (stage_at p s ≡ Live) ⊎ (stage_at p s ≡ Ended)

abbrev NullIfVacant : PlainSlot → Type 0
NullIfVacant x = IsVacant x → HasNullFields x

-- such a write leaves the fields of vacant slots
slot_nulls : (p : Plain) (x : SlotId) (y : PlainSlot) (s : SlotId)
    → IsSameObject (slot_at p s) (slot_at (with_slot p x y) s)
    → (stage_at p x ≡ Live) ⊎ (stage_at p x ≡ Ended) → NullIfVacant (slot_at p s)
    → NullIfVacant (slot_at (with_slot p x y) s)
slot_nulls p x y s same stands null =
    ⊎_elim
    (λ (e : s ≡ x).
    let stage : stage_at (with_slot p x y) s ≡ stage_at p x =
    same.0 ∙ ap (λ (z : SlotId). stage_at p z) e in
    λ vacant. absurd (⊎_elim (λ l. vacant.0 (stage ∙ l)) (λ d. vacant.1 (stage ∙ d)) stands))
    (λ (ne : s.0 ≢ x.0). subst NullIfVacant (sym (slot_other p x y s ne)) null)
    (cases_slot s x)

content_nulls : (p : Plain) (place : EventPlace) (new : Option SlotId) (s : SlotId)
    → IsThere p place
    → HasObject p place → NullIfVacant (slot_at p s)
    → NullIfVacant (slot_at (with_content p place new) s)
content_nulls p (Cell i) new s there stands null = null
content_nulls p (Field x i) new s there stands null =
    slot_nulls p x (with_field i new (slot_at p x)) s
    (content_object p (Field x i) new s there) stands null
content_nulls p (WeakCell i) new s there stands null = null
content_nulls p (WeakField x) new s there stands null =
    slot_nulls p x (record (slot_at p x) { weak_field = new }) s
    (content_object p (WeakField x) new s there)
    stands null

abbrev Payloads : List PlainSlot → Type 0
Payloads xs = All (λ (x : PlainSlot). length x.payload ≡ 16) xs

content_payloads : (p : Plain) (place : EventPlace) (new : Option SlotId) → IsThere p place
    → Payloads p.slots
    → Payloads (with_content p place new).slots
content_payloads p (Cell i) new there all = all
content_payloads p (Field x i) new there all =
    All-set (λ (y : PlainSlot). length y.payload ≡ 16) p.slots x.0 (with_field i new (slot_at p x))
    (ap length (field_object new (slot_at p x) (i == 0)).3 ∙ all x.0 new_slot there) all
content_payloads p (WeakCell i) new there all = all
content_payloads p (WeakField x) new there all =
    All-set (λ (y : PlainSlot). length y.payload ≡ 16) p.slots x.0
    (record (slot_at p x) { weak_field = new })
    (all x.0 new_slot there) all

-- a write of a seat leaves places
there_after : (p : Plain) (n : ℕ) (w : PlainSeat) (place : EventPlace) → IsThere p place
    → IsThere (with_seat p n w) place
there_after p n w (Cell i) h = h
there_after p n w (Field s i) h = h
there_after p n w (WeakCell i) h = h
there_after p n w (WeakField s) h = h

object_after : (p : Plain) (n : ℕ) (w : PlainSeat) (place : EventPlace) → HasObject p place
    → HasObject (with_seat p n w) place
object_after p n w (Cell i) h = h
object_after p n w (Field s i) h = h
object_after p n w (WeakCell i) h = h
object_after p n w (WeakField s) h = h

content_after : (p : Plain) (n : ℕ) (w : PlainSeat) (place : EventPlace)
    → content (with_seat p n w) place ≡ content p place
content_after p n w (Cell i) = refl
content_after p n w (Field s i) = refl
content_after p n w (WeakCell i) = refl
content_after p n w (WeakField s) = refl

pub replace_sound : (p : Plain) (n : ℕ) (place : EventPlace) (new : Option SlotId) (w : PlainSeat)
    → Sound p
    → n < length p.seats → IsThere p place → HasObject p place
    → GivesUp (place_kind place) new (seat_at p n) w
    → Sound (with_content
    (with_seat p n (record w { deferred = joined (place_kind place) (content p place) w.deferred }))
    place new)
replace_sound p n place new w so hn there stands gives =
    sound_by (with_content r place new) each
    (content_payloads r place new (there_after p n u place there) so.payloads)
  where
    u : PlainSeat
    u = record w { deferred = joined (place_kind place) (content p place) w.deferred }

    r : Plain
    r = with_seat p n u

    less : (t : SlotId) → NoMore (numbers p t) (numbers (with_content r place new) t)
    less t =
        let k = place_kind place in
        let c = seat_change p n u t hn in
        let d = place_change r place new t (there_after p n u place there) in
        let e = seats_same r (with_content r place new) t d.seats in
        let g = gave k new (seat_at p n) w t gives in
        let sd = joined_times Strong k t (content p place) w.deferred in
        let wd = joined_times Weak k t (content p place) w.deferred in
        let sv : entry_times Strong t w.deferred ≡ entry_times Strong t (seat_at p n).deferred =
        ap (entry_times Strong t) g.deferred in
        let wv : entry_times Weak t w.deferred ≡ entry_times Weak t (seat_at p n).deferred =
        ap (entry_times Weak t) g.deferred in
        let ss : entry_times Strong t w.snapshots ≡ entry_times Strong t (seat_at p n).snapshots =
        ap (entry_times Strong t) g.snapshots in
        let ws : entry_times Weak t w.snapshots ≡ entry_times Weak t (seat_at p n).snapshots =
        ap (entry_times Weak t) g.snapshots in
        let ds : entry_times Disposal t w.snapshots
        ≡ entry_times Disposal t (seat_at p n).snapshots = ap (entry_times Disposal t) g.snapshots in
        let y : times t w.dying ≡ times t (seat_at p n).dying = ap (times t) g.dying in
        let sc : place_holds Strong t place (content r place)
        ≡ place_holds Strong t place (content p place) =
        ap (place_holds Strong t place) (content_after p n u place) in
        let wc : place_holds Weak t place (content r place)
        ≡ place_holds Weak t place (content p place) =
        ap (place_holds Weak t place) (content_after p n u place) in
        record {
          strong = omega arith;
          weak = omega arith;
          adds = omega arith;
          dying = omega arith;
          disposal = omega arith;
          strong_covered = λ q h. omega arith;
          weak_covered = λ q h. omega arith;
        }

    each : (t : SlotId) → SlotLaw
        (numbers (with_content r place new) t) (slot_at (with_content r place new) t)
    each t =
        let same = content_object r place new t (there_after p n u place there) in
        no_more (numbers p t) (numbers (with_content r place new) t) (slot_at p t)
        (slot_at (with_content r place new) t) (slot_law p so t) (less t) same.0 same.1
        (content_nulls r place new t
        (there_after p n u place there) (object_after p n u place stands)
        (slot_law p so t).nulls)
