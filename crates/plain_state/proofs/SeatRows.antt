-- Each step that writes one seat alone keeps Sound.
use Rattle.std.proofs.Common.{◌≡◌, ◌≢◌, inl, ⊎_elim, ℕ, ◌+◌, ◌<◌, false, List, [], ◌∷◌, ◌++◌, length, ap, sym, ◌∙◌, arith, Some}
use Rattle.std.proofs.lemmas.Bool.{cases_lt}
use Rattle.std.proofs.lemmas.List.{get_or_past}
use Rattle.plain_state.specs.declared.act.EventPlace.{EventPlace}
use Rattle.plain_state.specs.declared.act.EventPlace.TheVariants.{Cell, Field, WeakCell, WeakField}
use Rattle.plain_state.specs.declared.slot.Kind.{Kind}
use Rattle.plain_state.specs.declared.slot.Kind.TheVariants.{Strong, Weak, Disposal}
use Rattle.plain_state.specs.declared.slot.SlotId.{SlotId}
use Rattle.plain_state.specs.declared.slot.PlainSlot.{PlainSlot}
use Rattle.plain_state.specs.declared.slot.Stage.TheVariants.{Free, Live, Ended}
use Rattle.plain_state.specs.Lists.{Entry, Loses, Gains}
use Rattle.plain_state.specs.State.{Plain, PlainSeat, new_slot, seat_at, slot_at, stage_at, with_seat}
use Rattle.plain_state.specs.Places.{Holds, HoldsStrongly, place_kind, content, IsOpen, IsReadable, CanReadFields}
use Rattle.plain_state.specs.References.{held_in, places}
use Rattle.plain_state.specs.Lawful.{IsCovered}
use Rattle.plain_state.specs.Steps.{IsReordering}
use Rattle.plain_state.specs.Sound.{Sound}
use Rattle.plain_state.proofs.Kit.{none_or_some, cases_slot, held_self, held_other, held_once, times_push, times_loses, entry_loses}
use Rattle.plain_state.proofs.Changes.{IsThere, seat_change, seat_part, place_part}
use Rattle.plain_state.proofs.SlotLaw.{SlotLaw, NoMore, numbers, slot_law, sound_by, no_more_here, live_unmarked, none_strong, none_weak, none_disposal, none_under, none_under_weak, strong_sum, one_strong, one_weak, one_disposal}

-- a slot that isn't free is there
pub is_there : (p : Plain) (s : SlotId) → stage_at p s ≢ Free → s.0 < length p.slots
is_there p s taken =
    ⊎_elim
    (λ lt. lt)
    (λ le. absurd (taken (ap (λ (x : PlainSlot). x.stage) (get_or_past p.slots s.0 new_slot le))))
    (cases_lt s.0 (length p.slots))

-- what a seat holds isn't free
pub held_there : (p : Plain) (n : ℕ) (s : SlotId) → Sound p → n < length p.seats
    → Holds (seat_at p n) s
    → stage_at p s ≢ Free
held_there p n s so hn held free =
    let law = slot_law p so s in
    let a = none_strong (numbers p s) (slot_at p s) law (λ (e : stage_at p s ≡ Live). cc) in
    let b = none_weak (numbers p s) (slot_at p s) law free in
    let part = seat_part p n s hn in
    let c = none_under (numbers p s) (slot_at p s) law a in
    let d = none_under_weak (numbers p s) (slot_at p s) law b in
    let e = none_disposal (numbers p s) (slot_at p s) law
    (λ (e : stage_at p s ≡ Live). cc) (λ (e : stage_at p s ≡ Ended). cc) in
    absurd (omega arith)

-- and what it holds strongly is live
pub held_live : (p : Plain) (n : ℕ) (s : SlotId) → Sound p → n < length p.seats
    → HoldsStrongly (seat_at p n) s
    → stage_at p s ≡ Live
held_live p n s so hn held =
    let law = slot_law p so s in
    let part = seat_part p n s hn in
    let some : 0 < strong_sum (numbers p s) =
    ⊎_elim
    (λ (z : strong_sum (numbers p s) ≡ 0).
    let c = none_under (numbers p s) (slot_at p s) law z in absurd (omega arith))
    (λ h. h)
    (none_or_some (strong_sum (numbers p s))) in
    (law.strong some).0

-- an open place is there, and so is a field of a dying slot
pub open_there : (p : Plain) (n : ℕ) (place : EventPlace) → Sound p → n < length p.seats
    → IsOpen p n place
    → IsThere p place
open_there p n (Cell i) so hn open' = open'
open_there p n (Field s i) so hn open' =
    let live = held_live p n s so hn open'.1 in is_there p s (λ e. cc)
open_there p n (WeakCell i) so hn open' = open'
open_there p n (WeakField s) so hn open' =
    let live = held_live p n s so hn open' in is_there p s (λ e. cc)

-- what a seat may read the fields of isn't free, and so is a place that it may read
readable_slot : (p : Plain) (n : ℕ) (s : SlotId) → Sound p → n < length p.seats
    → CanReadFields (seat_at p n) s → s.0 < length p.slots
readable_slot p n s so hn reads = is_there p s (held_there p n s so hn (omega arith))

pub readable_there : (p : Plain) (n : ℕ) (place : EventPlace) → Sound p → n < length p.seats
    → IsReadable p n place → IsThere p place
readable_there p n (Cell i) so hn reads = reads
readable_there p n (Field s i) so hn reads = readable_slot p n s so hn reads.1
readable_there p n (WeakCell i) so hn reads = reads
readable_there p n (WeakField s) so hn reads = readable_slot p n s so hn reads

-- the law of each slot after a write of seat n
abbrev EachAfter : Plain → ℕ → PlainSeat → Type 0
EachAfter p n w = (t : SlotId) → SlotLaw (numbers (with_seat p n w) t) (slot_at p t)

seat_sound : (p : Plain) (n : ℕ) (w : PlainSeat) → Sound p → EachAfter p n w
    → Sound (with_seat p n w)
seat_sound p n w so each = sound_by (with_seat p n w) each so.payloads

pub add_sound : (p : Plain) (n : ℕ) (s : SlotId) → Sound p → n < length p.seats
    → (slot_at p s).marked ≡ false
    → Sound (with_seat p n (record (seat_at p n) {
      owned = (seat_at p n).owned ++ s ∷ [];
      adds = (seat_at p n).adds + 1;
    }))
add_sound p n s so hn unmarked = seat_sound p n w so each
  where
    w : PlainSeat
    w = record (seat_at p n) {
      owned = (seat_at p n).owned ++ s ∷ [];
      adds = (seat_at p n).adds + 1;
    }

    each : EachAfter p n w
    each t =
        let law = slot_law p so t in
        let c = seat_change p n w t hn in
        let u = times_push t s (seat_at p n).owned in
        ⊎_elim
        (λ (e : t ≡ s).
        let mark : (slot_at p t).marked ≡ false =
        ap (λ (z : SlotId). (slot_at p z).marked) e ∙ unmarked in
        let o = held_once t (Some s) in
        one_strong (numbers p t) (numbers (with_seat p n w) t) (slot_at p t) law
        (live_unmarked _ _ law mark) mark
        (omega arith) (omega arith) (record {
          strong = omega arith;
          weak = omega arith;
          adds = omega arith;
          dying = omega arith;
          disposal = omega arith;
          strong_covered = λ k h. omega arith;
          weak_covered = λ k h. omega arith;
        }))
        (λ (ne : t.0 ≢ s.0).
        let o = held_other t s (λ f. ne (sym f)) in
        no_more_here (numbers p t) (numbers (with_seat p n w) t) (slot_at p t) law (record {
          strong = omega arith;
          weak = omega arith;
          adds = omega arith;
          dying = omega arith;
          disposal = omega arith;
          strong_covered = λ k h. omega arith;
          weak_covered = λ k h. omega arith;
        }))
        (cases_slot t s)

pub weak_gain_sound : (p : Plain) (n : ℕ) (s : SlotId) → Sound p → n < length p.seats
    → Holds (seat_at p n) s
    → Sound (with_seat p n (record (seat_at p n) {
      weaks = (seat_at p n).weaks ++ s ∷ [];
      adds = (seat_at p n).adds + 1;
    }))
weak_gain_sound p n s so hn held = seat_sound p n w so each
  where
    w : PlainSeat
    w = record (seat_at p n) {
      weaks = (seat_at p n).weaks ++ s ∷ [];
      adds = (seat_at p n).adds + 1;
    }

    each : EachAfter p n w
    each t =
        let law = slot_law p so t in
        let c = seat_change p n w t hn in
        let u = times_push t s (seat_at p n).weaks in
        ⊎_elim
        (λ (e : t ≡ s).
        let taken : stage_at p t ≢ Free =
        λ f. held_there p n s so hn held (ap (λ (z : SlotId). stage_at p z) (sym e) ∙ f) in
        let o = held_once t (Some s) in
        one_weak (numbers p t) (numbers (with_seat p n w) t) (slot_at p t) law taken
        (omega arith) (omega arith) (record {
          strong = omega arith;
          weak = omega arith;
          adds = omega arith;
          dying = omega arith;
          disposal = omega arith;
          strong_covered = λ k h. omega arith;
          weak_covered = λ k h. omega arith;
        }))
        (λ (ne : t.0 ≢ s.0).
        let o = held_other t s (λ f. ne (sym f)) in
        no_more_here (numbers p t) (numbers (with_seat p n w) t) (slot_at p t) law (record {
          strong = omega arith;
          weak = omega arith;
          adds = omega arith;
          dying = omega arith;
          disposal = omega arith;
          strong_covered = λ k h. omega arith;
          weak_covered = λ k h. omega arith;
        }))
        (cases_slot t s)

-- a seat that has no more references than before, and leaves what is covered
less_sound : (p : Plain) (n : ℕ) (w : PlainSeat) → Sound p
    → ((t : SlotId) → NoMore (numbers p t) (numbers (with_seat p n w) t)) → Sound (with_seat p n w)
less_sound p n w so less =
    seat_sound p n w so (λ t. no_more_here (numbers p t) _ (slot_at p t) (slot_law p so t) (less t))

pub add_refused_sound : (p : Plain) (n : ℕ) → Sound p → n < length p.seats
    → Sound (with_seat p n (record (seat_at p n) { adds = (seat_at p n).adds + 1 }))
add_refused_sound p n so hn =
    less_sound p n (record (seat_at p n) { adds = (seat_at p n).adds + 1 }) so (λ t.
    let c = seat_change p n (record (seat_at p n) { adds = (seat_at p n).adds + 1 }) t hn in
    record {
      strong = omega arith;
      weak = omega arith;
      adds = omega arith;
      dying = omega arith;
      disposal = omega arith;
      strong_covered = λ k h. omega arith;
      weak_covered = λ k h. omega arith;
    })

-- the number of tickets is of no reference
pub ticket_sound : (p : Plain) (n : ℕ) → Sound p → n < length p.seats
    → Sound (record (with_seat p n (record (seat_at p n) { adds = (seat_at p n).adds + 1 })) { tickets = p.tickets + 1 })
ticket_sound p n so hn =
    let spent = add_refused_sound p n so hn in
    sound_by _ (λ s. slot_law _ spent s) spent.payloads

pub drop_sound : (p : Plain) (n : ℕ) (s : SlotId) (xs : List SlotId) → Sound p → n < length p.seats
    → Loses (seat_at p n).owned s xs → Sound (with_seat p n (record (seat_at p n) { owned = xs }))
drop_sound p n s xs so hn loses =
    less_sound p n (record (seat_at p n) { owned = xs }) so (λ t.
    let c = seat_change p n (record (seat_at p n) { owned = xs }) t hn in
    let l = times_loses t s (seat_at p n).owned xs loses in record {
      strong = omega arith;
      weak = omega arith;
      adds = omega arith;
      dying = omega arith;
      disposal = omega arith;
      strong_covered = λ k h. omega arith;
      weak_covered = λ k h. omega arith;
    })

pub weak_drop_sound : (p : Plain) (n : ℕ) (s : SlotId) (xs : List SlotId) → Sound p
    → n < length p.seats
    → Loses (seat_at p n).weaks s xs → Sound (with_seat p n (record (seat_at p n) { weaks = xs }))
weak_drop_sound p n s xs so hn loses =
    less_sound p n (record (seat_at p n) { weaks = xs }) so (λ t.
    let c = seat_change p n (record (seat_at p n) { weaks = xs }) t hn in
    let l = times_loses t s (seat_at p n).weaks xs loses in record {
      strong = omega arith;
      weak = omega arith;
      adds = omega arith;
      dying = omega arith;
      disposal = omega arith;
      strong_covered = λ k h. omega arith;
      weak_covered = λ k h. omega arith;
    })

-- one more snapshot, of a slot that a place of its kind holds
snapshot_sound : (p : Plain) (n : ℕ) (k : Kind) (s : SlotId) (es : List Entry) → Sound p
    → n < length p.seats
    → 0 < places k p s → Gains (seat_at p n).snapshots (k, s) es
    → Sound (with_seat p n (record (seat_at p n) { snapshots = es }))
snapshot_sound p n Strong s es so hn held gains =
    less_sound p n (record (seat_at p n) { snapshots = es }) so (λ t.
    let c = seat_change p n (record (seat_at p n) { snapshots = es }) t hn in
    let a = entry_loses Strong t (Strong, s) es (seat_at p n).snapshots gains in
    let b = entry_loses Weak t (Strong, s) es (seat_at p n).snapshots gains in
    let d = entry_loses Disposal t (Strong, s) es (seat_at p n).snapshots gains in record {
      strong = omega arith;
      weak = omega arith;
      adds = omega arith;
      dying = omega arith;
      disposal = omega arith;
      strong_covered = λ q h.
          ⊎_elim
          (λ (e : t ≡ s). let same = ap (places Strong p) e in omega arith)
          (λ (ne : t.0 ≢ s.0). let o = held_other t s (λ f. ne (sym f)) in omega arith)
          (cases_slot t s);
      weak_covered = λ q h. omega arith;
    })
snapshot_sound p n Weak s es so hn held gains =
    less_sound p n (record (seat_at p n) { snapshots = es }) so (λ t.
    let c = seat_change p n (record (seat_at p n) { snapshots = es }) t hn in
    let a = entry_loses Strong t (Weak, s) es (seat_at p n).snapshots gains in
    let b = entry_loses Weak t (Weak, s) es (seat_at p n).snapshots gains in
    let d = entry_loses Disposal t (Weak, s) es (seat_at p n).snapshots gains in record {
      strong = omega arith;
      weak = omega arith;
      adds = omega arith;
      dying = omega arith;
      disposal = omega arith;
      strong_covered = λ q h. omega arith;
      weak_covered = λ q h.
          ⊎_elim
          (λ (e : t ≡ s). let same = ap (places Weak p) e in omega arith)
          (λ (ne : t.0 ≢ s.0). let o = held_other t s (λ f. ne (sym f)) in omega arith)
          (cases_slot t s);
    })
snapshot_sound p n Disposal s es so hn held gains = absurd (omega arith)

-- a weak snapshot of an object that is alive
pub alive_sound : (p : Plain) (n : ℕ) (s : SlotId) (es : List Entry) → Sound p → n < length p.seats
    → stage_at p s ≡ Live → Gains (seat_at p n).snapshots (Disposal, s) es
    → Sound (with_seat p n (record (seat_at p n) { snapshots = es }))
alive_sound p n s es so hn live gains =
    seat_sound p n w so (λ t.
    let c = seat_change p n w t hn in
    let a = entry_loses Strong t (Disposal, s) es (seat_at p n).snapshots gains in
    let b = entry_loses Weak t (Disposal, s) es (seat_at p n).snapshots gains in
    let d = entry_loses Disposal t (Disposal, s) es (seat_at p n).snapshots gains in
    let law = slot_law p so t in
    ⊎_elim
    (λ (e : t ≡ s).
    let at : stage_at p t ≡ Live = ap (λ (z : SlotId). stage_at p z) e ∙ live in
    one_disposal (numbers p t) (numbers (with_seat p n w) t) (slot_at p t) law (inl at) (record {
      strong = omega arith;
      weak = omega arith;
      adds = omega arith;
      dying = omega arith;
      disposal = omega arith;
      strong_covered = λ k h. omega arith;
      weak_covered = λ k h. omega arith;
    }))
    (λ (ne : t.0 ≢ s.0).
    let o = held_other t s (λ f. ne (sym f)) in
    no_more_here (numbers p t) (numbers (with_seat p n w) t) (slot_at p t) law (record {
      strong = omega arith;
      weak = omega arith;
      adds = omega arith;
      dying = omega arith;
      disposal = omega arith;
      strong_covered = λ k h. omega arith;
      weak_covered = λ k h. omega arith;
    }))
    (cases_slot t s))
  where
    w : PlainSeat
    w = record (seat_at p n) { snapshots = es }

pub check_sound : (p : Plain) (n : ℕ) (place : EventPlace) (s : SlotId) (es : List Entry) → Sound p
    → n < length p.seats
    → IsThere p place → content p place ≡ Some s
    → Gains (seat_at p n).snapshots (place_kind place, s) es
    → Sound (with_seat p n (record (seat_at p n) { snapshots = es }))
check_sound p n place s es so hn there holds gains =
    let part = place_part p place s there in
    let is : held_in s (content p place) ≡ held_in s (Some s) = ap (held_in s) holds in
    let o = held_self s in
    snapshot_sound p n (place_kind place) s es so hn (omega arith) gains

pub end_snapshot_sound : (p : Plain) (n : ℕ) (k : Kind) (s : SlotId) (es : List Entry) → Sound p
    → n < length p.seats
    → Loses (seat_at p n).snapshots (k, s) es
    → Sound (with_seat p n (record (seat_at p n) { snapshots = es }))
end_snapshot_sound p n k s es so hn loses =
    less_sound p n (record (seat_at p n) { snapshots = es }) so (λ t.
    let c = seat_change p n (record (seat_at p n) { snapshots = es }) t hn in
    let a = entry_loses Strong t (k, s) (seat_at p n).snapshots es loses in
    let b = entry_loses Weak t (k, s) (seat_at p n).snapshots es loses in
    let d = entry_loses Disposal t (k, s) (seat_at p n).snapshots es loses in record {
      strong = omega arith;
      weak = omega arith;
      adds = omega arith;
      dying = omega arith;
      disposal = omega arith;
      strong_covered = λ q h. omega arith;
      weak_covered = λ q h. omega arith;
    })

pub eject_sound : (p : Plain) (n : ℕ) (k : Kind) (s : SlotId) (es : List Entry) → Sound p
    → n < length p.seats
    → Loses (seat_at p n).deferred (k, s) es
    → IsCovered (with_seat p n (record (seat_at p n) { deferred = es }))
    → Sound (with_seat p n (record (seat_at p n) { deferred = es }))
eject_sound p n k s es so hn loses covered =
    less_sound p n (record (seat_at p n) { deferred = es }) so (λ t.
    let c = seat_change p n (record (seat_at p n) { deferred = es }) t hn in
    let a = entry_loses Strong t (k, s) (seat_at p n).deferred es loses in
    let b = entry_loses Weak t (k, s) (seat_at p n).deferred es loses in record {
      strong = omega arith;
      weak = omega arith;
      adds = omega arith;
      dying = omega arith;
      disposal = omega arith;
      strong_covered = λ q h. covered Strong t h;
      weak_covered = λ q h. covered Weak t h;
    })

pub split_sound : (p : Plain) (n : ℕ) (es : List Entry) → Sound p → n < length p.seats
    → IsReordering (seat_at p n).deferred es
    → Sound (with_seat p n (record (seat_at p n) { deferred = es }))
split_sound p n es so hn same =
    less_sound p n (record (seat_at p n) { deferred = es }) so (λ t.
    let c = seat_change p n (record (seat_at p n) { deferred = es }) t hn in
    let a = same Strong t in
    let b = same Weak t in record {
      strong = omega arith;
      weak = omega arith;
      adds = omega arith;
      dying = omega arith;
      disposal = omega arith;
      strong_covered = λ q h. omega arith;
      weak_covered = λ q h. omega arith;
    })
