-- Each step that writes a slot's stage, mark or payload keeps Sound.
use Rattle.std.proofs.Common.{◌≡◌, ◌≢◌, ◌⊎◌, ⊎_elim, ℕ, ◌+◌, ◌<◌, true, false, List, [], ◌∷◌, ◌++◌, length, set, refl, sym, ◌∙◌, subst, arith, Some, None}
use Rattle.std.specs.List.{All}
use Rattle.std.proofs.lemmas.List.{length-set}
use Rattle.std.proofs.lemmas.List.Elements.{All-set}
use Rattle.plain_state.specs.declared.slot.Kind.TheVariants.{Disposal}
use Rattle.plain_state.specs.declared.slot.SlotId.{SlotId}
use Rattle.plain_state.specs.declared.slot.PlainSlot.{PlainSlot}
use Rattle.plain_state.specs.declared.slot.Stage.TheVariants.{Free, Blank, Live, Ended, Husk}
use Rattle.plain_state.specs.Lists.{times, Loses}
use Rattle.plain_state.specs.State.{Plain, PlainSeat, new_slot, seat_at, slot_at, stage_at, with_seat, with_slot}
use Rattle.plain_state.specs.References.{strong_fields, weak_fields, strong_refs, weak_refs, snapshot_times}
use Rattle.plain_state.specs.Lawful.{HasNullFields}
use Rattle.plain_state.specs.Sound.{Sound}
use Rattle.plain_state.proofs.Kit.{cases_slot, held_self, held_other, times_push, times_loses, times_lost}
use Rattle.plain_state.proofs.Changes.{seat_change, seat_part, slot_change, slot_same, slot_other}
use Rattle.plain_state.proofs.SlotLaw.{SlotLaw, NoMore, numbers, slot_law, sound_by, no_more, no_more_here, none_marked}
use Rattle.plain_state.proofs.StageLaws.{claimed, made, zero_marked, ended, destroyed, given}
use Rattle.plain_state.proofs.SeatRows.{is_there}

-- the law of each slot after a write of slot s, which becomes y
slot_sound : (p : Plain) (s : SlotId) (y : PlainSlot) → s.0 < length p.slots
    → All (λ (x : PlainSlot). length x.payload ≡ 16) p.slots → length y.payload ≡ 16
    → SlotLaw (numbers (with_slot p s y) s) y
    → ((t : SlotId) → t.0 ≢ s.0 → SlotLaw (numbers (with_slot p s y) t) (slot_at p t))
    → Sound (with_slot p s y)
slot_sound p s y hs payloads payload here there = sound_by (with_slot p s y) each
    (All-set (λ (x : PlainSlot). length x.payload ≡ 16) p.slots s.0 y payload payloads)
  where
    q : Plain
    q = with_slot p s y

    each : (t : SlotId) → SlotLaw (numbers q t) (slot_at q t)
    each t =
        ⊎_elim
        (λ (e : t ≡ s). subst (λ (z : SlotId). SlotLaw (numbers q z) (slot_at q z)) (sym e)
        (subst (λ (x : PlainSlot). SlotLaw (numbers q s) x) (sym (slot_same p s y hs)) here))
        (λ (ne : t.0 ≢ s.0).
        subst (λ (x : PlainSlot). SlotLaw (numbers q t) x) (sym (slot_other p s y t ne))
        (there t ne))
        (cases_slot t s)

pub claim_sound : (p : Plain) (n : ℕ) (s : SlotId) → Sound p → n < length p.seats
    → s.0 < length p.slots
    → stage_at p s ≡ Free
    → Sound (with_slot (with_seat p n (record (seat_at p n) { filling = Some s })) s
    (record (slot_at p s) { stage = Blank }))
claim_sound p n s so hn hs free =
    slot_sound (with_seat p n w) s y hs so.payloads (so.payloads s.0 new_slot hs)
    (claimed (numbers p s) (numbers (with_slot (with_seat p n w) s y) s) (slot_at p s)
    (slot_law p so s) (less s) free)
    (λ t ne. no_more_here (numbers p t) _ (slot_at p t) (slot_law p so t) (less t))
  where
    w : PlainSeat
    w = record (seat_at p n) { filling = Some s }

    y : PlainSlot
    y = record (slot_at p s) { stage = Blank }

    less : (t : SlotId) → NoMore (numbers p t) (numbers (with_slot (with_seat p n w) s y) t)
    less t =
        let c = seat_change p n w t hn in
        let d = slot_change (with_seat p n w) s y t hs in record {
          strong = omega arith;
          weak = omega arith;
          adds = omega arith;
          dying = omega arith;
          disposal = omega arith;
          strong_covered = λ k h. omega arith;
          weak_covered = λ k h. omega arith;
        }

-- a write of slot s alone, which leaves its fields
alone : (p : Plain) (s : SlotId) (y : PlainSlot) → s.0 < length p.slots
    → ((t : SlotId) → strong_fields t y ≡ strong_fields t (slot_at p s))
    → ((t : SlotId) → weak_fields t y ≡ weak_fields t (slot_at p s))
    → (t : SlotId) → NoMore (numbers p t) (numbers (with_slot p s y) t)
alone p s y hs strong weak t =
    let d = slot_change p s y t hs in
    let a = strong t in
    let b = weak t in record {
      strong = omega arith;
      weak = omega arith;
      adds = omega arith;
      dying = omega arith;
      disposal = omega arith;
      strong_covered = λ k h. omega arith;
      weak_covered = λ k h. omega arith;
    }

pub fill_sound : (p : Plain) (s : SlotId) (i word : ℕ) → Sound p → stage_at p s ≡ Blank
    → Sound (with_slot p s (record (slot_at p s) { payload = set (slot_at p s).payload i word }))
fill_sound p s i word so blank =
    let hs : s.0 < length p.slots = is_there p s (λ e. cc) in
    let y : PlainSlot = record (slot_at p s) { payload = set (slot_at p s).payload i word } in
    let same = alone p s y hs (λ t. refl) (λ t. refl) in
    slot_sound p s y hs so.payloads
    (length-set (slot_at p s).payload i word ∙ so.payloads s.0 new_slot hs)
    (no_more (numbers p s) _ (slot_at p s) y (slot_law p so s) (same s) refl refl
    (slot_law p so s).nulls)
    (λ t ne. no_more_here (numbers p t) _ (slot_at p t) (slot_law p so t) (same t))

pub mark_sound : (p : Plain) (s : SlotId) → Sound p → stage_at p s ≡ Live → strong_refs p s ≡ 0
    → Sound (with_slot p s (record (slot_at p s) { marked = true }))
mark_sound p s so live none =
    let hs : s.0 < length p.slots = is_there p s (λ e. cc) in
    let y : PlainSlot = record (slot_at p s) { marked = true } in
    let same = alone p s y hs (λ t. refl) (λ t. refl) in
    slot_sound p s y hs so.payloads (so.payloads s.0 new_slot hs)
    (zero_marked (numbers p s) _ (slot_at p s) (slot_law p so s) (same s) live none)
    (λ t ne. no_more_here (numbers p t) _ (slot_at p t) (slot_law p so t) (same t))

pub give_sound : (p : Plain) (s : SlotId) → Sound p → stage_at p s ≡ Husk → weak_refs p s ≡ 0
    → Sound (with_slot p s (record (slot_at p s) { stage = Free }))
give_sound p s so husk none =
    let hs : s.0 < length p.slots = is_there p s (λ e. cc) in
    let y : PlainSlot = record (slot_at p s) { stage = Free } in
    let same = alone p s y hs (λ t. refl) (λ t. refl) in
    slot_sound p s y hs so.payloads (so.payloads s.0 new_slot hs)
    (given (numbers p s) _ (slot_at p s) (slot_law p so s) (same s) husk (omega arith))
    (λ t ne. no_more_here (numbers p t) _ (slot_at p t) (slot_law p so t) (same t))

pub make_sound : (p : Plain) (n : ℕ) (s : SlotId) → Sound p → n < length p.seats
    → stage_at p s ≡ Blank
    → Sound (with_slot
    (with_seat p n (record (seat_at p n) {
      owned = (seat_at p n).owned ++ s ∷ [];
      filling = None;
      adds = (seat_at p n).adds + 1;
    }))
    s (record (slot_at p s) { stage = Live; marked = false; life = (slot_at p s).life + 1 }))
make_sound p n s so hn blank =
    slot_sound (with_seat p n w) s y hs so.payloads (so.payloads s.0 new_slot hs) here there
  where
    hs : s.0 < length p.slots
    hs = is_there p s (λ e. cc)

    w : PlainSeat
    w = record (seat_at p n) {
      owned = (seat_at p n).owned ++ s ∷ [];
      filling = None;
      adds = (seat_at p n).adds + 1;
    }

    y : PlainSlot
    y = record (slot_at p s) { stage = Live; marked = false; life = (slot_at p s).life + 1 }

    here : SlotLaw (numbers (with_slot (with_seat p n w) s y) s) y
    here =
        let c = seat_change p n w s hn in
        let d = slot_change (with_seat p n w) s y s hs in
        let u = times_push s s (seat_at p n).owned in
        let o = held_self s in
        made (numbers p s) _ (slot_at p s) ((slot_at p s).life + 1) (slot_law p so s) (omega arith)
        (omega arith)
        (record {
          strong = omega arith;
          weak = omega arith;
          adds = omega arith;
          dying = omega arith;
          disposal = omega arith;
          strong_covered = λ k h. omega arith;
          weak_covered = λ k h. omega arith;
        }) blank

    there : (t : SlotId) → t.0 ≢ s.0
        → SlotLaw (numbers (with_slot (with_seat p n w) s y) t) (slot_at p t)
    there t ne =
        let c = seat_change p n w t hn in
        let d = slot_change (with_seat p n w) s y t hs in
        let u = times_push t s (seat_at p n).owned in
        let o = held_other t s (λ f. ne (sym f)) in
        no_more_here (numbers p t) _ (slot_at p t) (slot_law p so t) (record {
          strong = omega arith;
          weak = omega arith;
          adds = omega arith;
          dying = omega arith;
          disposal = omega arith;
          strong_covered = λ k h. omega arith;
          weak_covered = λ k h. omega arith;
        })

pub end_sound : (p : Plain) (n : ℕ) (s : SlotId) → Sound p → n < length p.seats
    → stage_at p s ≡ Live
    → ((slot_at p s).marked ≡ true) ⊎ (strong_refs p s ≡ 0)
    → Sound (with_slot (with_seat p n
    (record (seat_at p n) { dying = (seat_at p n).dying ++ s ∷ [] })) s
    (record (slot_at p s) { stage = Ended; marked = true }))
end_sound p n s so hn live zero =
    slot_sound (with_seat p n w) s y hs so.payloads (so.payloads s.0 new_slot hs) here there
  where
    hs : s.0 < length p.slots
    hs = is_there p s (λ e. cc)

    w : PlainSeat
    w = record (seat_at p n) { dying = (seat_at p n).dying ++ s ∷ [] }

    y : PlainSlot
    y = record (slot_at p s) { stage = Ended; marked = true }

    none : strong_refs p s ≡ 0
    none = ⊎_elim (λ mark. none_marked (numbers p s) (slot_at p s) (slot_law p so s) mark)
        (λ z. z) zero

    here : SlotLaw (numbers (with_slot (with_seat p n w) s y) s) y
    here =
        let c = seat_change p n w s hn in
        let d = slot_change (with_seat p n w) s y s hs in
        let u = times_push s s (seat_at p n).dying in
        let o = held_self s in
        ended (numbers p s) _ (slot_at p s) (slot_law p so s) (omega arith)
        (record {
          strong = omega arith;
          weak = omega arith;
          adds = omega arith;
          dying = omega arith;
          disposal = omega arith;
          strong_covered = λ k h. omega arith;
          weak_covered = λ k h. omega arith;
        }) live none

    there : (t : SlotId) → t.0 ≢ s.0
        → SlotLaw (numbers (with_slot (with_seat p n w) s y) t) (slot_at p t)
    there t ne =
        let c = seat_change p n w t hn in
        let d = slot_change (with_seat p n w) s y t hs in
        let u = times_push t s (seat_at p n).dying in
        let o = held_other t s (λ f. ne (sym f)) in
        no_more_here (numbers p t) _ (slot_at p t) (slot_law p so t) (record {
          strong = omega arith;
          weak = omega arith;
          adds = omega arith;
          dying = omega arith;
          disposal = omega arith;
          strong_covered = λ k h. omega arith;
          weak_covered = λ k h. omega arith;
        })

-- a slot in a dying list has ended
pub dying_ended : (p : Plain) (n : ℕ) (s : SlotId) → Sound p → n < length p.seats
    → 0 < times s (seat_at p n).dying → stage_at p s ≡ Ended
dying_ended p n s so hn h = let part = seat_part p n s hn in (slot_law p so s).dying.1 (omega arith)

pub destroy_sound : (p : Plain) (n : ℕ) (s : SlotId) (xs : List SlotId) → Sound p
    → n < length p.seats
    → Loses (seat_at p n).dying s xs → HasNullFields (slot_at p s)
    → snapshot_times Disposal p s ≡ 0
    → Sound (with_slot (with_seat p n (record (seat_at p n) { dying = xs })) s
    (record (slot_at p s) { stage = Husk }))
destroy_sound p n s xs so hn loses null unseen =
    slot_sound (with_seat p n w) s y hs so.payloads (so.payloads s.0 new_slot hs) here there
  where
    hs : s.0 < length p.slots
    hs =
        let e = dying_ended p n s so hn (times_lost s (seat_at p n).dying xs loses) in
        is_there p s (λ f. cc)

    w : PlainSeat
    w = record (seat_at p n) { dying = xs }

    y : PlainSlot
    y = record (slot_at p s) { stage = Husk }

    here : SlotLaw (numbers (with_slot (with_seat p n w) s y) s) y
    here =
        let c = seat_change p n w s hn in
        let d = slot_change (with_seat p n w) s y s hs in
        let u = times_loses s s (seat_at p n).dying xs loses in
        let o = held_self s in
        destroyed (numbers p s) _ (slot_at p s) (slot_law p so s) (omega arith)
        (record {
          strong = omega arith;
          weak = omega arith;
          adds = omega arith;
          dying = omega arith;
          disposal = omega arith;
          strong_covered = λ k h. omega arith;
          weak_covered = λ k h. omega arith;
        }) null unseen

    there : (t : SlotId) → t.0 ≢ s.0
        → SlotLaw (numbers (with_slot (with_seat p n w) s y) t) (slot_at p t)
    there t ne =
        let c = seat_change p n w t hn in
        let d = slot_change (with_seat p n w) s y t hs in
        let u = times_loses t s (seat_at p n).dying xs loses in
        let o = held_other t s (λ f. ne (sym f)) in
        no_more_here (numbers p t) _ (slot_at p t) (slot_law p so t) (record {
          strong = omega arith;
          weak = omega arith;
          adds = omega arith;
          dying = omega arith;
          disposal = omega arith;
          strong_covered = λ k h. omega arith;
          weak_covered = λ k h. omega arith;
        })
