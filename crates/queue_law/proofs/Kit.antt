-- References, and what stays while a slot is referred to.
use Rattle.std.proofs.Common.{◌≡◌, ⊎_elim, ℕ, ◌+◌, ◌<◌, false, length, get_or, refl, ap, sym, ◌∙◌, subst, arith, Option, Some, None}
use Rattle.std.specs.Prelude.{if◌then◌else◌}
use Rattle.std.proofs.lemmas.List.{get_or_past}
use Rattle.std.proofs.lemmas.Bool.{cases_lt, lt-ltb}
use Rattle.plain_protocol.specs.plain_state.declared.slot.SlotId.{SlotId}
use Rattle.plain_protocol.specs.plain_state.declared.slot.PlainSlot.{PlainSlot}
use Rattle.plain_protocol.specs.plain_state.declared.slot.Kind.TheVariants.{Strong}
use Rattle.plain_protocol.specs.plain_state.declared.slot.Stage.{Stage}
use Rattle.plain_protocol.specs.plain_state.declared.slot.Stage.TheVariants as stage
use Rattle.plain_protocol.specs.plain_state.Lists.{entry_times, cell_times}
use Rattle.plain_protocol.specs.plain_state.Lists as lists
use Rattle.plain_protocol.specs.plain_state.References.{held_in, strong_fields, weak_fields}
use Rattle.plain_protocol.specs.plain_state.State.{Plain, PlainSeat, seat_at, new_seat, new_slot}
use Rattle.plain_protocol.specs.plain_state.State as state
use Rattle.plain_protocol.specs.plain_state.Lawful.{Lawful}
use Rattle.plain_protocol.specs.plain_state.Steps.{word_of}
use Rattle.plain_protocol.specs.plain_state.Places as places
use Rattle.plain_protocol.proofs.Below.plain_state_Kit.{slot_is, held_same, cells_at, slots_at, seats_at, times_none, entry_none}
use Rattle.plain_protocol.specs.Owns.{own_part, object_of}
use Rattle.queue_law.specs.Words.{slot_at, cell_at, code, Live, LIVE, strong_refs, weak_refs, times, held_times, life_of, payload_of, life_in, payload_in, id}

-- a word that isn't 0
pub word_some : (o : Option SlotId) (s : ℕ) → word_of o ≡ s + 1 → o ≡ Some (id s)
word_some None s e = absurd (omega arith)
word_some (Some x) s e = ap (λ z. Some z) (slot_is x (id s) (omega arith))

pub word_none : (o : Option SlotId) → word_of o ≡ 0 → o ≡ None
word_none None e = refl
word_none (Some x) e = absurd (omega arith)

holds_one : (o : Option SlotId) (s : ℕ) → word_of o ≡ s + 1 → held_in (id s) o ≡ 1
holds_one o s e = subst (λ z. held_in (id s) z ≡ 1) (sym (word_some o s e)) (held_same (id s) (id s) refl)

pub refs_cell : (p : Plain) (c s : ℕ) → cell_at p c ≡ s + 1 → 0 < strong_refs p s
refs_cell p c s e = ⊎_elim
    (λ low. let a = cells_at (id s) p.cells c low in let b = holds_one (get_or p.cells c None) s e in
    omega arith)
    (λ past. let a = ap word_of (get_or_past p.cells c None past) in absurd (omega arith))
    (cases_lt c (length p.cells))

pub refs_first : (p : Plain) (x s : ℕ) → (slot_at p x).first ≡ s + 1 → 0 < strong_refs p s
refs_first p x s e = ⊎_elim
    (λ low. let a = slots_at (strong_fields (id s)) p.slots x low in
    let b = holds_one (state.slot_at p (id x)).first s e in omega arith)
    (λ past. let a = ap (λ (z : PlainSlot). word_of z.first) (get_or_past p.slots x new_slot past) in
    absurd (omega arith)) (cases_lt x (length p.slots))

pub refs_second : (p : Plain) (x s : ℕ) → (slot_at p x).second ≡ s + 1 → 0 < strong_refs p s
refs_second p x s e = ⊎_elim
    (λ low. let a = slots_at (strong_fields (id s)) p.slots x low in
    let b = holds_one (state.slot_at p (id x)).second s e in omega arith)
    (λ past. let a = ap (λ (z : PlainSlot). word_of z.second) (get_or_past p.slots x new_slot past) in
    absurd (omega arith)) (cases_lt x (length p.slots))

pub refs_back : (p : Plain) (x s : ℕ) → (slot_at p x).back ≡ s + 1 → 0 < weak_refs p s
refs_back p x s e = ⊎_elim
    (λ low. let a = slots_at (weak_fields (id s)) p.slots x low in
    let b = holds_one (state.slot_at p (id x)).weak_field s e in omega arith)
    (λ past. let a = ap (λ (z : PlainSlot). word_of z.weak_field) (get_or_past p.slots x new_slot past) in
    absurd (omega arith)) (cases_lt x (length p.slots))

pub referred : (p : Plain) → Lawful p → (s : ℕ) → 0 < strong_refs p s
    → Live p s × ((slot_at p s).marked ≡ false)
referred p lawful s refs = let l = lawful.strong (id s) refs in (ap code l.0, l.1)

pub refs_held : (p : Plain) (n s : ℕ) → Lawful p → 0 < held_times s (seat_at p n) → 0 < strong_refs p s
refs_held p n s lawful held = ⊎_elim
    (λ low. ⊎_elim
    (λ owns. let a = seats_at (λ v. lists.times (id s) v.owned) p.seats n low in omega arith)
    (λ none.
    let b = seats_at (λ v. entry_times Strong (id s) v.snapshots) p.seats n low in
    let a = lawful.covered Strong (id s) (omega arith) in omega arith)
    (cases_lt 0 (times s (seat_at p n).owned)))
    (λ past. let e = get_or_past p.seats n new_seat past in
    let a : held_times s (seat_at p n) ≡ 0 = ap (held_times s) e
    ∙ (let z = times_none (id s) in let y = entry_none Strong (id s) in omega arith) in
    absurd (omega arith))
    (cases_lt n (length p.seats))

pub held_live : (p : Plain) (n s : ℕ) → Lawful p → 0 < held_times s (seat_at p n) → Live p s
held_live p n s lawful held = (referred p lawful s (refs_held p n s lawful held)).0

abbrev pub knows_times : ℕ → PlainSeat → ℕ
knows_times s v = places.held_times (id s) v + lists.times (id s) v.dying + held_in (id s) v.filling

pub knows_life : (p : Plain) (n s : ℕ) → 0 < knows_times s (seat_at p n)
    → life_in (own_part p n) s ≡ (slot_at p s).life
knows_life p n s knows = ap (λ b. life_of (if b then Some (object_of (state.slot_at p (id s))) else None))
    (lt-ltb 0 (knows_times s (seat_at p n)) knows)

pub knows_payload : (p : Plain) (n s : ℕ) → 0 < knows_times s (seat_at p n)
    → payload_in (own_part p n) s ≡ (slot_at p s).payload
knows_payload p n s knows =
    ap (λ b. payload_of (if b then Some (object_of (state.slot_at p (id s))) else None))
    (lt-ltb 0 (knows_times s (seat_at p n)) knows)

pub own_life : (p : Plain) (n s : ℕ) → 0 < held_times s (seat_at p n)
    → life_in (own_part p n) s ≡ (slot_at p s).life
own_life p n s held = knows_life p n s (omega arith)

pub own_payload : (p : Plain) (n s : ℕ) → 0 < held_times s (seat_at p n)
    → payload_in (own_part p n) s ≡ (slot_at p s).payload
own_payload p n s held = knows_payload p n s (omega arith)

pub live_code : (x : Stage) → code x ≡ LIVE → x ≡ stage.Live
live_code stage.Free e = absurd (omega arith)
live_code stage.Blank e = absurd (omega arith)
live_code stage.Live e = refl
live_code stage.Ended e = absurd (omega arith)
live_code stage.Husk e = absurd (omega arith)

pub blank_code : (x : Stage) → code x ≡ 1 → x ≡ stage.Blank
blank_code stage.Free e = absurd (omega arith)
blank_code stage.Blank e = refl
blank_code stage.Live e = absurd (omega arith)
blank_code stage.Ended e = absurd (omega arith)
blank_code stage.Husk e = absurd (omega arith)
