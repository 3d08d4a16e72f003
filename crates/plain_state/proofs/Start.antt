-- The state with nothing in it is Sound.
use Rattle.std.proofs.Common.{◌≡◌, ⊎_elim, ℕ, length, replicate, refl, sym, subst, arith}
use Rattle.std.proofs.lemmas.Bool.{cases_lt}
use Rattle.std.proofs.lemmas.List.{length-replicate, get_or-replicate, get_or_past}
use Rattle.std.proofs.lemmas.List.Elements.{All-replicate}
use Rattle.plain_state.specs.declared.slot.Kind.TheVariants.{Strong, Weak, Disposal}
use Rattle.plain_state.specs.declared.slot.SlotId.{SlotId}
use Rattle.plain_state.specs.declared.slot.PlainSlot.{PlainSlot}
use Rattle.plain_state.specs.Lists.{times, entry_times}
use Rattle.plain_state.specs.State.{PlainSeat, new_slot, slot_at, empty}
use Rattle.plain_state.specs.References.{strong_fields, weak_fields}
use Rattle.plain_state.specs.Sound.{Sound}
use Rattle.plain_state.proofs.Kit.{held_none, times_none, entry_none, cells_null, seats_new, slots_new}
use Rattle.plain_state.proofs.SlotLaw.{SlotLaw, numbers, sound_by}

pub every_slot_new : (seats slots cells weak_cells : ℕ) (s : SlotId)
    → slot_at (empty seats slots cells weak_cells) s ≡ new_slot
every_slot_new seats slots cells weak_cells s =
    ⊎_elim
    (λ lt. get_or-replicate slots s.0 new_slot new_slot lt)
    (λ le.
    let l = length-replicate slots new_slot in
    get_or_past (replicate slots new_slot) s.0 new_slot (omega arith))
    (cases_lt s.0 slots)

law_of_new : (seats slots cells weak_cells : ℕ) (s : SlotId)
    → SlotLaw (numbers (empty seats slots cells weak_cells) s) new_slot
law_of_new seats slots cells weak_cells s =
    let none = times_none s in
    let owned = seats_new (λ (v : PlainSeat). times s v.owned) seats none in
    let weaks = seats_new (λ (v : PlainSeat). times s v.weaks) seats none in
    let dying = seats_new (λ (v : PlainSeat). times s v.dying) seats none in
    let sd = seats_new (λ (v : PlainSeat). entry_times Strong s v.deferred) seats
    (entry_none Strong s) in
    let wd = seats_new (λ (v : PlainSeat). entry_times Weak s v.deferred) seats
    (entry_none Weak s) in
    let ss = seats_new (λ (v : PlainSeat). entry_times Strong s v.snapshots) seats
    (entry_none Strong s) in
    let ws = seats_new (λ (v : PlainSeat). entry_times Weak s v.snapshots) seats
    (entry_none Weak s) in
    let ds = seats_new (λ (v : PlainSeat). entry_times Disposal s v.snapshots) seats
    (entry_none Disposal s) in
    let null = held_none s in
    let sf = slots_new (strong_fields s) slots (omega arith) in
    let wf = slots_new (weak_fields s) slots null in
    let sc = cells_null s cells in
    let wc = cells_null s weak_cells in
    record {
      strong_covered = λ h. absurd (omega arith);
      weak_covered = λ h. absurd (omega arith);
      disposal_covered = λ h. absurd (omega arith);
      strong = λ h. absurd (omega arith);
      weak = λ h. absurd (omega arith);
      once = omega arith;
      dying = (λ e. cc, λ h. absurd (omega arith));
      nulls = λ vacant. (refl, refl, refl);
      marks = λ other. refl;
      strong_few = omega arith;
      weak_few = omega arith;
    }

pub empty_sound : (seats slots cells weak_cells : ℕ) → Sound (empty seats slots cells weak_cells)
empty_sound seats slots cells weak_cells = sound_by (empty seats slots cells weak_cells)
    (λ s. subst (λ (x : PlainSlot). SlotLaw (numbers (empty seats slots cells weak_cells) s) x)
    (sym (every_slot_new seats slots cells weak_cells s))
    (law_of_new seats slots cells weak_cells s))
    (All-replicate (λ (x : PlainSlot). length x.payload ≡ 16) slots new_slot refl)
