-- What a store that is kept knows of a slot, and that it is kept by each step of its seat.
use Rattle.std.proofs.Common.{◌≡◌, ⊎_elim, ◌<◌, ◌≤◌, length, arith, lit<}
use Rattle.std.proofs.lemmas.Bool.{cases_lt}
use Rattle.std.specs.Prelude.{slice_index}
use Rattle.std.proofs.lemmas.List.Elements.{All-get_or}
use Rattle.plain_state.specs.declared.slot.SlotId.{SlotId}
use Rattle.plain_state.specs.declared.slot.PlainSlot.{PlainSlot}
use Rattle.plain_state.specs.declared.slot.Stage.TheVariants.{Free, Live}
use Rattle.plain_store.specs.declared.store.Store.{Store}
use Rattle.plain_state.specs.State.{Plain, new_slot, seat_at, slot_at, stage_at}
use Rattle.plain_state.specs.References.{strong_refs, weak_refs}
use Rattle.plain_store.specs.Heaps.{Owns}
use Rattle.plain_state.specs.Sound.{Sound}
use Rattle.plain_store.specs.Stores.{plain_of, Kept}
use Rattle.plain_state.specs.Places.{Holds}
use Rattle.plain_state.proofs.Changes.{seat_part}
use Rattle.plain_state.proofs.SeatRows.{held_there, is_there}

pub owned_strong : (h : Store) (s : SlotId) → Owns (plain_of h) s → 0 < strong_refs (plain_of h) s
owned_strong h s o = let part = seat_part (plain_of h) 0 s (lit< tt) in omega (arith, part.owned)

pub owned_live : (h : Store) (s : SlotId) → Kept h → Owns (plain_of h) s → stage_at (plain_of h) s ≡ Live
owned_live h s k o = (k.sound.lawful.strong s (owned_strong h s o)).0

pub owned_there : (h : Store) (s : SlotId) → Kept h → Owns (plain_of h) s → s.0 < length h.slots.items
owned_there h s k o = is_there (plain_of h) s (λ e. (cc (owned_live h s k o)))

pub owned_counted : (h : Store) (s : SlotId) → Kept h → Owns (plain_of h) s → 0 < slice_index h.strong.items s.0
owned_counted h s k o = omega (arith, owned_strong h s o, k.tallied.strong s (owned_there h s k o))

-- nothing refers to a free slot
pub free_strong : (p : Plain) (s : SlotId) → Sound p → stage_at p s ≡ Free → strong_refs p s ≡ 0
free_strong p s so e = ⊎_elim (λ (some : 0 < strong_refs p s). absurd (cc ((so.lawful.strong s some).0))) (λ (none : strong_refs p s ≤ 0). omega arith) (cases_lt 0 (strong_refs p s))

pub free_weak : (p : Plain) (s : SlotId) → Sound p → stage_at p s ≡ Free → weak_refs p s ≡ 0
free_weak p s so e = ⊎_elim (λ (some : 0 < weak_refs p s). absurd (so.lawful.weak s some e)) (λ (none : weak_refs p s ≤ 0). omega arith) (cases_lt 0 (weak_refs p s))

pub payload_words : (p : Plain) (s : SlotId) → Sound p → s.0 < length p.slots → length (slot_at p s).payload ≡ 16
payload_words p s so lt = All-get_or (λ (x : PlainSlot). length x.payload ≡ 16) p.slots s.0 new_slot lt so.payloads

-- what the seat holds is there
pub held_slot : (h : Store) (s : SlotId) → Kept h → Holds (seat_at (plain_of h) 0) s → s.0 < length h.slots.items
held_slot h s k held = is_there (plain_of h) s (held_there (plain_of h) 0 s k.sound (lit< tt) held)
