-- What a place or a deferred entry of a sound state names is there.
use Rattle.std.proofs.Common.{◌≡◌, ℕ, zero, suc, ◌+◌, ◌<◌, ◌≤◌, List, [], ◌∷◌, length, get_or, ap, ◌∙◌, arith, Option, Some, None}
use Rattle.heap_audit.specs.plain_state.declared.act.EventPlace.{EventPlace}
use Rattle.heap_audit.specs.plain_state.declared.slot.Kind.{Kind}
use Rattle.heap_audit.specs.plain_state.declared.slot.Kind.TheVariants.{Strong, Weak, Disposal}
use Rattle.heap_audit.specs.plain_state.declared.slot.SlotId.{SlotId}
use Rattle.heap_audit.specs.plain_state.Lists.{Entry, entry_times}
use Rattle.heap_audit.specs.plain_state.State.{Plain, seat_at}
use Rattle.heap_audit.specs.plain_state.Places.{place_kind, content}
use Rattle.heap_audit.specs.plain_state.References.{held_in, places, deferrals}
use Rattle.heap_audit.specs.plain_state.Sound.{Sound}
use Rattle.heap_audit.specs.plain_state.Steps.{word_of}
use Rattle.heap_audit.proofs.Below.plain_state_Changes.{IsThere, place_part, seat_part}
use Rattle.heap_audit.proofs.Below.plain_state_Kit.{held_self, entry_self, entry_cons}
use Rattle.heap_audit.proofs.Below.plain_state_SeatRows.{is_there}
use Rattle.cdrc_plain.specs.plain_store.Heaps.{NoDisposals}
use Rattle.plain_audit.proofs.Numbers.{seat_alone}

-- an entry stands in its list
entry_stands : (es : List Entry) (i : ℕ) (d : Entry) → i < length es → 0 < entry_times (get_or es i d).0 (get_or es i d).1 es
entry_stands [] i d lt = absurd (omega arith)
entry_stands (e ∷ es) zero d lt = omega (arith, entry_cons e.0 e.1 e es, entry_self e.0 e.1)
entry_stands (e ∷ es) (suc i) d lt =
    let f = get_or es i d in omega (arith, entry_cons f.0 f.1 e es, entry_stands es i d (omega arith))

module _ (p : Plain) (so : Sound p) (alone : length p.seats ≡ 1) (none : NoDisposals p) where
  seat : 0 < length p.seats
  seat = omega arith

  -- a slot that places or deferred entries of a kind refer to
  named_within : (k : Kind) (s : SlotId) → 0 < places k p s + deferrals k p s → s.0 < length p.slots
  named_within Strong s h =
      let live = (so.lawful.strong s (omega (arith, h))).0 in is_there p s (λ free. cc)
  named_within Weak s h = is_there p s (so.lawful.weak s (omega (arith, h)))
  named_within Disposal s h = absurd (omega (arith, h, seat_alone (λ v. entry_times Disposal s v.deferred) p alone, none.deferred s))

  pub place_within : (place : EventPlace) (held : Option SlotId) → IsThere p place → content p place ≡ held → word_of held ≤ length p.slots
  place_within place None there e = omega arith
  place_within place (Some s) there e =
      let one : held_in s (content p place) ≡ 1 = ap (held_in s) e ∙ held_self s in
      let lt = named_within (place_kind place) s (omega (arith, one, place_part p place s there)) in omega (arith, lt)

  pub entry_within : (i : ℕ) (d : Entry) → i < length (seat_at p 0).deferred → (get_or (seat_at p 0).deferred i d).1.0 < length p.slots
  entry_within i d lt =
      let e = get_or (seat_at p 0).deferred i d in
      by_kind e.0 e.1 (entry_stands (seat_at p 0).deferred i d lt)
    where
      by_kind : (k : Kind) (s : SlotId) → 0 < entry_times k s (seat_at p 0).deferred → s.0 < length p.slots
      by_kind Strong s h = named_within Strong s (omega (arith, h, seat_part p 0 s seat))
      by_kind Disposal s h = absurd (omega (arith, h, none.deferred s))
      by_kind Weak s h = named_within Weak s (omega (arith, h, seat_part p 0 s seat))
