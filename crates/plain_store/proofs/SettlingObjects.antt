-- An object that ended is destroyed: what the store then keeps.
use Rattle.std.proofs.Common.{◌≡◌, ◌≢◌, ◌+◌, ◌<◌, ◌≤◌, List, [], ◌∷◌, ◌++◌, length, refl, ap, sym, ◌∙◌, subst, arith, lit<, lit≤, Option, None, Some, append-nil, append_assoc, length-append}
use Rattle.std.specs.Prelude.{slice_index, slice_set, vec_capacity}
use Rattle.std.specs.VecDeque.{deque_capacity}
use Rattle.std.proofs.lemmas.List.{length-set, get_or-set_other}
use Rattle.plain_state.specs.declared.slot.Kind.{Kind}
use Rattle.plain_state.specs.declared.slot.Kind.TheVariants.{Strong, Weak}
use Rattle.plain_state.specs.declared.slot.SlotId.{SlotId}
use Rattle.plain_state.specs.declared.slot.PlainSlot.{PlainSlot}
use Rattle.plain_state.specs.declared.slot.Stage.TheVariants.{Ended}
use Rattle.plain_store.specs.declared.store.Store.{Store}
use Rattle.plain_state.specs.Lists.{Entry, times, Loses}
use Rattle.plain_state.specs.State.{Plain, new_slot, slot_at, stage_at}
use Rattle.plain_state.specs.References.{own_reference, over_slots}
use Rattle.plain_state.specs.Steps.{joined}
use Rattle.plain_store.specs.Stores.{plain_of, Tallied, Kept}
use Rattle.plain_store.specs.Draining.{Destroys, IsCalm, HasRoom, if_object, if_live, per_object, per_live, fewer, husk_of}
use Rattle.plain_state.proofs.Kit.{times_lost}
use Rattle.plain_state.proofs.SeatRows.{is_there}
use Rattle.plain_state.proofs.SlotRows.{dying_ended}
use Rattle.plain_store.proofs.SettlingSteps.{destroyed, defers, destroyed_settles}
use Rattle.plain_store.proofs.SettlingRefs.{tallied_less, calm_same, destroyed_refs}
use Rattle.plain_store.proofs.SettlingStores.{seat_of, kept_destroyed, live_room, object_room}
use Rattle.plain_store.proofs.SettlingEntries.{weak_counted, other_refs}

-- a list that takes what a place held has one entry more at most
joined_more : (k : Kind) (held : Option SlotId) (es : List Entry) → (more : List Entry) × (joined k held es ≡ es ++ more) × (length more ≤ 1)
joined_more k None es = ([], sym (append-nil es), lit≤ tt)
joined_more k (Some s) es = ((k, s) ∷ [], refl, lit≤ tt)

-- h' is h with the object in x destroyed, and no other slot touched
pub record IsDestroyed (h h' : Store) (x : SlotId) : Type 0 where
  pub owned : h'.owned.items ≡ h.owned.items
  pub weaks : h'.weaks.items ≡ h.weaks.items
  pub snapshots : h'.snapshots.items ≡ h.snapshots.items
  pub deferred : h'.deferred.items ≡ defers h.cells.items h.weak_cells.items x (slot_at (plain_of h) x) h.deferred.items
  pub dying : h.dying.items ≡ h'.dying.items ++ x ∷ []
  pub adds : h'.adds ≡ h.adds
  pub cells : h'.cells.items ≡ h.cells.items
  pub weak_cells : h'.weak_cells.items ≡ h.weak_cells.items
  pub slots : h'.slots.items ≡ slice_set h.slots.items x.0 (husk_of (slot_at (plain_of h) x))
  pub strong : h'.strong.items ≡ h.strong.items
  pub weak : h'.weak.items ≡ fewer Weak Weak x.0 h.weak.items
  pub next : h'.next ≡ h.next

-- the last slot of the dying list
module _ (h : Store) (x : SlotId) (rest : List SlotId) (kept : Kept h) (dying : h.dying.items ≡ rest ++ x ∷ []) where
  loses : Loses h.dying.items x rest
  loses = (rest, [], dying, sym (append-nil rest))

  listed : 0 < times x h.dying.items
  listed = times_lost x h.dying.items rest loses

  pub dying_stage : stage_at (plain_of h) x ≡ Ended
  dying_stage = dying_ended (plain_of h) 0 x kept.sound (lit< tt) listed

  pub dying_there : x.0 < length h.slots.items
  dying_there = is_there (plain_of h) x (λ f. (let e = dying_stage in cc))

  pub dying_counted : (x.0 < length h.weak.items) × (0 < slice_index h.weak.items x.0)
  dying_counted =
      let own = ap own_reference dying_stage in
      let c = weak_counted h x kept (omega arith) in (c.1, c.2)

  pub dying_room : HasRoom h → length h.deferred.items + 3 ≤ deque_capacity h.deferred
  dying_room room =
      let a = object_room h 3 x (husk_of (slot_at (plain_of h) x)) dying_there in
      let b = ap (if_object 3) dying_stage in omega (arith, room.deferred)

  abbrev pub after_destroy : Plain
  after_destroy = destroyed h.cells.items h.weak_cells.items x (seat_of h) rest h.slots.items

  pub destroy_settles : Destroys (plain_of h) (slot_at (plain_of h) x).payload after_destroy
  destroy_settles = destroyed_settles h.cells.items h.weak_cells.items x (seat_of h) rest h.slots.items (refl, listed, kept.disposals.snapshots x) loses dying_there

  pub destroy_tallied : Tallied after_destroy h.strong.items (fewer Weak Weak x.0 h.weak.items)
  destroy_tallied = tallied_less Weak x (plain_of h) after_destroy h.strong.items h.weak.items kept.tallied dying_there
      (length-set h.slots.items x.0 (husk_of (slot_at (plain_of h) x)))
      (λ s. destroyed_refs (seat_of h) h.cells.items h.weak_cells.items h.slots.items refl x dying_there rest s dying_stage)

  pub destroy_calm : (s : SlotId) → s.0 ≢ x.0 → IsCalm (plain_of h) s → IsCalm after_destroy s
  destroy_calm s ne calm = calm_same (plain_of h) after_destroy s
      (ap (λ (z : PlainSlot). z.stage) (get_or-set_other h.slots.items x.0 s.0 (husk_of (slot_at (plain_of h) x)) new_slot ne))
      (other_refs Weak x (plain_of h) after_destroy s ne (destroyed_refs (seat_of h) h.cells.items h.weak_cells.items h.slots.items refl x dying_there rest s dying_stage))
      calm

module _ (h h' : Store) (x : SlotId) (kept : Kept h) (is : IsDestroyed h h' x) where
  after_is : plain_of h' ≡ after_destroy h x h'.dying.items kept is.dying
  after_is =
      let a = is.owned in let b = is.weaks in let c = is.snapshots in let d = is.deferred in
      let f = is.adds in let g = is.cells in let i = is.weak_cells in let j = is.slots in
      cc

  pub gone_destroys : Destroys (plain_of h) (slot_at (plain_of h) x).payload (plain_of h')
  gone_destroys = subst (λ (q : Plain). Destroys (plain_of h) (slot_at (plain_of h) x).payload q) (sym after_is)
      (destroy_settles h x h'.dying.items kept is.dying)

  pub gone_kept : Kept h'
  gone_kept = kept_destroyed h h' (slot_at (plain_of h) x).payload kept gone_destroys
      (subst (λ (q : Plain). Tallied q h'.strong.items h'.weak.items) (sym after_is)
      (rw (is.strong, is.weak) (destroy_tallied h x h'.dying.items kept is.dying)))
      (record {
        adds = is.adds;
        slots = ap length is.slots ∙ length-set h.slots.items x.0 (husk_of (slot_at (plain_of h) x));
        next = is.next;
      })

  pub gone_room : HasRoom h → length h'.deferred.items ≤ length h.deferred.items + 3 → deque_capacity h'.deferred ≡ deque_capacity h.deferred
      → vec_capacity h'.dying ≡ vec_capacity h.dying → HasRoom h'
  gone_room room le same_deferred same_dying =
      let at = dying_there h x h'.dying.items kept is.dying in
      let stage = dying_stage h x h'.dying.items kept is.dying in
      let y = husk_of (slot_at (plain_of h) x) in
      let a = live_room h 1 x y at in
      let b = object_room h 3 x y at in
      let e = ap (if_live 1) stage in
      let f = ap (if_object 3) stage in
      let n = ap length is.dying in
      let o = length-append h'.dying.items (x ∷ []) in
      let p : per_live 1 (plain_of h') ≡ over_slots (λ (z : PlainSlot). if_live 1 z.stage) (slice_set h.slots.items x.0 y) =
      ap (over_slots (λ (z : PlainSlot). if_live 1 z.stage)) is.slots in
      let q : per_object 3 (plain_of h') ≡ over_slots (λ (z : PlainSlot). if_object 3 z.stage) (slice_set h.slots.items x.0 y) =
      ap (over_slots (λ (z : PlainSlot). if_object 3 z.stage)) is.slots in
      record { dying = omega (arith, room.dying); deferred = omega (arith, room.deferred) }

  pub gone_calm : (s : SlotId) → s.0 ≢ x.0 → IsCalm (plain_of h) s → IsCalm (plain_of h') s
  gone_calm s ne calm = subst (λ (q : Plain). IsCalm q s) (sym after_is) (destroy_calm h x h'.dying.items kept is.dying s ne calm)

-- the deferred list grows by three entries at most where an object is destroyed
pub defers_more : (h : Store) (x : SlotId) (y : PlainSlot) (es : List Entry)
    → (more : List Entry) × (defers h.cells.items h.weak_cells.items x y es ≡ es ++ more) × (length more ≤ 3)
defers_more h x y es =
    let a = joined_more Strong y.first es in
    let b = joined_more Strong y.second (joined Strong y.first es) in
    let c = joined_more Weak y.weak_field (joined Strong y.second (joined Strong y.first es)) in
    let d = length-append (a.0 ++ b.0) c.0 in
    let e = length-append a.0 b.0 in (
      (a.0 ++ b.0) ++ c.0,
      c.1 ∙ ap (λ (l : List Entry). l ++ c.0) (b.1 ∙ ap (λ (l : List Entry). l ++ b.0) a.1 ∙ append_assoc es a.0 b.0)
          ∙ append_assoc es (a.0 ++ b.0) c.0,
      omega (arith, a.2, b.2, c.2),
    )
