-- The reading of an item's field by a deed of the caller's, and what it leaves beside the queue, level by level.
use Rattle.std.proofs.Common.{◌≡◌, ◌<◌, ℕ, List, [], ◌∷◌, ◌++◌, refl, ap, sym, subst, ◌∙◌, inl, inr, ⊎_elim, arith}
use Rattle.std.specs.Prelude.{Err, IfOk, IfSome, Ok, Option, Result, Some, None}
use Rattle.queue_protocol.specs.plain_state.declared.act.EventPlace.TheVariants.{Field}
use Rattle.queue_protocol.specs.plain_state.declared.act.PlainAct.{PlainAct}
use Rattle.queue_protocol.specs.plain_state.declared.act.PlainAct.TheVariants as plain
use Rattle.queue_protocol.specs.plain_state.declared.slot.SlotId.{SlotId}
use Rattle.queue_protocol.specs.plain_state.Lists.{times}
use Rattle.queue_protocol.specs.plain_state.Places.{HoldsStrongly}
use Rattle.queue_protocol.specs.plain_state.State.{Plain}
use Rattle.queue_protocol.specs.plain_protocol.Acts.{IsCalm}
use Rattle.queue_protocol.specs.plain_protocol.Owns.{OwnPart}
use Rattle.queue_protocol.specs.queue_law.Lessons.{TellsNothing}
use Rattle.queue_protocol.specs.queue_law.Views.{first_view}
use Rattle.queue_protocol.specs.queue_law.declared.view.View.{View}
use Rattle.slot_store.specs.acquire_retire.Calls.{same_view}
use Rattle.slot_store.specs.acquire_retire.Domains.{DomainState}
use Rattle.slot_store.specs.acquire_retire.Seats.{SeatState}
use Rattle.slot_store.specs.core_events.declared.view.CoreView.{CoreView}
use Rattle.slot_store.specs.core_events.Shows.{show_seat}
use Rattle.slot_store.specs.core_events.Views.{without}
use Rattle.slot_store.specs.core_events.Words.{slot_in}
use Rattle.slot_store.specs.counted_handles.Handles.{Handle}
use Rattle.slot_store.specs.counted_handles.declared.refusal.LoadError.{LoadError}
use Rattle.slot_store.specs.counted_handles.declared.refusal.LoadError.TheVariants as unloaded
use Rattle.slot_store.specs.domain_rule.Views.{object_in, own_of}
use Rattle.part_calls.specs.atomic_shared.Places.{named}
use Rattle.part_calls.specs.protected_loads.Loads.{Misses}
use Rattle.part_calls.specs.protected_loads.References.{IsReadyToLoad, Loads}
use Rattle.part_calls.specs.Parts.{HasBeside, seen_by}
use Rattle.part_calls.proofs.Seen.{IsSeen}
use Rattle.linked_queue.specs.Leaving.{Leaves, with_found}
use Rattle.linked_queue.specs.Pops.{with_both}
use Rattle.linked_queue.specs.Readings.{GoesBeside, KnowsBoth, LeavesBeside, LoadsBeside, MayRead, MayReadOne}
use Rattle.linked_queue.proofs.Both.{both_found}
use Rattle.linked_queue.proofs.Poppings.{some_found}
use Rattle.linked_queue.proofs.Trails.{trail_same, trail_then}

-- THE DEED
module _ {P V : Type 0} (fits : List ℕ → Type 0) (d : DomainState P) (seen : V → View)
    (with_seen : V → View → V) (ready : OwnPart → V → PlainAct → Type 0)
    (next : OwnPart → OwnPart → V → PlainAct → ℕ → V) where
  -- it is ready for a load of the field of an item that the seat owns
  pub reads_ready : (f : ℕ) (old : SeatState V) (item : SlotId)
      → MayRead seen with_seen f ready next old.view.client → 0 < times item old.view.core.owned
      → IsReadyToLoad fits d (Field item f) ready old
  reads_ready f old item may owns = record {
    look = λ w. may.is_ready (own_of old.view) old.view.client item (plain.Look (Field item f)) refl
        (inl refl) (held old.view.core owns);
    check = λ s mid announces w.
        let owned = ap (λ (v : CoreView). times item v.owned) announces.becomes.core in
        may.is_ready (own_of mid.view) mid.view.client item (plain.Check 0 (Field item f))
        (ap (λ v. with_seen v first_view) announces.client) (inr (0, refl))
        (held mid.view.core (omega arith));
  }
    where
      held : (v : CoreView) → 0 < times item v.owned → HoldsStrongly (show_seat v) item
      held v is = omega arith

  -- and to the queue it is a step that changes nothing
  pub reads_seen : (f : ℕ) (v : V) (allows : Plain → Plain → ℕ → V → V → Type 0)
      → MayRead seen with_seen f ready next v → IsSeen seen next allows same_view TellsNothing
  reads_seen f v allows may = record {
    leads = λ own after w a n. may.leaves_queue own after w a n;
    tells = λ p q n w u is. tt;
  }

  -- a step that leaves what is beside the queue leaves it so
  pub may_on : (field : Option ℕ) (old new : SeatState V)
      → HasBeside with_seen first_view old new
      → MayReadOne seen with_seen field ready next old.view.client
      → MayReadOne seen with_seen field ready next new.view.client
  may_on None old new same may = tt
  may_on (Some f) old new same may = record {
    is_ready = λ own w s step is. may.is_ready own w s step (is ∙ same);
    leaves_queue = may.leaves_queue;
  }

-- a deed that goes with every calm step, and leaves the view, is such a deed
pub still_reads : {V : Type 0} (seen : V → View) (with_seen : V → View → V) (f : ℕ) (v : V)
    → MayRead seen with_seen f (λ own w step. IsCalm step) (λ own after w step found. w) v
still_reads seen with_seen f v = record {
  is_ready = λ own w s step same is held. ⊎_elim
      (λ e. subst IsCalm (sym e) tt)
      (λ c. subst IsCalm (sym c.1) tt)
      is;
  leaves_queue = λ own after w step found. refl;
}

-- STRETCHES
module _ {V : Type 0} (with_seen : V → View → V) where
  pub beside_same : (a b : SeatState V) → b ≡ a → GoesBeside with_seen a b
  beside_same a b is = record {
    same = ap (λ (z : SeatState V). with_seen z.view.client first_view) is;
    trail = trail_same a b is;
  }

  pub beside_then : (a b c : SeatState V) → GoesBeside with_seen a b → GoesBeside with_seen b c
      → GoesBeside with_seen a c
  beside_then a b c first more = record {
    same = more.same ∙ first.same;
    trail = trail_then a b c first.trail more.trail;
  }

-- WHAT IS KNOWN
module _ {V : Type 0} (seen : V → View) (item : SlotId) (content : Option SlotId) where
  -- a seat knows as before what it owns before and after a stretch
  pub knows_both : (zs : List SlotId) (b c : SeatState V)
      → Leaves zs (seen_by seen b) (seen_by seen c)
      → 0 < times item b.view.core.owned → 0 < times item c.view.core.owned
      → IfSome content (λ s. 0 < times s b.view.core.owned)
      → IfSome content (λ s. 0 < times s c.view.core.owned) → KnowsBoth item content b c
  knows_both zs b c leaves was is had has = record {
    same_item = leaves.knows item (omega arith) (omega arith);
    same_content = of_content content had has;
  }
    where
      of_content : (o : Option SlotId) → IfSome o (λ s. 0 < times s b.view.core.owned)
          → IfSome o (λ s. 0 < times s c.view.core.owned)
          → IfSome o (λ s. object_in c.view s ≡ object_in b.view s)
      of_content None x y = tt
      of_content (Some s) x y = leaves.knows s (omega arith) (omega arith)

  pub knows_then : (a b c : SeatState V) → KnowsBoth item content a b → KnowsBoth item content b c
      → KnowsBoth item content a c
  knows_then a b c first more = record {
    same_item = more.same_item ∙ first.same_item;
    same_content = of_content content first.same_content more.same_content;
  }
    where
      of_content : (o : Option SlotId) → IfSome o (λ s. object_in b.view s ≡ object_in a.view s)
          → IfSome o (λ s. object_in c.view s ≡ object_in b.view s)
          → IfSome o (λ s. object_in c.view s ≡ object_in a.view s)
      of_content None x y = tt
      of_content (Some s) x y = y ∙ x

pub knows_same : {V : Type 0} (item : SlotId) (content : Option SlotId) (a : SeatState V)
    → KnowsBoth item content a a
knows_same item None a = record { same_item = refl; same_content = tt }
knows_same item (Some s) a = record { same_item = refl; same_content = refl }

-- what was found is owned
pub owned_item : (x : SlotId × Option SlotId) (xs ys : List SlotId)
    → ((s : SlotId) → times s ys ≡ times s (with_both (Some x) xs)) → 0 < times x.0 ys
owned_item x xs ys owns =
    let is = owns x.0 in let some' = both_found x xs in omega arith

pub owned_content : (content : Option SlotId) (xs ys : List SlotId)
    → ((s : SlotId) → times s ys ≡ times s (with_found content xs))
    → IfSome content (λ s. 0 < times s ys)
owned_content None xs ys owns = tt
owned_content (Some s) xs ys owns =
    let is = owns s in let some' = some_found s xs in omega arith

-- LEVELS
module _ {P V : Type 0} (fits : List ℕ → Type 0) (d : DomainState P) (seen : V → View)
    (with_seen : V → View → V) (next : OwnPart → OwnPart → V → PlainAct → ℕ → V)
    (allows : Plain → Plain → ℕ → V → V → Type 0) where
  -- nothing was read, and nothing popped
  pub unread : (field : Option ℕ) (a b : SeatState V) → HasBeside with_seen first_view a b
      → LeavesBeside fits d with_seen next allows field None a b
  unread None a b same = same
  unread (Some f) a b same = inl same

  -- the reading was refused
  pub refused : (field : Option ℕ) (item : SlotId) (e : LoadError) (a b : SeatState V)
      → LoadsBeside fits d with_seen next allows field item (Err e) a b
      → LeavesBeside fits d with_seen next allows field None a b
  refused None item e a b goes = goes.same
  refused (Some f) item e a b tries = inr (record {
    item = item;
    begun = a;
    tried = b;
    before = beside_same with_seen a a refl;
    tries = tries;
    after = beside_same with_seen b b refl;
  })

  -- the field was read, and the item not taken
  pub untaken : (field : Option ℕ) (item : SlotId) (found : Option Handle)
      (a b c : SeatState V)
      → LoadsBeside fits d with_seen next allows field item (Ok found) a b
      → GoesBeside with_seen b c → LeavesBeside fits d with_seen next allows field None a c
  untaken None item found a b c goes last = last.same ∙ goes.same
  untaken (Some f) item found a b c loads last = inr (record {
    item = item;
    begun = a;
    tried = b;
    before = beside_same with_seen a a refl;
    tries = inr (inl (named found, loads));
    after = last;
  })

  -- it was read, and the item taken
  pub taken : (field : Option ℕ) (item : SlotId) (found : Option Handle)
      (a b c : SeatState V)
      → LoadsBeside fits d with_seen next allows field item (Ok found) a b
      → GoesBeside with_seen b c → KnowsBoth item (named found) b c
      → LeavesBeside fits d with_seen next allows field (Some (item, named found)) a c
  taken None item found a b c goes last knows = last.same ∙ goes.same
  taken (Some f) item found a b c loads last knows = record {
    begun = a;
    read = b;
    before = beside_same with_seen a a refl;
    loads = loads;
    after = last;
    knows = knows;
  }

  -- with steps before and after
  pub within : (field : Option ℕ) (found : Option (SlotId × Option SlotId)) (z a b c : SeatState V)
      → GoesBeside with_seen z a → LeavesBeside fits d with_seen next allows field found a b
      → GoesBeside with_seen b c → IfSome found (λ x. KnowsBoth x.0 x.1 b c)
      → LeavesBeside fits d with_seen next allows field found z c
  within None found z a b c first is last knows = last.same ∙ is ∙ first.same
  within (Some f) None z a b c first is last knows = ⊎_elim
      (λ same. inl (last.same ∙ same ∙ first.same))
      (λ tries. inr (record {
        item = tries.item;
        begun = tries.begun;
        tried = tries.tried;
        before = beside_then with_seen z a tries.begun first tries.before;
        tries = tries.tries;
        after = beside_then with_seen tries.tried b c tries.after last;
      }))
      is
  within (Some f) (Some x) z a b c first is last knows = record {
    begun = is.begun;
    read = is.read;
    before = beside_then with_seen z a is.begun first is.before;
    loads = is.loads;
    after = beside_then with_seen is.read b c is.after last;
    knows = knows_then seen x.0 x.1 is.read b c is.knows knows;
  }

  -- with a reference to n, which is given up at the end
  pub through_beside : (field : Option ℕ) (found : Option (SlotId × Option SlotId)) (n : SlotId)
      (zs : List SlotId) (z a b c : SeatState V)
      → HasBeside with_seen first_view z a → Leaves zs (seen_by seen z) (seen_by seen a)
      → LeavesBeside fits d with_seen next allows field found a b
      → Leaves (with_both found a.view.core.owned) (seen_by seen a) (seen_by seen b)
      → HasBeside with_seen first_view b c
      → Leaves (without n b.view.core.owned) (seen_by seen b) (seen_by seen c)
      → Leaves (with_both found z.view.core.owned) (seen_by seen z) (seen_by seen c)
      → LeavesBeside fits d with_seen next allows field found z c
  through_beside field found n zs z a b c same gains is goes last gives all =
      within field found z a b c (record { same = same; trail = gains.trail }) is
      (record { same = last; trail = gives.trail })
      (of_found found goes.owns all.owns)
    where
      of_found : (o : Option (SlotId × Option SlotId))
          → ((s : SlotId) → times s b.view.core.owned ≡ times s (with_both o a.view.core.owned))
          → ((s : SlotId) → times s c.view.core.owned ≡ times s (with_both o z.view.core.owned))
          → IfSome o (λ x. KnowsBoth x.0 x.1 b c)
      of_found None at_b at_c = tt
      of_found (Some x) at_b at_c = knows_both seen x.0 x.1 (without n b.view.core.owned) b c gives
          (owned_item x a.view.core.owned b.view.core.owned at_b)
          (owned_item x z.view.core.owned c.view.core.owned at_c)
          (owned_content x.1 (a.view.core.owned ++ x.0 ∷ []) b.view.core.owned at_b)
          (owned_content x.1 (z.view.core.owned ++ x.0 ∷ []) c.view.core.owned at_c)

  -- whatever a load of the field answers
  pub load_told : (f : ℕ) (item : SlotId) (r : Result (Option Handle) LoadError) (a b : SeatState V)
      → (r ≡ Err unloaded.Spent → b ≡ a)
      → IfOk r (λ found. Loads fits d (Field item f) next allows (named found) a b)
      → ((was now : ℕ) → r ≡ Err (unloaded.Moved was now)
      → Misses fits d 0 (Field item f) next allows (slot_in was) (slot_in now) a b)
      → LoadsBeside fits d with_seen next allows (Some f) item r a b
  load_told f item (Ok found) a b same loads moved = loads
  load_told f item (Err unloaded.Spent) a b same loads moved = inl (same refl)
  load_told f item (Err (unloaded.Moved was now)) a b same loads moved =
      inr (inr (slot_in was, slot_in now, moved was now refl))
