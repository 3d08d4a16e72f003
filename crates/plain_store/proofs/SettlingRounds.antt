-- The turns of a settle, added up: what it answers fits its type, and where it ends nothing more may go.
use Rattle.std.proofs.Common.{◌≡◌, inr, ℕ, ◌+◌, ◌-◌, ◌^◌, ◌<◌, ◌≤◌, List, [], ◌++◌, length, take, ap, sym, subst, arith, length-append}
use Rattle.std.proofs.lemmas.List.{take_all, take-append-le}
use Rattle.plain_state.specs.declared.slot.SlotId.{SlotId}
use Rattle.plain_state.specs.declared.slot.Stage.TheVariants.{Ended}
use Rattle.plain_store.specs.declared.store.Store.{Store}
use Rattle.plain_state.specs.Lists.{Entry, entry_times}
use Rattle.plain_state.specs.State.{Plain, seat_at, slot_at, stage_at}
use Rattle.plain_state.specs.Fits.{AllFit}
use Rattle.plain_store.specs.Stores.{plain_of, Kept}
use Rattle.plain_store.specs.Settling.{SettlesTo, IsSettled}
use Rattle.plain_store.specs.Draining.{SettlesFreely, Destroys, IsCalm, HasRoom, AllNeeded, per_object}
use Rattle.plain_store.proofs.Settlings.{then_settles, still_settles, settles_keeps}
use Rattle.plain_state.proofs.Kit.{entry_none}
use Rattle.plain_store.proofs.SettlingStores.{object_few}

-- what holds after some turns
pub record Drained (fits : List ℕ → Type 0) (weight : List ℕ → ℕ) (start now : Store) (total stays : ℕ) : Type 0 where
  pub settles : SettlesTo weight (plain_of start) total (plain_of now)
  pub kept : Kept now
  pub room : HasRoom now
  pub calm : (s : SlotId) → IsCalm (plain_of now) s
  pub looked : stays ≤ length now.deferred.items
  pub needed : AllNeeded (take stays now.deferred.items) now.snapshots.items

module _ (fits : List ℕ → Type 0) (weight : List ℕ → ℕ) (bounded : (words : List ℕ) → fits words → weight words ≤ 2 ^ 32) where
  -- payloads fit after it, and the weights are bounded by the objects that are gone
  pub fit_after : (start now : Store) (total : ℕ) → Kept start → AllFit fits (plain_of start)
      → SettlesTo weight (plain_of start) total (plain_of now) → AllFit fits (plain_of now)
  fit_after start now total kept fit by =
      (settles_keeps fits weight (2 ^ 32) bounded by.0 (plain_of start) (plain_of now) total kept.sound fit by.1).0

  pub total_fits : (start now : Store) (total : ℕ) → Kept start → AllFit fits (plain_of start)
      → SettlesTo weight (plain_of start) total (plain_of now) → total < 2 ^ 64
  total_fits start now total kept fit by =
      let a = (settles_keeps fits weight (2 ^ 32) bounded by.0 (plain_of start) (plain_of now) total kept.sound fit by.1).1 in
      let b = object_few (2 ^ 32) (plain_of start) in
      omega (arith, kept.slots)

  -- an object's payload fits
  pub object_fits : (start now : Store) (total : ℕ) (words : List ℕ) → Kept start → AllFit fits (plain_of start)
      → SettlesTo weight (plain_of start) total (plain_of now)
      → (s : SlotId) × (stage_at (plain_of now) s ≡ Ended) × (words ≡ (slot_at (plain_of now) s).payload) → fits words
  object_fits start now total words kept fit by (s, stage, e) =
      subst fits (sym e) (fit_after start now total kept fit by s (inr stage))

-- fewer objects after an object is destroyed, and no more after a step that destroys none
pub fewer_objects : (h h' : Store) (words : List ℕ) → Kept h → Destroys (plain_of h) words (plain_of h')
    → per_object 4 (plain_of h') + 4 ≤ per_object 4 (plain_of h)
fewer_objects h h' words k d =
    let by = d (λ w. 4) in
    let a = (settles_keeps (λ w. Unit {0}) (λ w. 4) 4 (λ w u. (omega arith)) by.0 (plain_of h) (plain_of h') 4 k.sound (λ s o. tt) by.1).1 in
    omega arith

pub no_more_objects : (h h' : Store) → Kept h → SettlesFreely (plain_of h) (plain_of h')
    → per_object 4 (plain_of h') ≤ per_object 4 (plain_of h)
no_more_objects h h' k d =
    let by = d (λ w. 4) in
    let a = (settles_keeps (λ w. Unit {0}) (λ w. 4) 4 (λ w u. (omega arith)) by.0 (plain_of h) (plain_of h') 0 k.sound (λ s o. tt) by.1).1 in
    omega arith

-- an object is destroyed: its payload's weight joins the total
pub drained_more : (fits : List ℕ → Type 0) (weight : List ℕ → ℕ) (start h h' : Store) (total t stays : ℕ) (words : List ℕ)
    → Drained fits weight start h total stays → Destroys (plain_of h) words (plain_of h') → t ≡ total + weight words
    → Kept h' → HasRoom h' → ((s : SlotId) → IsCalm (plain_of h') s)
    → (more : List Entry) × (h'.deferred.items ≡ h.deferred.items ++ more) × (length more ≤ 3)
    → h'.snapshots ≡ h.snapshots → Drained fits weight start h' t stays
drained_more fits weight start h h' total t stays words d destroys sum kept room calm (more, e, few) same = record {
  settles = then_settles weight (plain_of start) (plain_of h) (plain_of h') total (weight words) t d.settles (destroys weight) sum;
  kept = kept;
  room = room;
  calm = calm;
  looked = (let a = ap length e in let b = length-append h.deferred.items more in omega (arith, d.looked));
  needed = rw (e, same) (rw (take-append-le stays h.deferred.items more d.looked) d.needed);
}

-- an entry goes, or is kept
pub drained_on : (fits : List ℕ → Type 0) (weight : List ℕ → ℕ) (start g h h' : Store) (total stays now : ℕ)
    → Drained fits weight start g total stays → plain_of h ≡ plain_of g → SettlesFreely (plain_of h) (plain_of h')
    → Kept h' → HasRoom h' → ((s : SlotId) → IsCalm (plain_of h') s) → now ≤ length h'.deferred.items
    → AllNeeded (take now h'.deferred.items) h'.snapshots.items → Drained fits weight start h' total now
drained_on fits weight start g h h' total stays now d e freely kept room calm le needed = record {
  settles = then_settles weight (plain_of start) (plain_of h) (plain_of h') total 0 total
      (subst (λ (p : Plain). SettlesTo weight (plain_of start) total p) (sym e) d.settles) (freely weight) (omega arith);
  kept = kept;
  room = room;
  calm = calm;
  looked = le;
  needed = needed;
}

-- where nothing is dying, and all entries are looked at, the heap is settled
pub all_settled : (h : Store) (stays : ℕ) → ((s : SlotId) → IsCalm (plain_of h) s) → AllNeeded (take stays h.deferred.items) h.snapshots.items
    → stays ≡ length h.deferred.items → h.dying.items ≡ [] → IsSettled (plain_of h)
all_settled h stays calm needed all none = record {
  ejected = λ k s. subst (λ (es : List Entry). entry_times k s es ≤ entry_times k s h.snapshots.items)
      (take_all stays h.deferred.items (omega arith)) (needed k s);
  destroyed = none;
  ended = λ s. (calm s).0;
  given = λ s. (calm s).1;
}

-- before the first turn
pub drained_none : (fits : List ℕ → Type 0) (weight : List ℕ → ℕ) (start : Store) → Kept start → HasRoom start
    → ((s : SlotId) → IsCalm (plain_of start) s) → Drained fits weight start start 0 0
drained_none fits weight start kept room calm = record {
  settles = still_settles (plain_of start) weight;
  kept = kept;
  room = room;
  calm = calm;
  looked = omega arith;
  needed = λ k s. (let z = entry_none k s in omega arith);
}

-- of two stores with the same plain state
pub same_deferred : (h h' : Store) → plain_of h' ≡ plain_of h → length h'.deferred.items ≡ length h.deferred.items
same_deferred h h' e = ap (λ (p : Plain). length (seat_at p 0).deferred) e

pub same_needed : (h h' : Store) (stays : ℕ) → plain_of h' ≡ plain_of h → AllNeeded (take stays h.deferred.items) h.snapshots.items
    → AllNeeded (take stays h'.deferred.items) h'.snapshots.items
same_needed h h' stays e needed =
    subst (λ (p : Plain). AllNeeded (take stays (seat_at p 0).deferred) (seat_at p 0).snapshots) (sym e) needed

-- each turn leaves less to do: an object leaves three entries at most
pub less_destroyed : (h h' : Store) (words : List ℕ) (stays : ℕ) → Kept h → stays ≤ length h.deferred.items → Destroys (plain_of h) words (plain_of h')
    → (more : List Entry) × (h'.deferred.items ≡ h.deferred.items ++ more) × (length more ≤ 3)
    → per_object 4 (plain_of h') + (length h'.deferred.items - stays) < per_object 4 (plain_of h) + (length h.deferred.items - stays)
less_destroyed h h' words stays k le d (more, e, few) =
    let a = fewer_objects h h' words k d in
    let b = ap length e in
    let c = length-append h.deferred.items more in omega arith

pub less_looked : (g h h' : Store) (stays now : ℕ) → plain_of h ≡ plain_of g → Kept h → SettlesFreely (plain_of h) (plain_of h')
    → now ≤ length h'.deferred.items → stays ≤ length g.deferred.items
    → length h'.deferred.items + stays < length h.deferred.items + now
    → per_object 4 (plain_of h') + (length h'.deferred.items - now) < per_object 4 (plain_of g) + (length g.deferred.items - stays)
less_looked g h h' stays now e k d le before fewer =
    let a = no_more_objects h h' k d in
    let b : per_object 4 (plain_of h) ≡ per_object 4 (plain_of g) = ap (per_object 4) e in
    let c = same_deferred g h e in omega arith
