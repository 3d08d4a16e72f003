-- The steps that give the seat a handle, and those that take one away.
use Rattle.std.proofs.Common.{◌≡◌, ⊎_elim, ℕ, ◌+◌, ◌<◌, Bool, true, false, List, [], ◌∷◌, ◌++◌, length, refl, ap, sym, subst, ◌∙◌, arith, Some, None}
use Rattle.plain_audit.specs.plain_state.declared.act.EventPlace.{EventPlace}
use Rattle.plain_audit.specs.plain_state.declared.act.PlainAct.TheVariants as act
use Rattle.plain_audit.specs.plain_state.declared.slot.Kind.{Kind}
use Rattle.plain_audit.specs.plain_state.declared.slot.Kind.TheVariants as kind
use Rattle.plain_audit.specs.plain_state.declared.slot.SlotId.{SlotId}
use Rattle.plain_audit.specs.plain_state.Lists.{times, entry_times, Loses}
use Rattle.plain_audit.specs.plain_state.Places.{place_kind, content}
use Rattle.plain_audit.specs.plain_state.Runs.{Runs}
use Rattle.plain_audit.specs.plain_state.State.{Plain, PlainSeat, seat_at, with_seat}
use Rattle.plain_audit.specs.plain_state.Steps.{Does, GivesUp, Replaces, joined}
use Rattle.plain_audit.proofs.Below.plain_state_Kit.{times_push, times_loses, entry_loses}
use Rattle.plain_settling.specs.plain_store.Heaps.{Makes, fills}
use Rattle.plain_settling.specs.plain_store.Calls.{Gains, WeaklyGains, Loads, WeaklyLoads, strong_place}
use Rattle.plain_settling.specs.Snapshots.{IsUnderMore, Takes}
use Rattle.plain_settling.specs.plain_store.declared.place.PlainPlace.{PlainPlace}
use Rattle.plain_settling.specs.plain_store.declared.place.PlainPlace.TheVariants as strong
use Rattle.script_desk.specs.declared.handle.Handle.{Handle}
use Rattle.script_desk.specs.declared.handle.Handle.TheVariants.{Strong, Weak, Snapshot}
use Rattle.script_desk.specs.Holding.{owned_by, weakly_owned_by, announced_by, not_strong, SameSizes, HasMore, HasSame, giving}
use Rattle.script_desk.proofs.Grows.{same_sizes, seat_written, written, placed, placed_same_sizes, has_lists}
use Rattle.script_desk.proofs.Steps.{slot_written, slot_alone}

-- seat 0 is w, which has a handle more
module _ (p q : Plain) (w : PlainSeat) (sizes : SameSizes p q) (is : seat_at q 0 ≡ w) where
  has_more : (h : Handle)
      → ((s : SlotId) → times s w.owned ≡ times s (seat_at p 0).owned + owned_by s h)
      → ((s : SlotId) → times s w.weaks ≡ times s (seat_at p 0).weaks + weakly_owned_by s h)
      → ((s : SlotId) → entry_times kind.Strong s w.snapshots ≡ entry_times kind.Strong s (seat_at p 0).snapshots + announced_by s h)
      → ((s : SlotId) → not_strong s w.snapshots ≡ not_strong s (seat_at p 0).snapshots)
      → HasMore p h q
  has_more h owned weaks snapshots weak_snapshots = record {
    sizes = sizes;
    owned = λ s. ap (λ (v : PlainSeat). times s v.owned) is ∙ owned s;
    weaks = λ s. ap (λ (v : PlainSeat). times s v.weaks) is ∙ weaks s;
    snapshots = λ s. ap (λ (v : PlainSeat). entry_times kind.Strong s v.snapshots) is ∙ snapshots s;
    weak_snapshots = λ s. ap (λ (v : PlainSeat). not_strong s v.snapshots) is ∙ weak_snapshots s;
  }

  -- or a handle fewer
  has_fewer : (h : Handle)
      → ((s : SlotId) → times s w.owned + owned_by s h ≡ times s (seat_at p 0).owned)
      → ((s : SlotId) → times s w.weaks + weakly_owned_by s h ≡ times s (seat_at p 0).weaks)
      → ((s : SlotId) → entry_times kind.Strong s w.snapshots + announced_by s h ≡ entry_times kind.Strong s (seat_at p 0).snapshots)
      → ((s : SlotId) → not_strong s w.snapshots ≡ not_strong s (seat_at p 0).snapshots)
      → HasMore q h p
  has_fewer h owned weaks snapshots weak_snapshots = record {
    sizes = record { slots = sym sizes.slots; cells = sym sizes.cells; weak_cells = sym sizes.weak_cells };
    owned = λ s. let a = ap (λ (v : PlainSeat). times s v.owned) is in omega (arith, owned s);
    weaks = λ s. let a = ap (λ (v : PlainSeat). times s v.weaks) is in omega (arith, weaks s);
    snapshots = λ s. let a = ap (λ (v : PlainSeat). entry_times kind.Strong s v.snapshots) is in omega (arith, snapshots s);
    weak_snapshots = λ s. let a = ap (λ (v : PlainSeat). not_strong s v.snapshots) is in omega (arith, weak_snapshots s);
  }

-- one owned reference more, for a strong handle or a counted snapshot
owned_more : (p q : Plain) (w : PlainSeat) (s : SlotId) → SameSizes p q → seat_at q 0 ≡ w
    → w.owned ≡ (seat_at p 0).owned ++ s ∷ [] → w.weaks ≡ (seat_at p 0).weaks → w.snapshots ≡ (seat_at p 0).snapshots
    → HasMore p (Strong s) q × HasMore p (Snapshot (s, true)) q
owned_more p q w s sizes is owned weaks snapshots =
    let o = λ (t : SlotId). ap (times t) owned ∙ times_push t s (seat_at p 0).owned in
    let u : (t : SlotId) → times t w.weaks ≡ times t (seat_at p 0).weaks + 0 = λ t. let a = ap (times t) weaks in omega arith in
    let n : (t : SlotId) → entry_times kind.Strong t w.snapshots ≡ entry_times kind.Strong t (seat_at p 0).snapshots + 0 = λ t. let a = ap (entry_times kind.Strong t) snapshots in omega arith in
    let m = λ (t : SlotId). ap (not_strong t) snapshots in
    (has_more p q w sizes is (Strong s) o u n m, has_more p q w sizes is (Snapshot (s, true)) o u n m)

owned_fewer : (p q : Plain) (w : PlainSeat) (s : SlotId) → SameSizes p q → seat_at q 0 ≡ w
    → Loses (seat_at p 0).owned s w.owned → w.weaks ≡ (seat_at p 0).weaks → w.snapshots ≡ (seat_at p 0).snapshots
    → HasMore q (Strong s) p × HasMore q (Snapshot (s, true)) p
owned_fewer p q w s sizes is owned weaks snapshots =
    let o = λ (t : SlotId). times_loses t s (seat_at p 0).owned w.owned owned in
    let u : (t : SlotId) → times t w.weaks + 0 ≡ times t (seat_at p 0).weaks = λ t. let a = ap (times t) weaks in omega arith in
    let n : (t : SlotId) → entry_times kind.Strong t w.snapshots + 0 ≡ entry_times kind.Strong t (seat_at p 0).snapshots = λ t. let a = ap (entry_times kind.Strong t) snapshots in omega arith in
    let m = λ (t : SlotId). ap (not_strong t) snapshots in
    (has_fewer p q w sizes is (Strong s) o u n m, has_fewer p q w sizes is (Snapshot (s, true)) o u n m)

-- one weak reference more
weaks_more : (p q : Plain) (w : PlainSeat) (s : SlotId) → SameSizes p q → seat_at q 0 ≡ w
    → w.owned ≡ (seat_at p 0).owned → w.weaks ≡ (seat_at p 0).weaks ++ s ∷ [] → w.snapshots ≡ (seat_at p 0).snapshots
    → HasMore p (Weak s) q
weaks_more p q w s sizes is owned weaks snapshots =
    has_more p q w sizes is (Weak s)
    (λ t. let a = ap (times t) owned in omega arith)
    (λ t. ap (times t) weaks ∙ times_push t s (seat_at p 0).weaks)
    (λ t. let a = ap (entry_times kind.Strong t) snapshots in omega arith)
    (λ t. ap (not_strong t) snapshots)

weaks_fewer : (p q : Plain) (w : PlainSeat) (s : SlotId) → SameSizes p q → seat_at q 0 ≡ w
    → w.owned ≡ (seat_at p 0).owned → Loses (seat_at p 0).weaks s w.weaks → w.snapshots ≡ (seat_at p 0).snapshots
    → HasMore q (Weak s) p
weaks_fewer p q w s sizes is owned weaks snapshots =
    has_fewer p q w sizes is (Weak s)
    (λ t. let a = ap (times t) owned in omega arith)
    (λ t. times_loses t s (seat_at p 0).weaks w.weaks weaks)
    (λ t. let a = ap (entry_times kind.Strong t) snapshots in omega arith)
    (λ t. ap (not_strong t) snapshots)

-- ---- the calls that give a handle

abbrev with_owned : Plain → SlotId → PlainSeat
with_owned p s = record (seat_at p 0) { owned = (seat_at p 0).owned ++ s ∷ []; adds = (seat_at p 0).adds + 1 }

abbrev with_weaks : Plain → SlotId → PlainSeat
with_weaks p s = record (seat_at p 0) { weaks = (seat_at p 0).weaks ++ s ∷ []; adds = (seat_at p 0).adds + 1 }

pub gains_more : (p q : Plain) (s t : SlotId) → Gains p s t q → HasMore p (Strong t) q
gains_more p q s t (same, (here, (held, cases))) = subst (λ (x : SlotId). HasMore p (Strong x) q) (sym same) (⊎_elim
    (λ x. (owned_more p q (with_owned p s) s (same_sizes p q (with_owned p s) x.2) (written p q (with_owned p s) here.0 x.2) refl refl refl).0)
    (λ x. absurd (omega (arith, x.0)))
    cases)

pub weakly_gains_more : (p q : Plain) (s t : SlotId) → WeaklyGains p s t q → HasMore p (Weak t) q
weakly_gains_more p q s t (same, (here, (held, z, e))) =
    subst (λ (x : SlotId). HasMore p (Weak x) q) (sym same) (weaks_more p q (with_weaks p s) s (same_sizes p q (with_weaks p s) e) (written p q (with_weaks p s) here.0 e) refl refl refl)

pub loads_more : (p q : Plain) (place : EventPlace) (s : SlotId) → Loads p place (Some s) q → HasMore p (Strong s) q × HasMore p (Snapshot (s, true)) q
loads_more p q place s (holds, e, (m, found, d, more)) = owned_more p q (with_owned p s) s (same_sizes p q (with_owned p s) e) (written p q (with_owned p s) d.0.0 e) refl refl refl

pub weakly_loads_more : (p q : Plain) (place : EventPlace) (s : SlotId) → WeaklyLoads p place (Some s) q → HasMore p (Weak s) q
weakly_loads_more p q place s (holds, e, (m, found, d, more)) = weaks_more p q (with_weaks p s) s (same_sizes p q (with_weaks p s) e) (written p q (with_weaks p s) d.0.0 e) refl refl refl

pub takes_more : (p q : Plain) (place : EventPlace) (s : SlotId) (counted : Bool) → place_kind place ≡ kind.Strong
    → Takes p place (Some (s, counted)) q → HasMore p (Snapshot (s, counted)) q
takes_more p q place s true strong (full, l) = (loads_more p q place s l).1
takes_more p q place s false strong (room, t) = of t.under
  where
    of : IsUnderMore p place s q → HasMore p (Snapshot (s, false)) q
    of (es, more, is) =
        let w : PlainSeat = record (seat_at p 0) { snapshots = es } in
        let gained = subst (λ (k : Kind). Loses es (k, s) (seat_at p 0).snapshots) strong more in
        let pushed = λ (k : Kind) (t : SlotId). entry_loses k t (kind.Strong, s) es (seat_at p 0).snapshots gained in
        has_more p q w (same_sizes p q w is) (written p q w t.checks.0.0 is) (Snapshot (s, false))
        (λ x. omega arith) (λ x. omega arith) (λ x. sym (pushed kind.Strong x))
        (λ x. let a = pushed kind.Weak x in let b = pushed kind.Disposal x in omega arith)

more_after : (p m q : Plain) (h : Handle) → HasSame p m → HasMore m h q → HasMore p h q
more_after p m q h a b = record {
  sizes = record { slots = b.sizes.slots ∙ a.sizes.slots; cells = b.sizes.cells ∙ a.sizes.cells; weak_cells = b.sizes.weak_cells ∙ a.sizes.weak_cells };
  owned = λ s. omega (arith, a.owned s, b.owned s);
  weaks = λ s. omega (arith, a.weaks s, b.weaks s);
  snapshots = λ s. omega (arith, a.snapshots s, b.snapshots s);
  weak_snapshots = λ s. b.weak_snapshots s ∙ a.weak_snapshots s;
}

more_before : (p m q : Plain) (h : Handle) → HasMore p h m → HasSame m q → HasMore p h q
more_before p m q h a b = record {
  sizes = record { slots = b.sizes.slots ∙ a.sizes.slots; cells = b.sizes.cells ∙ a.sizes.cells; weak_cells = b.sizes.weak_cells ∙ a.sizes.weak_cells };
  owned = λ s. omega (arith, a.owned s, b.owned s);
  weaks = λ s. omega (arith, a.weaks s, b.weaks s);
  snapshots = λ s. omega (arith, a.snapshots s, b.snapshots s);
  weak_snapshots = λ s. b.weak_snapshots s ∙ a.weak_snapshots s;
}

-- a make: a claim, fills, and then the reference
make_more : (m x : Plain) (s : SlotId) (found : ℕ) → Does m 0 (act.Make s) found x → HasMore m (Strong s) x
make_more m x s found (here, (blank, filling, z, e)) =
    let w : PlainSeat = record (seat_at m 0) { owned = (seat_at m 0).owned ++ s ∷ []; filling = None; adds = (seat_at m 0).adds + 1 } in
    let owned = owned_more m (with_seat m 0 w) w s (same_sizes m (with_seat m 0 w) w refl) (seat_written m w here.0) refl refl refl in
    more_before m (with_seat m 0 w) x (Strong s) owned.0 (slot_alone (with_seat m 0 w) x s _ e)

fills_more : (m q : Plain) (s : SlotId) (i : ℕ) (words : List ℕ) → Runs m 0 (fills s i words ++ act.Make s ∷ []) q → HasMore m (Strong s) q
fills_more m q s i [] (x, found, d, e) = subst (λ (r : Plain). HasMore m (Strong s) r) (sym e) (make_more m x s found d)
fills_more m q s i (word ∷ words) (x, found, (here, (blank, filling, few, z, e)), r) =
    more_after m x q (Strong s) (slot_alone m x s _ e) (fills_more x q s (i + 1) words r)

pub makes_more : (p q : Plain) (s : SlotId) (words : List ℕ) → Makes p s words q → HasMore p (Strong s) q
makes_more p q s words (x, found, (here, (there, free, empty, z, e)), r) =
    more_after p x q (Strong s)
    (slot_written p x (record (seat_at p 0) { filling = Some s }) s _ here.0 e refl refl refl)
    (fills_more x q s 0 words r)

-- ---- the end of a handle

pub gives_fewer : (p q : Plain) (h : Handle) → Does p 0 (giving h) 0 q → HasMore q h p
gives_fewer p q (Strong s) (here, (xs, l, z, e)) =
    let w : PlainSeat = record (seat_at p 0) { owned = xs } in (owned_fewer p q w s (same_sizes p q w e) (written p q w here.0 e) l refl refl).0
gives_fewer p q (Weak s) (here, (xs, l, z, e)) =
    let w : PlainSeat = record (seat_at p 0) { weaks = xs } in weaks_fewer p q w s (same_sizes p q w e) (written p q w here.0 e) refl l refl
gives_fewer p q (Snapshot (s, true)) (here, (xs, l, z, e)) =
    let w : PlainSeat = record (seat_at p 0) { owned = xs } in (owned_fewer p q w s (same_sizes p q w e) (written p q w here.0 e) l refl refl).1
gives_fewer p q (Snapshot (s, false)) (here, (es, l, z, e)) =
    let w : PlainSeat = record (seat_at p 0) { snapshots = es } in
    has_fewer p q w (same_sizes p q w e) (written p q w here.0 e) (Snapshot (s, false)) (λ t. omega arith) (λ t. omega arith)
    (λ t. entry_loses kind.Strong t (kind.Strong, s) (seat_at p 0).snapshots es l)
    (λ t.
    let a = entry_loses kind.Weak t (kind.Strong, s) (seat_at p 0).snapshots es l in
    let b = entry_loses kind.Disposal t (kind.Strong, s) (seat_at p 0).snapshots es l in omega arith)

-- ---- what is put into a place

-- the handle of a reference of this kind; there is none of kind Disposal
abbrev pub handle_of : Kind → SlotId → Handle
handle_of kind.Strong s = Strong s
handle_of kind.Weak s = Weak s
handle_of kind.Disposal s = Weak s

given_fewer : (k : Kind) (p q : Plain) (w x : PlainSeat) (s : SlotId) → GivesUp k (Some s) (seat_at p 0) w → SameSizes p q → seat_at q 0 ≡ x
    → x.owned ≡ w.owned → x.weaks ≡ w.weaks → x.snapshots ≡ w.snapshots → HasMore q (handle_of k s) p
given_fewer kind.Strong p q w x s (xs, l, e) sizes is owned weaks snapshots =
    (owned_fewer p q x s sizes is (subst (Loses (seat_at p 0).owned s) (sym (owned ∙ ap (λ (v : PlainSeat). v.owned) e)) l)
    (weaks ∙ ap (λ (v : PlainSeat). v.weaks) e) (snapshots ∙ ap (λ (v : PlainSeat). v.snapshots) e)).0
given_fewer kind.Weak p q w x s (xs, l, e) sizes is owned weaks snapshots =
    weaks_fewer p q x s sizes is (owned ∙ ap (λ (v : PlainSeat). v.owned) e)
    (subst (Loses (seat_at p 0).weaks s) (sym (weaks ∙ ap (λ (v : PlainSeat). v.weaks) e)) l) (snapshots ∙ ap (λ (v : PlainSeat). v.snapshots) e)
given_fewer kind.Disposal p q w x s g sizes is owned weaks snapshots = absurd g

-- the seat after a replacement, whose other lists are those of w
abbrev after_put : Plain → EventPlace → PlainSeat → PlainSeat
after_put p place w = record w { deferred = joined (place_kind place) (content p place) w.deferred }

pub replaces_fewer : (p q : Plain) (place : EventPlace) (k : Kind) (s : SlotId) → place_kind place ≡ k → 0 < length p.seats → Replaces p 0 place (Some s) q
    → HasMore q (handle_of k s) p
replaces_fewer p q place k s kind there (w, g, e) =
    given_fewer k p q w (after_put p place w) s (subst (λ (j : Kind). GivesUp j (Some s) (seat_at p 0) w) kind g)
    (placed_same_sizes p q (after_put p place w) place (Some s) e) (placed p q (after_put p place w) place (Some s) there e) refl refl refl

pub replaces_same : (p q : Plain) (place : EventPlace) → 0 < length p.seats → Replaces p 0 place None q → HasSame p q
replaces_same p q place there (w, g, e) =
    let x : PlainSeat = after_put p place w in
    has_lists p q x (placed_same_sizes p q x place None e) (placed p q x place None there e)
    (ap (λ (v : PlainSeat). v.owned) g) (ap (λ (v : PlainSeat). v.weaks) g) (ap (λ (v : PlainSeat). v.snapshots) g)

-- a strong place holds strong references
pub is_strong_kind : (at : PlainPlace) → place_kind (strong_place at) ≡ kind.Strong
is_strong_kind (strong.Cell i) = refl
is_strong_kind (strong.Field s i) = refl
