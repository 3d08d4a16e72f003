-- A state of which seat 0 alone has anything is a heap with that seat alone: with its references, its deferred entries,
-- and the adds of all. Where the heap has that seat under a snapshot of each entry, nothing more may go, so the audit of
-- plain heaps is one of the state too.
use Rattle.std.proofs.Common.{◌≡◌, ◌≢◌, ⊎_elim, inl, inr, ℕ, zero, suc, ◌+◌, ◌^◌, ◌<◌, ◌≤◌, false, List, [], ◌∷◌, length, get_or, map, refl, ap, sym, ◌∙◌, subst, arith}
use Rattle.std.specs.Prelude.{None, Result, IfOk, Ok, Err}
use Rattle.std.proofs.lemmas.List.Sums.{sum_by-cons}
use Rattle.plain_audit.specs.plain_state.Limits.{most_slots}
use Rattle.plain_audit.specs.plain_state.declared.image.Heap.{Heap}
use Rattle.plain_audit.specs.plain_state.declared.slot.Kind.{Kind}
use Rattle.plain_audit.specs.plain_state.declared.slot.Kind.TheVariants.{Strong, Weak, Disposal}
use Rattle.plain_audit.specs.plain_state.declared.slot.SlotId.{SlotId}
use Rattle.plain_audit.specs.plain_state.declared.slot.Stage.TheVariants.{Live, Ended, Husk}
use Rattle.plain_audit.specs.plain_state.Fits.{AllFit}
use Rattle.plain_audit.specs.plain_state.Images.{IsImage, image_of}
use Rattle.plain_audit.specs.plain_state.Lawful.{Covers, Lawful}
use Rattle.plain_audit.specs.plain_state.Lists.{entry_times, times}
use Rattle.plain_audit.specs.plain_state.References.{deferrals, dying_times, over_seats, snapshot_times, strong_refs, weak_refs}
use Rattle.plain_audit.specs.plain_state.Sound.{Sound, all_adds}
use Rattle.plain_audit.specs.plain_state.State.{Plain, PlainSeat, new_seat, seat_at, slot_at, stage_at}
use Rattle.plain_audit.proofs.Below.plain_state_Kit.{entry_none, times_none}
use Rattle.plain_audit.specs.plain_store.Heaps.{IsHeap}
use Rattle.plain_audit.specs.plain_store.Settling.{IsSettled}
use Rattle.plain_audit.specs.heap_audit.declared.finding.Audit.{Audit}
use Rattle.plain_audit.specs.heap_audit.Heaps.{slot}
use Rattle.plain_audit.proofs.Below.heap_audit_Alike.{found_alike, many_alike}
use Rattle.plain_audit.specs.Audits.{IsAudit}
use Rattle.plain_audit.specs.Reached.{HasField, IsReached, IsRoot, IsUnreached}
use Rattle.plain_audit.proofs.ImageLaws.{image_fits, image_in_range, image_lawful}
use Rattle.protected_loads.specs.acquire_retire.Taken.{HasWords}
use Rattle.domain_audit.specs.Lone.{CanBeAudited}

-- the seat has no reference, and nothing to give up or to destroy
pub record HasNothing (v : PlainSeat) : Type 0 where
  pub owned : v.owned ≡ []
  pub weaks : v.weaks ≡ []
  pub deferred : v.deferred ≡ []

-- seat 0 alone has anything, nothing is dying, and each object has a reference, and each husk a weak one
pub record IsLoneState (fits : List ℕ → Type 0) (p : Plain) : Type 0 where
  pub sound : Sound p
  pub there : 0 < length p.seats
  pub others : (n : ℕ) → 0 < n → n < length p.seats → HasNothing (seat_at p n)
  pub none_dying : (s : SlotId) → dying_times p s ≡ 0
  pub slots : length p.slots ≤ most_slots
  pub adds : all_adds p + 1 < 2 ^ 63
  pub payloads : AllFit fits p
  pub kinds : (s : SlotId) → entry_times Disposal s (seat_at p 0).deferred ≡ 0
  pub ended : (s : SlotId) → stage_at p s ≡ Live → 0 < strong_refs p s
  pub given : (s : SlotId) → stage_at p s ≡ Husk → 0 < weak_refs p s

-- a number of which no seat has any
over_none : (f : PlainSeat → ℕ) (vs : List PlainSeat)
    → ((n : ℕ) → n < length vs → f (get_or vs n new_seat) ≡ 0) → over_seats f vs ≡ 0
unfolding over_seats
over_none f [] none = refl
over_none f (v ∷ vs) none =
    let first : f v ≡ 0 = none zero (omega arith) in
    let rest = over_none f vs (λ n h. none (suc n) (omega arith)) in
    omega (arith, sum_by-cons f v vs, first, rest)

-- a number of which seat 0 alone has any
pub over_first : (f : PlainSeat → ℕ) (vs : List PlainSeat) → 0 < length vs
    → ((n : ℕ) → 0 < n → n < length vs → f (get_or vs n new_seat) ≡ 0)
    → over_seats f vs ≡ f (get_or vs 0 new_seat)
unfolding over_seats
over_first f [] some none = absurd (omega arith)
over_first f (v ∷ vs) some none =
    let rest : over_seats f vs ≡ 0 =
    over_none f vs (λ n h. none (suc n) (omega arith) (omega arith)) in
    omega (arith, sum_by-cons f v vs, rest)

over_one : (f : PlainSeat → ℕ) (v : PlainSeat) → over_seats f (v ∷ []) ≡ f v
over_one f v = over_first f (v ∷ []) (omega arith) (λ n some h. absurd (omega arith))

abbrev pub lone_seat : Plain → PlainSeat
lone_seat p = record {
  owned = (seat_at p 0).owned;
  weaks = (seat_at p 0).weaks;
  snapshots = (seat_at p 0).deferred;
  deferred = (seat_at p 0).deferred;
  dying = [];
  filling = None;
  adds = all_adds p;
  left = false;
}

abbrev pub with_one_seat : Plain → Plain
with_one_seat p = record p { seats = lone_seat p ∷ []; tickets = 0 }

module _ (fits : List ℕ → Type 0) (p : Plain) (lone : IsLoneState fits p) where
  abbrev heap : Plain
  heap = with_one_seat p

  -- what all seats have of a number that a seat with nothing has none of
  all_seats : (f g : PlainSeat → ℕ) → f (lone_seat p) ≡ g (seat_at p 0)
      → ((v : PlainSeat) → HasNothing v → g v ≡ 0) → over_seats f heap.seats ≡ over_seats g p.seats
  all_seats f g first none =
      over_one f (lone_seat p)
      ∙ (first
      ∙ sym (over_first g p.seats lone.there (λ n some h. none (seat_at p n) (lone.others n some h))))

  owned_same : (s : SlotId) → over_seats (λ v. times s v.owned) heap.seats
      ≡ over_seats (λ v. times s v.owned) p.seats
  owned_same s = all_seats (λ v. times s v.owned) (λ v. times s v.owned) refl
      (λ v nothing. ap (times s) nothing.owned ∙ times_none s)

  weaks_same : (s : SlotId) → over_seats (λ v. times s v.weaks) heap.seats
      ≡ over_seats (λ v. times s v.weaks) p.seats
  weaks_same s = all_seats (λ v. times s v.weaks) (λ v. times s v.weaks) refl
      (λ v nothing. ap (times s) nothing.weaks ∙ times_none s)

  deferrals_same : (k : Kind) (s : SlotId) → deferrals k heap s ≡ deferrals k p s
  deferrals_same k s = all_seats (λ v. entry_times k s v.deferred) (λ v. entry_times k s v.deferred)
      refl (λ v nothing. ap (entry_times k s) nothing.deferred ∙ entry_none k s)

  strong_same : (s : SlotId) → strong_refs heap s ≡ strong_refs p s
  strong_same s = omega (arith, owned_same s, deferrals_same Strong s)

  weak_same : (s : SlotId) → weak_refs heap s ≡ weak_refs p s
  weak_same s = omega (arith, weaks_same s, deferrals_same Weak s)

  adds_same : all_adds heap ≡ all_adds p
  adds_same = over_one (λ v. v.adds) (lone_seat p)

  none_dying : (s : SlotId) → dying_times heap s ≡ 0
  none_dying s = over_one (λ v. times s v.dying) (lone_seat p) ∙ times_none s

  -- each snapshot of the heap is one of an entry
  snapshots_same : (k : Kind) (s : SlotId) → snapshot_times k heap s ≡ deferrals k heap s
  snapshots_same k s =
      over_one (λ v. entry_times k s v.snapshots) (lone_seat p)
      ∙ sym (over_one (λ v. entry_times k s v.deferred) (lone_seat p))

  covered : (k : Kind) (s : SlotId) → 0 < snapshot_times k heap s → Covers k heap s
  covered Strong s some = omega (arith, some, snapshots_same Strong s)
  covered Weak s some = omega (arith, some, snapshots_same Weak s)
  covered Disposal s some =
      absurd (omega (
        arith,
        some,
        over_one (λ v. entry_times Disposal s v.snapshots) (lone_seat p),
        lone.kinds s,
      ))

  lawful : Lawful heap
  lawful =
      let law = lone.sound.lawful in record {
        covered = covered;
        strong = λ s some. law.strong s (omega (arith, some, strong_same s));
        weak = λ s some. law.weak s (omega (arith, some, weak_same s));
        once = λ s. omega (arith, none_dying s);
        dying = λ s. (
          (λ ended. let some = (law.dying s).0 ended in
              absurd (omega (arith, some, lone.none_dying s))),
          (λ some. absurd (omega (arith, some, none_dying s))),
        );
        marks = law.marks;
        nulls = law.nulls;
      }

  pub is_heap : IsHeap fits heap
  is_heap = record {
    sound = record {
      lawful = lawful;
      strong_few = λ s. omega (arith, lone.sound.strong_few s, strong_same s, adds_same);
      weak_few = λ s. omega (arith, lone.sound.weak_few s, weak_same s, adds_same);
      payloads = lone.sound.payloads;
    };
    seats = refl;
    slots = lone.slots;
    adds = omega (arith, lone.adds, adds_same);
    payloads = lone.payloads;
    tickets = refl;
    filling = refl;
    disposals = record { snapshots = lone.kinds; deferred = lone.kinds };
  }

  pub is_settled : IsSettled heap
  is_settled = record {
    ejected = λ k s. omega arith;
    destroyed = refl;
    ended = λ s live. omega (arith, lone.ended s live, strong_same s);
    given = λ s husk. omega (arith, lone.given s husk, weak_same s);
  }

  -- the words of some slots of the state are those of the heap
  pub has_words : (taken : List SlotId) (words : Heap) → HasWords p taken words
      → HasWords heap taken words
  has_words taken words has = record {
    slots =
        has.slots
        ∙ (λ i. map (λ s. image_of (slot_at p s) (sym (strong_same s) i) (sym (weak_same s) i))
        taken);
    cells = has.cells;
    weak_cells = has.weak_cells;
    deferred = has.deferred;
  }

  module _ (image : Heap) (is : IsImage p image) where
    -- the image of the state is that of the heap
    pub is_image : IsImage heap image
    is_image = record {
      size = is.size;
      slots = λ s h.
          is.slots s h
          ∙ (λ i. image_of (slot_at p s) (sym (strong_same s) i) (sym (weak_same s) i));
      cells = is.cells;
      weak_cells = is.weak_cells;
      deferred = is.deferred;
    }

    pub can_be_audited : CanBeAudited fits image
    can_be_audited = record {
      range = image_in_range heap image is_image fits is_heap;
      lawful = image_lawful heap image is_image fits is_heap is_settled;
      fit = image_fits heap image is_image fits is_heap;
    }

  -- the roots of the heap are those of the state
  root_to : (s : SlotId) → IsRoot heap s → IsRoot p s
  root_to s root = omega (arith, root, owned_same s, deferrals_same Strong s)

  root_from : (s : SlotId) → IsRoot p s → IsRoot heap s
  root_from s root = omega (arith, root, owned_same s, deferrals_same Strong s)

  reached_to : (s : SlotId) → IsReached heap s → IsReached p s
  reached_to s r = (r.0, root_to r.0 r.1, r.2)

  reached_from : (s : SlotId) → IsReached p s → IsReached heap s
  reached_from s r = (r.0, root_from r.0 r.1, r.2)

  unreached_to : (s : SlotId) → IsUnreached heap s → IsUnreached p s
  unreached_to s u = (u.0, λ r. u.1 (reached_from s r))

  unreached_from : (s : SlotId) → IsUnreached p s → IsUnreached heap s
  unreached_from s u = (u.0, λ r. u.1 (reached_to s r))

  -- so an audit of the heap is one of the state
  pub audit_same : (weight : List ℕ → ℕ) (ranks : List ℕ) (found : Audit)
      → IsAudit weight ranks heap found → IsAudit weight ranks p found
  audit_same weight ranks found a = record {
    live = a.live;
    deferred =
        a.deferred
        ∙ all_seats (λ v. length v.deferred) (λ v. length v.deferred) refl
        (λ v nothing. ap length nothing.deferred);
    bytes = a.bytes;
    cyclic = many_alike (λ n. IsUnreached heap (slot n)) (λ n. IsUnreached p (slot n))
        (λ k. unreached_to (slot k)) (λ k. unreached_from (slot k)) (length p.slots) found.cyclic
        a.cyclic;
    none = a.none;
    walk = λ some. found_alike (IsUnreached heap) (IsUnreached p) (HasField heap) (HasField p) ranks
        unreached_to unreached_from (λ a b field. field) (λ a b field. field) found.walk.items
        (a.walk some);
    round = a.round;
  }
