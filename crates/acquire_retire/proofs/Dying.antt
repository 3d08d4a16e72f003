-- The dying list of a seat is never longer than the domain has slots.
use Rattle.std.proofs.Common.{◌≡◌, ◌≢◌, ⊎_elim, ℕ, true, get_or, zero, suc, ◌+◌, ◌<◌, ◌≤◌, List, [], ◌∷◌, ◌++◌, length, length-append, refl, ap, sym, ◌∙◌, subst, arith}
use Rattle.std.specs.Prelude.{IfSome, IsNone, None, Option, Some}
use Rattle.std.proofs.lemmas.Bool.{cases_lt}
use Rattle.atomic_table.specs.declared.shared.Seat.{Seat as TableSeat}
use Rattle.plain_state.specs.declared.act.PlainAct.{PlainAct}
use Rattle.plain_state.specs.declared.slot.Kind.TheVariants.{Weak}
use Rattle.plain_state.specs.declared.slot.SlotId.{SlotId}
use Rattle.plain_state.specs.Lists.{times}
use Rattle.plain_state.specs.State.{Plain}
use Rattle.domain_rule.specs.plain_protocol.Owns.{OwnPart}
use Rattle.core_promises.specs.core_events.declared.act.Act.{Act}
use Rattle.core_promises.specs.core_events.declared.act.Act.TheVariants as act
use Rattle.core_promises.specs.core_events.declared.shape.Shape.{Shape}
use Rattle.core_promises.specs.core_events.Views.{Terms, alone, without}
use Rattle.core_promises.specs.core_events.declared.view.Phase.TheVariants as phase
use Rattle.core_promises.specs.core_events.declared.view.CoreView.{CoreView}
use Rattle.core_promises.specs.core_events.Counts.{one, sum_below}
use Rattle.core_promises.specs.core_events.Good.{SeatLaw}
use Rattle.core_promises.specs.core_events.Runs.{AreTerms, Core, IsShape, after, view_at}
use Rattle.core_promises.specs.core_events.Steps.{ended, moved}
use Rattle.dying_slots.specs.core_functions.Phases.{phase_after}
use Rattle.core_promises.specs.core_law.Sound.{Sound}
use Rattle.core_promises.proofs.Below.core_law_Always.{history_sound, step_keeps}
use Rattle.core_promises.proofs.Below.core_law_Kit.{below_but, below_none, below_same, one_other, one_same, times_cons, times_none, times_push, total_at}
use Rattle.core_promises.proofs.Below.core_law_Parts.{sound_good}
use Rattle.dying_slots.specs.Dying.{waiting_of}
use Rattle.dying_slots.proofs.Waiting.{all_wait, destroyed_waiting, ends_waiting, few_waiting}
use Rattle.domain_rule.specs.declared.view.SeatView.{SeatView}
use Rattle.domain_rule.specs.Told.{IsOwn, Told}
use Rattle.domain_rule.proofs.Step.{view_after, views_stay}
use Rattle.acquire_retire.specs.Calls.{Stepped}
use Rattle.acquire_retire.specs.Domains.{DomainState, IsDomain, StoredDomain}
use Rattle.acquire_retire.specs.Seats.{IsSeat, Stored, stored}
use Rattle.acquire_retire.proofs.Calls.{kept as kept_of, seat_after}

-- the slot of a number
abbrev slot : ℕ → SlotId
slot i = record { 0 = i }

below_plus : (n : ℕ) (f g : ℕ → ℕ) → sum_below n (λ i. f i + g i) ≡ sum_below n f + sum_below n g
unfolding sum_below
below_plus zero f g = refl
below_plus (suc n) f g = let r = below_plus n f g in omega arith

below_most : (n : ℕ) (f : ℕ → ℕ) → ((i : ℕ) → f i ≤ 1) → sum_below n f ≤ n
unfolding sum_below
below_most zero f most = omega arith
below_most (suc n) f most = let r = below_most n f most in let l = most n in omega arith

-- a slot below n is one of the first n
one_below : (n : ℕ) (x : SlotId) → x.0 < n → sum_below n (λ i. one (slot i) x) ≡ 1
one_below n x h =
    let none = below_none n (λ i. 0) (λ i _. refl) in
    let but = below_but n x.0 (λ i. 0) (λ i. one (slot i) x) h
    (λ i _ ne. one_other (slot i) x (λ e. ne (sym e))) in
    let same = one_same (slot x.0) x refl in omega arith

-- a list of slots below n is as long as these stand in it
length_below : (n : ℕ) (xs : List SlotId) → ((s : SlotId) → n ≤ s.0 → times s xs ≡ 0)
    → length xs ≡ sum_below n (λ i. times (slot i) xs)
length_below n [] range = sym (below_none n (λ i. times (slot i) []) (λ i _. times_none (slot i)))
length_below n (x ∷ xs) range =
    let rest = length_below n xs (λ s past.
    let e = range s past in let c = times_cons s x xs in omega arith) in
    let below : x.0 < n = ⊎_elim (λ lt. lt)
    (λ past. let e = range x past in let c = times_cons x x xs in let o = one_same x x refl in
    absurd (omega arith)) (cases_lt x.0 n) in
    let split = below_same n (λ i. one (slot i) x + times (slot i) xs)
    (λ i. times (slot i) (x ∷ xs)) (λ i _. times_cons (slot i) x xs) in
    let sum = below_plus n (λ i. one (slot i) x) (λ i. times (slot i) xs) in
    let first = one_below n x below in omega arith

few_once : (n : ℕ) (xs : List SlotId) → ((s : SlotId) → n ≤ s.0 → times s xs ≡ 0)
    → ((s : SlotId) → times s xs ≤ 1) → length xs ≤ n
few_once n xs range once =
    let len = length_below n xs range in
    let most = below_most n (λ i. times (slot i) xs) (λ i. once (slot i)) in omega arith

-- each slot stands at most once in the dying list of a seat
pub once_dying_in : (z : Shape) (c : Core) (n : ℕ) → Sound z c → n < length c.views
    → (s : SlotId) → times s (view_at c n).dying ≤ 1
once_dying_in z c n so hn s = ⊎_elim
    (λ below.
    let all = ((sound_good z c so).enders s below).once in
    let mine = total_at (λ (u : CoreView). times s u.dying) c.views n hn in omega arith)
    (λ past.
    let views = so.views in
    let none = (so.seats n (omega arith)).range s past in omega arith)
    (cases_lt s.0 z.slots)

pub few_dying_in : (z : Shape) (c : Core) (n : ℕ) → Sound z c → n < length c.views
    → length (view_at c n).dying ≤ z.slots
few_dying_in z c n so hn =
    few_once z.slots (view_at c n).dying range (once_dying_in z c n so hn)
  where
    range : (s : SlotId) → z.slots ≤ s.0 → times s (view_at c n).dying ≡ 0
    range s past =
        let views = so.views in
        let none = (so.seats n (omega arith)).range s past in omega arith

pub few_ripe_in : (z : Shape) (c : Core) (n : ℕ) → Sound z c → n < length c.views
    → length (view_at c n).ripe ≤ z.slots
few_ripe_in z c n so hn = few_once z.slots (view_at c n).ripe range once
  where
    law : SeatLaw z n (view_at c n)
    law = let views = so.views in so.seats n (omega arith)

    range : (s : SlotId) → z.slots ≤ s.0 → times s (view_at c n).ripe ≡ 0
    range s past = let none = law.range s past in omega arith

    once : (s : SlotId) → times s (view_at c n).ripe ≤ 1
    once s =
        let dying = once_dying_in z c n so hn s in
        let few = law.ripe s in omega arith

own_single : {V : Type 0} (a : Act) (v : SeatView V) → IsOwn a v → (j : ℕ) → a ≡ act.Leave j → ⊥
own_single a v own j is = subst (λ (b : Act). IsOwn b v) is own

-- so is that of a seat after its step
pub few_dying : {V : Type 0} {fits : List ℕ → Type 0} (z : Shape) (ts : Terms)
    (next_view : OwnPart → OwnPart → V → PlainAct → ℕ → V) (allows : Plain → Plain → ℕ → V → V → Type 0)
    (a : Act) (v : SeatView V) (w : ℕ) (v' : SeatView V) → IsShape z → AreTerms z ts → IsOwn a v
    → Told fits z ts next_view allows a v w v'
    → (length v'.core.dying ≤ z.slots) × (length v'.core.ripe ≤ z.slots)
    × ((s : SlotId) → times s v.core.dying ≤ 1) × ((s : SlotId) → times s v'.core.dying ≤ 1)
few_dying z ts next_view allows a v w v' shape quotas own told =
    let h = told.happened in
    let so = history_sound z ts h.events h.before shape quotas h.history in
    let n = v.core.seat in
    let on = h.enabled in
    let so' = step_keeps z h.before n a so on in
    let stay = views_stay z h.before so n a on (own_single a v own) in
    let there = on.0 in
    let few = few_dying_in z (after z h.before n a) n so' (omega arith) in
    let few_ripe = few_ripe_in z (after z h.before n a) n so' (omega arith) in
    let moved_is : v'.core ≡ view_at (after z h.before n a) n =
    told.core ∙ ((λ i. moved z a (h.found i) (h.view i))
    ∙ sym (view_after z h.before so n a on (own_single a v own))) in
    let same = ap (λ (u : CoreView). length u.dying) moved_is in
    let same_ripe = ap (λ (u : CoreView). length u.ripe) moved_is in (
      omega arith,
      omega arith,
      λ s. let one = once_dying_in z h.before n so (omega arith) s in
          let same_times = ap (λ (u : CoreView). times s u.dying) h.view in omega arith,
      λ s. let one = once_dying_in z (after z h.before n a) n so' (omega arith) s in
          let same_times = ap (λ (u : CoreView). times s u.dying) moved_is in omega arith,
    )

-- what a seat stores that has ended an object
abbrev pub ends : SlotId → Stored → Stored
ends x s = record s { phase = phase.Idle; waiting = s.waiting ++ x ∷ [] }

ended_kept : (v : CoreView) (x : SlotId) (o : Option SlotId) → times x v.ripe ≡ 0 → o ≡ Some x
    → kept_of (ended true o phase.Idle v) ≡ (ends x (stored v), v.room)
ended_kept v x o none is =
    let waits = ap (λ q. waiting_of v.ripe (v.dying ++ alone q)) is
    ∙ ends_waiting v.ripe v.dying x none in
    λ i. (record (stored v) { phase = phase.Idle; waiting = waits i }, v.room)

module _ {P V : Type 0} {fits : List ℕ → Type 0} (d e : DomainState P) (same : e ≡ d)
    (kept : StoredDomain) (in_domain : IsDomain e.table e.shape e.terms kept)
    (next_view : OwnPart → OwnPart → V → PlainAct → ℕ → V)
    (allows : Plain → Plain → ℕ → V → V → Type 0) (a : Act)
    (old new : TableSeat (Unit {0}) (SeatView V)) (w : ℕ)
    (step : Stepped fits d next_view allows a old w new) (own : IsOwn a old.me.0) where
  few_by_step : (length new.me.0.core.dying ≤ d.shape.slots) × (length new.me.0.core.ripe ≤ d.shape.slots)
      × ((s : SlotId) → times s old.me.0.core.dying ≤ 1)
      × ((s : SlotId) → times s new.me.0.core.dying ≤ 1)
  few_by_step =
      let ranges = subst (λ (f : DomainState _). IsShape f.shape × AreTerms f.shape f.terms) same
      (in_domain.shape, in_domain.terms) in
      few_dying d.shape d.terms next_view allows a old.me.0 w new.me.0 ranges.0 ranges.1 own
      step.told

  -- before a step each slot stands at most once in the dying list
  pub once_dying : (s : SlotId) → times s old.me.0.core.dying ≤ 1
  once_dying = few_by_step.2

  -- a slot that a step ends isn't ripe
  pub ends_unripe : SeatLaw old.me.0.core.shape old.me.0.core.seat old.me.0.core → (x : SlotId)
      → (moved d.shape a w old.me.0.core).dying ≡ old.me.0.core.dying ++ x ∷ []
      → times x old.me.0.core.ripe ≡ 0
  ends_unripe law x longer =
      let one = few_by_step.3 x in
      let now = ap (λ (u : CoreView). times x u.dying) step.told.core ∙ ap (times x) longer in
      let more = times_push x x old.me.0.core.dying in
      let self = one_same x x refl in
      let few = law.ripe x in omega arith

  -- a step that ends an object lets its slot wait
  pub seat_ended : (s : Stored) (batch_room seen_room dying_room : ℕ)
      → IsSeat old.me s batch_room seen_room dying_room → old.me.0.core.shape ≡ d.shape
      → (x : SlotId) (o : Option SlotId)
      → kept_of (moved d.shape a w old.me.0.core) ≡ kept_of (ended true o phase.Idle old.me.0.core)
      → (moved d.shape a w old.me.0.core).dying ≡ old.me.0.core.dying ++ x ∷ [] → o ≡ Some x
      → IsSeat new.me (ends x s) batch_room seen_room dying_room
  seat_ended s batch_room seen_room dying_room seat shape x o after_is longer is =
      seat_after d next_view allows a old new w step (ends x) s batch_room seen_room dying_room shape
      seat.stores seat.rooms
      (after_is ∙ ended_kept old.me.0.core x o (ends_unripe seat.seated.law x longer) is)

  -- a step that destroys a ripe slot leaves those that wait
  pub seat_destroyed : (s : Stored) (batch_room seen_room dying_room : ℕ)
      → IsSeat old.me s batch_room seen_room dying_room → old.me.0.core.shape ≡ d.shape
      → (x : SlotId) → a ≡ act.Destroy x → 0 < times x old.me.0.core.ripe
      → IsSeat new.me (record s { phase = phase_after Weak x w; ripe = without x s.ripe })
      batch_room seen_room dying_room
  seat_destroyed s batch_room seen_room dying_room seat shape x is ripe =
      let v = old.me.0.core in
      let waits = destroyed_waiting x v.ripe v.dying ripe (once_dying x) in
      seat_after d next_view allows a old new w step
      (λ t. record t { phase = phase_after Weak x w; ripe = without x t.ripe }) s batch_room
      seen_room dying_room shape seat.stores seat.rooms
      (ap (λ b. kept_of (moved d.shape b w v)) is
      ∙ (λ i. (
        record (stored v) {
          phase = phase_after Weak x w;
          waiting = waits i;
          ripe = without x v.ripe;
        },
        v.room,
      )))

-- before a step that made it longer there was room for one more
pub room_to_end : {P V : Type 0} {fits : List ℕ → Type 0} (d e : DomainState P) → e ≡ d → (kept : StoredDomain)
    → IsDomain e.table e.shape e.terms kept
    → (next_view : OwnPart → OwnPart → V → PlainAct → ℕ → V) (allows : Plain → Plain → ℕ → V → V → Type 0)
    (a : Act) (old new : TableSeat (Unit {0}) (SeatView V)) (w : ℕ)
    → Stepped fits d next_view allows a old w new → IsOwn a old.me.0 → old.me.0.core.shape ≡ d.shape
    → (s : Stored) (batch_room seen_room dying_room : ℕ)
    → IsSeat old.me s batch_room seen_room dying_room
    → (x : SlotId) → (moved d.shape a w old.me.0.core).dying ≡ old.me.0.core.dying ++ x ∷ []
    → length s.waiting < dying_room
room_to_end d e same kept in_domain next_view allows a old new w step own shape s batch_room
    seen_room dying_room seat x longer =
    let ranges = subst (λ (f : DomainState _). IsShape f.shape × AreTerms f.shape f.terms) same
    (in_domain.shape, in_domain.terms) in
    let few = (few_dying d.shape d.terms next_view allows a old.me.0 w new.me.0 ranges.0 ranges.1
    own step.told).0 in
    let after = ap (λ (u : CoreView). length u.dying) step.told.core ∙ ap length longer in
    let more = length-append old.me.0.core.dying (x ∷ []) in
    let had = ap (λ (t : Stored). length t.waiting) seat.stores in
    let wait = few_waiting old.me.0.core.ripe old.me.0.core.dying in
    let room = seat.rooms.dying in
    let slots = ap (λ (z : Shape). z.slots) shape in omega arith

-- and there is room for the slots that are ripe after a step
pub room_for_ripe : {P V : Type 0} {fits : List ℕ → Type 0} (d e : DomainState P) → e ≡ d
    → (kept : StoredDomain) → IsDomain e.table e.shape e.terms kept
    → (next_view : OwnPart → OwnPart → V → PlainAct → ℕ → V)
    (allows : Plain → Plain → ℕ → V → V → Type 0) (a : Act)
    (old new : TableSeat (Unit {0}) (SeatView V)) (w : ℕ)
    → Stepped fits d next_view allows a old w new → IsOwn a old.me.0
    → old.me.0.core.shape ≡ d.shape → (s : Stored) (batch_room seen_room dying_room : ℕ)
    → IsSeat old.me s batch_room seen_room dying_room
    → (ripe : List SlotId) → (moved d.shape a w old.me.0.core).ripe ≡ ripe
    → length ripe ≤ dying_room
room_for_ripe d e same kept in_domain next_view allows a old new w step own shape s batch_room
    seen_room dying_room seat ripe is =
    let ranges = subst (λ (f : DomainState _). IsShape f.shape × AreTerms f.shape f.terms) same
    (in_domain.shape, in_domain.terms) in
    let few = (few_dying d.shape d.terms next_view allows a old.me.0 w new.me.0 ranges.0 ranges.1
    own step.told).1 in
    let after = ap (λ (u : CoreView). length u.ripe) step.told.core ∙ ap length is in
    let room = seat.rooms.dying in
    let slots = ap (λ (z : Shape). z.slots) shape in omega arith

-- the first of a list stands in it
first_stands : (x : SlotId) (xs : List SlotId) → xs ≢ [] → x ≡ get_or xs 0 x → 0 < times x xs
first_stands x [] some first = absurd (some refl)
first_stands x (y ∷ ys) some first =
    let self = one_same x y (sym (ap (λ (s : SlotId). s.0) first)) in
    let all = times_cons x y ys in omega arith

-- one that stands somewhere leaves no empty list
pub stands_in : (x : SlotId) (xs : List SlotId) → 0 < times x xs → xs ≡ [] → ⊥
stands_in x xs some none = let z = times_none x in let t = ap (times x) none in absurd (omega arith)

-- where nothing is ripe all dying slots wait
module _ (v : CoreView) (s : Stored) (stores : s ≡ stored v) (law : SeatLaw v.shape v.seat v) where
  pub ripe_dying : (x : SlotId) → s.ripe ≢ [] → x ≡ get_or s.ripe 0 x → 0 < times x v.dying
  ripe_dying x some first =
      let stands = first_stands x s.ripe some first in
      let same = ap (λ (t : Stored). times x t.ripe) stores in
      let few = law.ripe x in omega arith

  pub all_waiting : s.ripe ≡ [] → s.waiting ≡ v.dying
  all_waiting none = ap (λ (t : Stored). t.waiting) stores
      ∙ (ap (λ xs. waiting_of xs v.dying) (sym (ap (λ (t : Stored). t.ripe) stores) ∙ none)
      ∙ all_wait v.dying)

-- what a list answers as its first stands in it
pub first_found : (o : Option SlotId) (xs : List SlotId) → (xs ≡ [] → IsNone o)
    → IfSome o (λ x. x ≡ get_or xs 0 x) → IfSome o (λ x. 0 < times x xs)
first_found None xs none first = tt
first_found (Some x) xs none first = first_stands x xs (λ e. absurd (cc (none e))) first
