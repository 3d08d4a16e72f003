-- What a core shows that one seat alone is in: a state of which that seat alone has anything. So its image can be
-- audited.
use Rattle.std.proofs.Common.{◌≡◌, ◌≢◌, ⊎_elim, ℕ, ◌+◌, ◌^◌, ◌<◌, ◌≤◌, true, List, [], ◌++◌, length, get_or, All, refl, ap, sym, ◌∙◌, subst, arith}
use Rattle.std.proofs.lemmas.Bool.{cases_eq, cases_lt}
use Rattle.std.proofs.lemmas.List.{length-map}
use Rattle.std.proofs.lemmas.List.Elements.{All-from_get_or}
use Rattle.plain_audit.specs.plain_state.declared.image.Heap.{Heap}
use Rattle.plain_audit.specs.plain_state.declared.slot.Kind.TheVariants.{Strong, Weak, Disposal}
use Rattle.plain_audit.specs.plain_state.declared.slot.PlainSlot.{PlainSlot}
use Rattle.plain_audit.specs.plain_state.declared.slot.SlotId.{SlotId}
use Rattle.plain_audit.specs.plain_state.declared.slot.Stage.TheVariants.{Free, Blank, Live, Ended, Husk}
use Rattle.plain_audit.specs.plain_state.Fits.{AllFit}
use Rattle.plain_audit.specs.plain_state.Images.{IsImage}
use Rattle.plain_audit.specs.plain_state.Lists.{Entry, entry_times, times}
use Rattle.plain_audit.specs.plain_state.References.{own_reference, strong_refs, weak_refs}
use Rattle.plain_audit.specs.plain_state.Sound.{all_adds}
use Rattle.plain_audit.specs.plain_state.Sound as plain
use Rattle.plain_audit.specs.plain_state.State.{PlainSeat, new_seat, new_slot, seat_at, stage_at}
use Rattle.protected_loads.specs.core_events.declared.shape.Shape.{Shape}
use Rattle.protected_loads.specs.core_events.declared.view.CoreView.{CoreView}
use Rattle.protected_loads.specs.core_events.Counts.{adds_used, dying_times, finishers, finishing, givers, giving, helpers, helping, refs, stage, total}
use Rattle.protected_loads.specs.core_events.Good.{SeatLaw}
use Rattle.protected_loads.specs.core_events.Runs.{Core, view_at}
use Rattle.protected_loads.specs.core_events.Shows.{show_seat, show_slot, shows}
use Rattle.protected_loads.specs.core_events.Words.{each_from, payload_at}
use Rattle.protected_loads.specs.core_law.Slots.{Numbers, SlotLaw, asked, bare, blank, counted, free, husk, numbers, over}
use Rattle.protected_loads.specs.core_law.Sound.{Sound}
use Rattle.protected_loads.proofs.Below.core_law_Each.{get_each, length_each}
use Rattle.protected_loads.proofs.Below.core_law_Kit.{entry_append, times_none}
use Rattle.protected_loads.proofs.Below.core_law_Parts.{stage_in, stage_is}
use Rattle.protected_loads.proofs.Below.core_law_Put.{adds_fit}
use Rattle.protected_loads.proofs.Below.core_law_Bridge.{refs_past, shown_dying, shown_past, shown_seat, shown_stage, shown_strong, shown_weak, total_zero}
use Rattle.protected_loads.proofs.Below.core_law_Lawful.{shows_lawful}
use Rattle.protected_loads.proofs.Below.core_law_Lists.{seats_sum}
use Rattle.domain_audit.specs.Lone.{CanBeAudited, IsLone}
use Rattle.domain_audit.proofs.OneSeat.{HasNothing, IsLoneState, can_be_audited}

-- an object that nobody is to end has a strong reference, and a slot that nobody is to give back and that has no object
-- a weak one
live_counted : (a : ℕ) (m : Numbers) (law : SlotLaw a m) → stage_in law ≡ Live → m.finishing ≡ 0
    → m.helping ≡ 0 → 0 < m.strong_refs
live_counted a m (free h) live finish help = absurd (cc live)
live_counted a m (bare h) live finish help = absurd (cc live)
live_counted a m (blank h) live finish help = absurd (cc live)
live_counted a m (counted h) live finish help = ⊎_elim
    (λ (none : m.strong ≡ 0). let some = h.ends none in absurd (omega arith))
    (λ (some : m.strong ≢ 0). let count = h.count in omega arith)
    (cases_eq m.strong 0)
live_counted a m (asked h) live finish help = let some = h.helps in absurd (omega arith)
live_counted a m (over h) live finish help = absurd (cc live)
live_counted a m (husk h) live finish help = absurd (cc live)

husk_counted : (a : ℕ) (m : Numbers) (law : SlotLaw a m) → stage_in law ≡ Husk → m.giving ≡ 0
    → 0 < m.weak_refs
husk_counted a m (free h) is none = absurd (cc is)
husk_counted a m (bare h) is none = absurd (cc is)
husk_counted a m (blank h) is none = absurd (cc is)
husk_counted a m (counted h) is none = absurd (cc is)
husk_counted a m (asked h) is none = absurd (cc is)
husk_counted a m (over h) is none = absurd (cc is)
husk_counted a m (husk h) is none = ⊎_elim
    (λ (zero : m.weak ≡ 0). let some = h.given zero in absurd (omega arith))
    (λ (some : m.weak ≢ 0). let count = h.count in omega arith)
    (cases_eq m.weak 0)

-- references come from adds
strong_few : (a : ℕ) (m : Numbers) → SlotLaw a m → m.strong_refs ≤ a
strong_few a m law = grind arith

weak_few : (a : ℕ) (m : Numbers) (law : SlotLaw a m)
    → m.weak_refs + own_reference (stage_in law) ≤ a + 1
weak_few a m law = grind arith

module _ (z : Shape) (c : Core) (so : Sound z c) where
  stage_told : (s : SlotId) (hs : s.0 < z.slots) → stage_at (shows z c) s ≡ stage_in (so.slots s hs)
  stage_told s hs =
      shown_stage z c s hs
      ∙ stage_is (adds_used c) (numbers z c s) (so.slots s hs) (adds_fit z c so)

  past : (s : SlotId) → z.slots ≤ s.0 → stage_at (shows z c) s ≡ Free
  past s le = ap (λ (x : PlainSlot). x.stage) (shown_past z c s le)

  adds_shown : all_adds (shows z c) ≡ adds_used c
  adds_shown = seats_sum (λ (v : PlainSeat). v.adds) c.views

  strong_bound : (s : SlotId) → strong_refs (shows z c) s ≤ all_adds (shows z c)
  strong_bound s = ⊎_elim
      (λ (hs : s.0 < z.slots).
      let few = strong_few (adds_used c) (numbers z c s) (so.slots s hs) in
      let same = shown_strong z c s in
      let adds = adds_shown in omega arith)
      (λ (le : z.slots ≤ s.0).
      let none = refs_past z c Strong s so le in
      let same = shown_strong z c s in omega arith)
      (cases_lt s.0 z.slots)

  weak_bound : (s : SlotId) → weak_refs (shows z c) s ≤ all_adds (shows z c) + 1
  weak_bound s = ⊎_elim
      (λ (hs : s.0 < z.slots).
      let few = weak_few (adds_used c) (numbers z c s) (so.slots s hs) in
      let same = shown_weak z c s in
      let own = ap own_reference (stage_told s hs) in
      let adds = adds_shown in omega arith)
      (λ (le : z.slots ≤ s.0).
      let none = refs_past z c Weak s so le in
      let own = ap own_reference (past s le) in
      let same = shown_weak z c s in omega arith)
      (cases_lt s.0 z.slots)

  pub size : length (shows z c).slots ≡ z.slots
  size = length_each 0 z.slots (λ x. show_slot z c (record { 0 = x }))

  payloads : All (λ (x : PlainSlot). length x.payload ≡ 16) (shows z c).slots
  payloads = All-from_get_or (λ (x : PlainSlot). length x.payload ≡ 16) (shows z c).slots new_slot
      (λ k h.
      let count = size in
      let shown = get_each 0 z.slots k (λ x. show_slot z c (record { 0 = x })) new_slot (omega arith) in
      ap (λ (x : PlainSlot). length x.payload) shown
      ∙ length_each 0 16 (λ i. slice_at c (payload_at z (record { 0 = 0 + k }) i)))
    where
      slice_at : Core → ℕ → ℕ
      slice_at c i = get_or c.words i 0

  sound_shown : plain.Sound (shows z c)
  sound_shown = record {
    lawful = shows_lawful z c so;
    strong_few = strong_bound;
    weak_few = weak_bound;
    payloads = payloads;
  }

  module _ (lone : IsLone c) where
    some_seat : 0 < length c.views
    some_seat = let views = so.views in let one = so.shape.0 in omega arith

    law_of : (n : ℕ) → n < length c.views → SeatLaw z n (view_at c n)
    law_of n inside = let views = so.views in so.seats n (omega arith)

    -- a number of which neither seat 0 has any nor a seat that has left
    nobody : (f : CoreView → ℕ) → f (view_at c 0) ≡ 0
        → ((n : ℕ) → SeatLaw z n (view_at c n) → (view_at c n).left ≡ true → f (view_at c n) ≡ 0)
        → total f c.views ≡ 0
    nobody f root gone = total_zero f c.views
        (λ n inside. ⊎_elim
        (λ (first : n ≡ 0). ap (λ (m : ℕ). f (view_at c m)) first ∙ root)
        (λ (other : n ≢ 0). gone n (law_of n inside) (lone.others n (omega arith) inside))
        (cases_eq n 0))

    none_finish : (s : SlotId) → finishers c s ≡ 0
    none_finish s = nobody (λ v. finishing s v.phase) (ap (finishing s) lone.idle.0)
        (λ n law gone. ap (finishing s) (law.gone gone).0)

    none_help : (s : SlotId) → helpers c s ≡ 0
    none_help s = nobody (λ v. helping s v.phase) (ap (helping s) lone.idle.0)
        (λ n law gone. ap (helping s) (law.gone gone).0)

    none_give : (s : SlotId) → givers c s ≡ 0
    none_give s = nobody (λ v. giving s v.phase) (ap (giving s) lone.idle.0)
        (λ n law gone. ap (giving s) (law.gone gone).0)

    none_dying : (s : SlotId) → dying_times c s ≡ 0
    none_dying s = nobody (λ v. times s v.dying) (ap (times s) lone.none_dying ∙ times_none s)
        (λ n law gone. ap (times s) (law.gone gone).5 ∙ times_none s)

    -- a seat that has left has nothing
    has_nothing : (n : ℕ) → 0 < n → n < length c.views → HasNothing (seat_at (shows z c) n)
    has_nothing n some inside =
        let g = (law_of n inside).gone (lone.others n some inside) in
        subst HasNothing (sym (shown_seat z c n inside)) (record {
          owned = g.1;
          weaks = g.2;
          deferred = (λ i. g.4 i ++ g.3 i);
        })

    ended : (s : SlotId) → stage_at (shows z c) s ≡ Live → 0 < strong_refs (shows z c) s
    ended s live = ⊎_elim
        (λ (hs : s.0 < z.slots).
        let some = live_counted (adds_used c) (numbers z c s) (so.slots s hs)
        (sym (stage_told s hs) ∙ live) (none_finish s) (none_help s) in
        let same = shown_strong z c s in omega arith)
        (λ (le : z.slots ≤ s.0). absurd (cc (past s le, live)))
        (cases_lt s.0 z.slots)

    given : (s : SlotId) → stage_at (shows z c) s ≡ Husk → 0 < weak_refs (shows z c) s
    given s is = ⊎_elim
        (λ (hs : s.0 < z.slots).
        let some = husk_counted (adds_used c) (numbers z c s) (so.slots s hs)
        (sym (stage_told s hs) ∙ is) (none_give s) in
        let same = shown_weak z c s in omega arith)
        (λ (le : z.slots ≤ s.0). absurd (cc (past s le, is)))
        (cases_lt s.0 z.slots)

    kinds : (s : SlotId) → entry_times Disposal s (seat_at (shows z c) 0).deferred ≡ 0
    kinds s =
        let v = view_at c 0 in
        let none = (law_of 0 some_seat).kinds s in
        ap (λ (x : PlainSeat). entry_times Disposal s x.deferred) (shown_seat z c 0 some_seat)
        ∙ (let all = entry_append Disposal s v.owed v.retired in omega arith)

    module _ (fits : List ℕ → Type 0) (fit : AllFit fits (shows z c)) where
      pub lone_state : IsLoneState fits (shows z c)
      lone_state =
          let count = length-map c.views show_seat in record {
            sound = sound_shown;
            there = let some = some_seat in omega arith;
            others = λ n some inside. has_nothing n some (omega (arith, count, inside));
            none_dying = λ s. shown_dying z c s ∙ none_dying s;
            slots = let same = size in let few = so.shape.3 in omega arith;
            adds = let same = adds_shown in let few = adds_fit z c so in omega arith;
            payloads = fit;
            kinds = kinds;
            ended = ended;
            given = given;
          }

      pub lone_audited : (image : Heap) → IsImage (shows z c) image → CanBeAudited fits image
      lone_audited image is = can_be_audited fits (shows z c) lone_state image is
