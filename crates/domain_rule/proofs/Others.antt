-- What a seat fills no other seat has, so a step leaves the objects in the slots of all others.
use Rattle.std.proofs.Common.{◌≡◌, ◌≢◌, ◌⊎◌, inl, inr, ⊎_elim, ℕ, ◌+◌, ◌<◌, ◌≤◌, List, length, get_or, set, refl, ap, ◌∙◌, arith}
use Rattle.std.proofs.lemmas.List.{length-set, get_or-set_other}
use Rattle.std.proofs.lemmas.Bool.{cases_lt}
use Rattle.std.proofs.lemmas.Bool.Decides.{nat_tests}
use Rattle.plain_protocol.specs.plain_state.declared.slot.SlotId.{SlotId}
use Rattle.plain_protocol.specs.plain_state.Lists.{times}
use Rattle.plain_protocol.specs.plain_state.References.{held_in}
use Rattle.plain_protocol.specs.Owns.{HasSlot}
use Rattle.core_law.specs.core_events.declared.act.Act.{Act}
use Rattle.core_law.specs.core_events.declared.shape.Shape.{Shape}
use Rattle.core_law.specs.core_events.declared.view.CoreView.{CoreView}
use Rattle.core_law.specs.core_events.declared.view.Phase.{Phase}
use Rattle.core_law.specs.core_events.declared.view.Phase.TheVariants as phase
use Rattle.core_law.specs.core_events.Counts.{one, total, naming, baring, filling, in_phase, adds_used}
use Rattle.core_law.specs.core_events.Runs.{Core, Enabled, after, view_at}
use Rattle.core_law.specs.core_events.Shows.{filled, show_seat, show_slot, shows}
use Rattle.core_law.specs.core_events.Views.{held_times, no_view}
use Rattle.core_law.specs.Slots.{Numbers, numbers, SlotLaw, free, bare, blank, counted, asked, over, husk}
use Rattle.core_law.specs.Sound.{Sound}
use Rattle.core_law.proofs.Held.{held_named, held_taken}
use Rattle.core_law.proofs.Kit.{one_same, total_at, total_set}
use Rattle.core_law.proofs.Steady.{named_in_range}
use Rattle.core_law.proofs.Events.{event_shows}
use Rattle.core_law.proofs.Lists.{total_plus}
use Rattle.core_law.proofs.Each.{length_each}
use Rattle.domain_rule.proofs.Acts.{act_leaves}
use Rattle.domain_rule.proofs.Objects.{object_at, object_changes}

-- the seat has claimed the slot, armed or not
abbrev claiming : SlotId → Phase → ℕ
claiming s p = baring s p + filling s p

-- a phase has a claimed slot as the seat that is shown does
filled_counts : (s : SlotId) (p : Phase) → held_in s (filled p) ≡ claiming s p
unfolding held_in one
filled_counts s phase.Idle = refl
filled_counts s (phase.Finish x) = refl
filled_counts s (phase.Help x) = refl
filled_counts s (phase.Zero x) = refl
filled_counts s phase.Scan = refl
filled_counts s (phase.Bare x) = omega arith
filled_counts s (phase.Blank x) = omega arith
filled_counts s (phase.Give x) = refl

-- the seat holds the slot, has it in its dying list, or fills it
has_how : (s : SlotId) (v : CoreView) → HasSlot (show_seat v) s
    → (0 < held_times s v) ⊎ ((0 < times s v.dying) ⊎ (0 < claiming s v.phase))
has_how s v has =
    let f = filled_counts s v.phase in
    let h : 0 < held_times s v + times s v.dying + held_in s (filled v.phase) =
    grind (arith, nat_tests) in
    ⊎_elim
    (λ (held : 0 < held_times s v). inl held)
    (λ (none : held_times s v ≤ 0). ⊎_elim
    (λ (dies : 0 < times s v.dying). inr (inl dies))
    (λ (stays : times s v.dying ≤ 0). inr (inr (omega arith)))
    (cases_lt 0 (times s v.dying)))
    (cases_lt 0 (held_times s v))

-- what a seat fills it has
pub fills_has : (s : SlotId) (v : CoreView) → v.phase ≡ phase.Blank s → HasSlot (show_seat v) s
fills_has s v fills =
    let f = filled_counts s v.phase in
    let o = one_same s s refl in
    let g : filling s v.phase ≡ one s s = ap (λ (p : Phase). filling s p) fills in
    grind (arith, nat_tests)

-- what a seat has it names
filling_named : (s : SlotId) (p : Phase) → claiming s p ≤ in_phase s p
filling_named s phase.Idle = omega arith
filling_named s (phase.Finish x) = omega arith
filling_named s (phase.Help x) = omega arith
filling_named s (phase.Zero x) = omega arith
filling_named s phase.Scan = omega arith
filling_named s (phase.Bare x) = omega arith
filling_named s (phase.Blank x) = omega arith
filling_named s (phase.Give x) = omega arith

has_named : (s : SlotId) (v : CoreView) → HasSlot (show_seat v) s → 0 < naming s v
has_named s v has = ⊎_elim
    (λ held. held_named s v held)
    (λ rest. ⊎_elim
    (λ (dies : 0 < times s v.dying). omega arith)
    (λ (fills : 0 < claiming s v.phase). let f = filling_named s v.phase in omega arith)
    rest)
    (has_how s v has)

-- a slot that is filled isn't dying, and one seat fills it
filled_alone : (most : ℕ) (m : Numbers) → SlotLaw most m → 0 < m.filling
    → (m.dying ≡ 0) × (m.baring + m.filling ≡ 1)
filled_alone most m (free h) fills = let e = h.filling in absurd (omega arith)
filled_alone most m (bare h) fills = let e = h.filling in absurd (omega arith)
filled_alone most m (blank h) fills =
    let a = h.empty.dying in let b = h.baring in let e = h.filling in (omega arith, omega arith)
filled_alone most m (counted h) fills = let e = h.own.taken.filling in absurd (omega arith)
filled_alone most m (asked h) fills = let e = h.own.taken.filling in absurd (omega arith)
filled_alone most m (over h) fills = let e = h.own.taken.filling in absurd (omega arith)
filled_alone most m (husk h) fills = let e = h.taken.filling in absurd (omega arith)

-- what two seats count together is no more than all count
two_le : (f : CoreView → ℕ) (vs : List CoreView) (n m : ℕ) → n < length vs → m < length vs
    → m ≢ n → f no_view ≡ 0
    → f (get_or vs n no_view) + f (get_or vs m no_view) ≤ total f vs
two_le f vs n m hn hm ne none =
    let a = total_set f vs n no_view hn in
    let l = length-set vs n no_view in
    let b = total_at f (set vs n no_view) m (omega arith) in
    let g = ap f (get_or-set_other vs n m no_view no_view ne) in omega arith

module _ (z : Shape) (c : Core) (so : Sound z c) where
  -- the slots that a seat has are there
  pub has_there : (n : ℕ) (s : SlotId) → n < length c.views → HasSlot (show_seat (view_at c n)) s
      → s.0 < z.slots
  has_there n s hn has =
      let e = so.views in
      named_in_range z n (view_at c n) s (so.seats n (omega arith)) (has_named s (view_at c n) has)

  pub shown_there : (s : SlotId) → s.0 < z.slots → s.0 < length (shows z c).slots
  shown_there s hs =
      let l = length_each 0 z.slots (λ x. show_slot z c (record { 0 = x })) in omega arith

  -- what seat n fills no other seat has
  pub fills_alone : (n m : ℕ) (s : SlotId) → n < length c.views → m < length c.views → m ≢ n
      → (view_at c n).phase ≡ phase.Blank s → HasSlot (show_seat (view_at c m)) s → ⊥
  fills_alone n m s hn hm ne fills has =
      let e = so.views in
      let o = one_same s s refl in
      let mine : filling s (view_at c n).phase ≡ 1 =
      ap (λ (p : Phase). filling s p) fills ∙ o in
      let bare_none : baring s (view_at c n).phase ≡ 0 = ap (λ (p : Phase). baring s p) fills in
      let among = total_at (λ (u : CoreView). filling s u.phase) c.views n hn in
      let law = so.slots s (has_there m s hm has) in
      let alone = filled_alone (adds_used c) (numbers z c s) law (omega arith) in
      ⊎_elim
      (λ held. let t = held_taken z c m s so (omega arith) (has_there m s hm has) held in
      absurd (omega arith))
      (λ rest. ⊎_elim
      (λ (dies : 0 < times s (view_at c m).dying).
      let d = total_at (λ (u : CoreView). times s u.dying) c.views m hm in absurd (omega arith))
      (λ (also : 0 < claiming s (view_at c m).phase).
      let sum = total_plus (λ (u : CoreView). baring s u.phase) (λ (u : CoreView). filling s u.phase)
      c.views in
      let two = two_le (λ (u : CoreView). claiming s u.phase) c.views n m hn hm ne refl in
      absurd (omega arith))
      rest)
      (has_how s (view_at c m) has)

  -- a step of another seat leaves the objects in a seat's slots
  pub others_keep : (n m : ℕ) (a : Act) (s : SlotId) → Enabled z c n a → m < length c.views
      → m ≢ n → HasSlot (show_seat (view_at c m)) s
      → object_at (shows z (after z c n a)) s ≡ object_at (shows z c) s
  others_keep n m a s on hm ne has =
      object_changes _ _ n s _ _ (shown_there s (has_there m s hm has)) (event_shows z c n a so on)
      ∙ (act_leaves z _ (view_at c n) s a on.1
      (λ fills. fills_alone n m s on.0 hm ne fills has)) _
