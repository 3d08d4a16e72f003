-- What a seat fills no other seat has, so a step leaves the objects in the slots of all others.
use Rattle.std.proofs.Common.{◌≡◌, ◌≢◌, ◌⊎◌, inl, inr, ⊎_elim, ℕ, ◌+◌, ◌<◌, ◌≤◌, false, List, length, get_or, set, refl, ap, ◌∙◌, arith}
use Rattle.std.specs.Prelude.{◌==◌}
use Rattle.std.proofs.lemmas.List.{length-set, get_or-set_other}
use Rattle.std.proofs.lemmas.Bool.{cases_lt}
use Rattle.std.proofs.lemmas.Bool.Decides.{nat_tests}
use Rattle.plain_protocol.specs.plain_state.declared.slot.Kind.TheVariants.{Strong}
use Rattle.plain_protocol.specs.plain_state.declared.slot.SlotId.{SlotId}
use Rattle.plain_protocol.specs.plain_state.Lists.{times}
use Rattle.plain_protocol.specs.plain_state.Places.{held_times}
use Rattle.plain_protocol.specs.plain_state.References.{held_in}
use Rattle.plain_protocol.specs.Owns.{HasSlot}
use Rattle.core_law.proofs.Each.{length_each}
use Rattle.core_law.proofs.Kit.{one_same, slot_eq, times_none}
use Rattle.core_law.specs.core_events.Counts.{one}
use Rattle.epoch_core.specs.declared.act.EpochAct.{EpochAct}
use Rattle.epoch_core.specs.declared.act.EpochAct.TheVariants as act
use Rattle.epoch_core.specs.declared.shape.EpochShape.{EpochShape}
use Rattle.epoch_core.specs.declared.view.EpochPhase.{EpochPhase}
use Rattle.epoch_core.specs.declared.view.EpochPhase.TheVariants as phase
use Rattle.epoch_core.specs.declared.view.EpochView.{EpochView}
use Rattle.epoch_core.specs.Counts.{adds_used, filling, naming, total}
use Rattle.epoch_core.specs.Runs.{Core, Enabled, after, found, view_at}
use Rattle.epoch_core.specs.Shows.{filled, show_seat, show_slot, shows}
use Rattle.epoch_core.specs.Slots.{numbers}
use Rattle.epoch_core.specs.Sound.{Sound}
use Rattle.epoch_core.specs.Steps.{May}
use Rattle.epoch_core.specs.Views.{Holds, no_view, slot_of}
use Rattle.epoch_core.proofs.Bridge.{seen_entries, seen_weak}
use Rattle.epoch_core.proofs.Held.{held_of, held_refs, named_in_range}
use Rattle.epoch_core.proofs.Kit.{total_at, total_set}
use Rattle.epoch_core.proofs.ShownEvents.{event_shows}
use Rattle.domain_rule.proofs.Acts.{Leaves}
use Rattle.domain_rule.proofs.Objects.{object_at}
use Rattle.epoch_rule.specs.Told.{object_step}
use Rattle.epoch_rule.proofs.Paths.{shown_path}
use Rattle.epoch_rule.proofs.Views.{enabled_seat}

-- WHAT A SEAT HAS
-- what a seat that is shown holds is what it holds
pub held_counts : (s : SlotId) (v : EpochView)
    → held_times s (show_seat v) ≡ times s v.owned + times s v.seen
held_counts s v =
    let n = times_none s in
    let e = seen_entries s v.seen in
    let w = seen_weak Strong s v.seen in
    let a = w.0 in
    let b = w.1 in omega arith

-- a phase has a claimed slot as the seat that is shown does
filled_counts : (s : SlotId) (p : EpochPhase) → held_in s (filled p) ≡ filling s p
unfolding held_in one
filled_counts s phase.Idle = refl
filled_counts s (phase.Entering e) = refl
filled_counts s (phase.Undated x) = refl
filled_counts s (phase.Blank x) = refl
filled_counts s (phase.Scan w) = refl

-- the seat holds the slot, has it in its dying list, or fills it
pub has_how : (s : SlotId) (v : EpochView) → HasSlot (show_seat v) s
    → Holds v s ⊎ ((0 < times s v.dying) ⊎ (0 < filling s v.phase))
has_how s v has =
    let f = filled_counts s v.phase in
    let g = held_counts s v in
    let h : 0 < held_times s (show_seat v) + times s v.dying + held_in s (filled v.phase) =
    grind (arith, nat_tests) in
    ⊎_elim
    (λ (held : 0 < times s v.owned + times s v.seen). inl held)
    (λ (none : times s v.owned + times s v.seen ≤ 0). ⊎_elim
    (λ (dies : 0 < times s v.dying). inr (inl dies))
    (λ (stays : times s v.dying ≤ 0). inr (inr (omega arith)))
    (cases_lt 0 (times s v.dying)))
    (cases_lt 0 (times s v.owned + times s v.seen))

-- what a seat holds it has
pub held_has : (s : SlotId) (v : EpochView) → Holds v s → HasSlot (show_seat v) s
held_has s v held = let g = held_counts s v in grind (arith, nat_tests)

-- what a seat fills it has
pub fills_has : (s : SlotId) (v : EpochView) → v.phase ≡ phase.Blank s → HasSlot (show_seat v) s
fills_has s v fills =
    let f = filled_counts s v.phase in
    let o = one_same s s refl in
    let g : filling s v.phase ≡ one s s = ap (λ (p : EpochPhase). filling s p) fills in
    grind (arith, nat_tests)

-- what a seat has it names
has_named : (s : SlotId) (v : EpochView) → HasSlot (show_seat v) s → 0 < naming s v
has_named s v has = ⊎_elim
    (λ (held : 0 < times s v.owned + times s v.seen). omega arith)
    (λ rest. ⊎_elim
    (λ (dies : 0 < times s v.dying). omega arith)
    (λ (fills : 0 < filling s v.phase). omega arith)
    rest)
    (has_how s v has)

-- what two seats count together is no more than all count
two_le : (f : EpochView → ℕ) (vs : List EpochView) (n m : ℕ) → n < length vs → m < length vs
    → m ≢ n → f no_view ≡ 0
    → f (get_or vs n no_view) + f (get_or vs m no_view) ≤ total f vs
two_le f vs n m hn hm ne none =
    let a = total_set f vs n no_view hn in
    let l = length-set vs n no_view in
    let b = total_at f (set vs n no_view) m (omega arith) in
    let g = ap f (get_or-set_other vs n m no_view no_view ne) in omega arith

-- the slot that the seat fills is another one
filled_other : (s r : SlotId) (p : EpochPhase) → p ≡ phase.Blank r → (p ≡ phase.Blank s → ⊥)
    → (s.0 == r.0) ≡ false
filled_other s r p is off =
    let apart : s.0 ≢ r.0 = λ e. off (is ∙ ap phase.Blank (slot_eq r s (cc e))) in
    grind (arith, nat_tests)

-- in a slot that the seat doesn't fill no act changes the object
act_leaves : (z : EpochShape) (v : EpochView) (s : SlotId) (a : EpochAct) → May z a v
    → (v.phase ≡ phase.Blank s → ⊥) → Leaves (object_step a v) s
act_leaves z v s (act.Fill i x) may off o =
    rw (ap slot_of may.0.1) (rw (filled_other s may.0.0 v.phase may.0.1 off) refl)
act_leaves z v s act.Start may off o =
    rw (ap slot_of may.1) (rw (filled_other s may.0 v.phase may.1 off) refl)
act_leaves z v s a may off o = refl

module _ (z : EpochShape) (c : Core) (so : Sound z c) where
  -- the slots that a seat has are there
  pub has_there : (n : ℕ) (s : SlotId) → n < length c.views → HasSlot (show_seat (view_at c n)) s
      → s.0 < z.slots
  has_there n s hn has =
      let e = so.views in
      named_in_range z n (view_at c n) s (so.seats n (omega arith)) (has_named s (view_at c n) has)

  pub shown_there : (s : SlotId) → s.0 < z.slots → s.0 < length (shows z c).slots
  shown_there s hs =
      let l = length_each 0 z.slots (λ x. show_slot z c (record { 0 = x })) in omega arith

  -- what seat n fills no other seat has
  fills_alone : (n m : ℕ) (s : SlotId) → n < length c.views → m < length c.views → m ≢ n
      → (view_at c n).phase ≡ phase.Blank s → HasSlot (show_seat (view_at c m)) s → ⊥
  fills_alone n m s hn hm ne fills has =
      let e = so.views in
      let o = one_same s s refl in
      let mine : filling s (view_at c n).phase ≡ 1 =
      ap (λ (p : EpochPhase). filling s p) fills ∙ o in
      let among = total_at (λ (u : EpochView). filling s u.phase) c.views n hn in
      let law = held_of (adds_used c) (numbers z c s) (so.slots s (has_there m s hm has)) (omega arith) in
      let one' = law.one in
      let none = law.refs in
      ⊎_elim
      (λ (held : Holds (view_at c m) s).
      let r = held_refs z c m s so (omega arith) held in absurd (omega arith))
      (λ rest. ⊎_elim
      (λ (dies : 0 < times s (view_at c m).dying).
      let d = total_at (λ (u : EpochView). times s u.dying) c.views m hm in absurd (omega arith))
      (λ (also : 0 < filling s (view_at c m).phase).
      let two = two_le (λ (u : EpochView). filling s u.phase) c.views n m hn hm ne refl in
      absurd (omega arith))
      rest)
      (has_how s (view_at c m) has)

  -- a step of another seat leaves the objects in a seat's slots
  pub others_keep : (n m : ℕ) (a : EpochAct) (s : SlotId) → Enabled z c n a
      → ((j : ℕ) → a ≡ act.Leave j → ⊥) → m < length c.views → m ≢ n
      → HasSlot (show_seat (view_at c m)) s
      → object_at (shows z (after z c n a)) s ≡ object_at (shows z c) s
  others_keep n m a s on single hm ne has =
      (shown_path n (shows z c) (shows z (after z c n a)) (enabled_seat z c n a so on) a
      (found z c n a) (view_at c n) single (event_shows z c n a so on)).objects s
      (shown_there s (has_there m s hm has))
      ∙ act_leaves z (view_at c n) s a on.1 (λ fills. fills_alone n m s on.0 hm ne fills has)
      (object_at (shows z c) s)
