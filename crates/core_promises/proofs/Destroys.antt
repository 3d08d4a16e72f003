-- Over every history each object is destroyed at most once.
use Rattle.std.proofs.Common.{◌≡◌, ℕ, ◌<◌, Bool, true, false, List, [], ◌∷◌, refl, ap, sym, subst, arith}
use Rattle.std.specs.Prelude.{◌==◌, Option, Some, None, if◌then◌else◌}
use Rattle.core_law.specs.plain_state.declared.act.PlainAct.{PlainAct}
use Rattle.core_law.specs.plain_state.declared.act.PlainAct.TheVariants as plain
use Rattle.core_law.specs.plain_state.declared.slot.PlainSlot.{PlainSlot}
use Rattle.core_law.specs.plain_state.declared.slot.SlotId.{SlotId}
use Rattle.core_law.specs.plain_state.declared.slot.Stage.TheVariants.{Free}
use Rattle.core_law.specs.plain_state.Lists.{Entry, times}
use Rattle.core_law.specs.core_events.declared.act.Act.{Act}
use Rattle.core_law.specs.core_events.declared.act.Act.TheVariants as act
use Rattle.core_law.specs.core_events.declared.act.Event.{Event}
use Rattle.core_law.specs.core_events.declared.shape.Shape.{Shape}
use Rattle.core_law.specs.core_events.declared.view.CoreView.{CoreView}
use Rattle.core_law.specs.core_events.declared.view.Note.{Note}
use Rattle.core_law.specs.core_events.declared.view.Note.TheVariants as note
use Rattle.core_law.specs.core_events.Counts.{Signs, signs, stage, stage_of}
use Rattle.core_law.specs.core_events.Runs.{AreTerms, Core, Enabled, History, IsShape, after, found, start, view_at}
use Rattle.core_law.specs.core_events.Shows.{show_slot, shows}
use Rattle.core_law.specs.core_events.ShownSteps.{shown_act, ejects, on_slot, releases, is_ripe_field}
use Rattle.core_law.specs.core_events.Steps.{is_last}
use Rattle.core_law.specs.core_events.Views.{Terms, note_of, slot_of}
use Rattle.core_law.specs.core_events.Words.{bit_in}
use Rattle.core_law.specs.counter_word.Words.{has_help}
use Rattle.core_law.specs.Sound.{Sound}
use Rattle.core_law.proofs.Each.{length_each}
use Rattle.core_law.proofs.FirstWords.{bit_first}
use Rattle.core_law.proofs.Kit.{times_none}
use Rattle.core_law.proofs.Starts.{total_none}
use Rattle.core_law.proofs.Always.{history_sound}
use Rattle.core_law.proofs.Bridge.{shown_slot}
use Rattle.core_law.proofs.Events.{event_shows}
use Rattle.core_law.proofs.Lawful.{shows_lawful}
use Rattle.core_promises.specs.Destroyed.{DestroyedOnce, destroys, standing}
use Rattle.core_promises.proofs.Ledger.{balanced, falls}

module _ (s : SlotId) where
  -- of two steps it is one or the other, and neither destroys
  either_none : (b : Bool) (x y : PlainAct) → falls s x ≡ 0 → falls s y ≡ 0
      → falls s (if b then x else y) ≡ 0
  either_none true x y left right = left
  either_none false x y left right = right

  on_none : (f : SlotId → PlainAct) (o : Option SlotId) → ((x : SlotId) → falls s (f x) ≡ 0)
      → falls s (on_slot f o) ≡ 0
  on_none f None none = refl
  on_none f (Some x) none = none x

  ejects_none : (es : List Entry) → falls s (ejects es) ≡ 0
  ejects_none [] = refl
  ejects_none (e ∷ es) = refl

  releases_none : (m : Note) → falls s (releases m) ≡ 0
  releases_none note.Idle = refl
  releases_none (note.Announced k x) = refl
  releases_none (note.Valid k x) = refl

  -- an act destroys what its plain step does
  falls_as : (z : Shape) (a : Act) (w : ℕ) (v : CoreView) → falls s (shown_act z a w v) ≡ destroys s a
  falls_as z (act.Add x) w v = refl
  falls_as z (act.Drop x) w v = refl
  falls_as z act.Pay w v = ejects_none v.owed
  falls_as z act.Finish w v = either_none (w == 0) _ _ (on_none plain.End (slot_of v.phase) (λ x. refl)) refl
  falls_as z act.Take w v = either_none (has_help w) _ _ (on_none plain.End (slot_of v.phase) (λ x. refl)) refl
  falls_as z (act.Count x) w v = refl
  falls_as z act.Mark w v = on_none plain.Mark (slot_of v.phase) (λ x. refl)
  falls_as z (act.Announce j k x) w v = refl
  falls_as z (act.Release j) w v = releases_none (note_of v j)
  falls_as z (act.Look p) w v = refl
  falls_as z (act.Check j p) w v = refl
  falls_as z (act.Alive j) w v = refl
  falls_as z act.Scan w v = either_none (is_last z v) _ _ refl refl
  falls_as z (act.Swap p new) w v = either_none (is_ripe_field v p) _ _ refl refl
  falls_as z (act.Cas p old new) w v = refl
  falls_as z (act.Claim x) w v = either_none (bit_in x w == 1) _ _ refl refl
  falls_as z act.Arm w v = refl
  falls_as z (act.Fill i x) w v = on_none (λ y. plain.Fill y i x) (slot_of v.phase) (λ y. refl)
  falls_as z act.Start w v = on_none plain.Make (slot_of v.phase) (λ x. refl)
  falls_as z (act.See x i) w v = refl
  falls_as z act.Free w v = on_none plain.Give (slot_of v.phase) (λ x. refl)
  falls_as z act.Ticket w v = refl
  falls_as z (act.Wadd x) w v = refl
  falls_as z (act.Wdrop x) w v = refl
  falls_as z (act.Destroy x) w v = refl
  falls_as z (act.Wcount x) w v = refl
  falls_as z (act.Leave j) w v = refl

free_signs : (g : Signs) → g.bit ≡ 1 → stage_of g ≡ Free
unfolding stage_of
free_signs g e = rw e refl

module _ (z : Shape) (s : SlotId) (hs : s.0 < z.slots) where
  first_once : (ts : Terms) → DestroyedOnce z [] (start z ts) s
  first_once ts =
      let free : standing (stage z (start z ts) s) ≡ 0 =
      ap standing (free_signs (signs z (start z ts) s) (bit_first z s hs)) in
      let none = total_none (λ (v : CoreView). times s v.made) z 0 ts.quotas ts.grants
      (λ n q. times_none s) in omega arith

  step_once : (es : List Event) (c : Core) (n : ℕ) (a : Act) → Sound z c → Enabled z c n a
      → DestroyedOnce z es c s
      → DestroyedOnce z (record { seat = n; act = a } ∷ es) (after z c n a) s
  step_once es c n a so on before =
      let l = length_each 0 z.slots (λ x. show_slot z c (record { 0 = x })) in
      let b = balanced (shows z c) (shows z (after z c n a)) n s (omega arith) (shows_lawful z c so)
      (shown_act z a (found z c n a) (view_at c n)) _ (event_shows z c n a so on) in
      let f = falls_as s z a (found z c n a) (view_at c n) in
      let stage_then = ap (λ (x : PlainSlot). standing x.stage) (shown_slot z (after z c n a) s hs) in
      let life_then = ap (λ (x : PlainSlot). x.life) (shown_slot z (after z c n a) s hs) in
      let stage_now = ap (λ (x : PlainSlot). standing x.stage) (shown_slot z c s hs) in
      let life_now = ap (λ (x : PlainSlot). x.life) (shown_slot z c s hs) in omega arith

  pub destroyed_once : (ts : Terms) (es : List Event) (c : Core) → IsShape z → AreTerms z ts
      → History z ts es c → DestroyedOnce z es c s
  destroyed_once ts [] c shape terms h =
      subst (λ (d : Core). DestroyedOnce z [] d s) (sym h) (first_once ts)
  destroyed_once ts (e ∷ es) c shape terms h =
      subst (λ (d : Core). DestroyedOnce z (e ∷ es) d s) (sym h.2.1)
      (step_once es h.0 e.seat e.act (history_sound z ts es h.0 shape terms h.1) h.2.0
      (destroyed_once ts es h.0 shape terms h.1))
