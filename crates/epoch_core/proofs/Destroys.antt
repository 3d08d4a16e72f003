-- Over every history each object is destroyed at most once.
use Rattle.std.proofs.Common.{◌≡◌, ⊎_elim, ℕ, ◌+◌, ◌<◌, Bool, true, false, List, [], ◌∷◌, length, map, Option, None, Some, refl, ap, sym, subst, ◌∙◌, arith}
use Rattle.std.specs.Prelude.{◌==◌, if◌then◌else◌}
use Rattle.std.proofs.lemmas.List.{length-set}
use Rattle.core_promises.specs.Destroyed.{standing}
use Rattle.core_promises.proofs.Ledger.{Balanced, balanced, falls}
use Rattle.core_law.specs.core_events.declared.shape.Quota.{Quota}
use Rattle.core_law.specs.core_events.Words.{slot_in}
use Rattle.core_law.specs.plain_state.declared.act.EventPlace.{EventPlace}
use Rattle.core_law.specs.plain_state.declared.act.EventPlace.TheVariants.{Cell, Field, WeakCell, WeakField}
use Rattle.core_law.specs.plain_state.declared.act.PlainAct.{PlainAct}
use Rattle.core_law.specs.plain_state.declared.act.PlainAct.TheVariants as plain
use Rattle.core_law.specs.plain_state.declared.slot.Kind.TheVariants.{Strong}
use Rattle.core_law.specs.plain_state.declared.slot.PlainSlot.{PlainSlot}
use Rattle.core_law.specs.plain_state.declared.slot.SlotId.{SlotId}
use Rattle.core_law.specs.plain_state.Lists.{times}
use Rattle.core_law.specs.plain_state.Places.{with_content}
use Rattle.core_law.specs.plain_state.Sound as plain_law
use Rattle.core_law.specs.plain_state.State.{Plain, slot_at}
use Rattle.core_law.specs.plain_state.Steps.{Does}
use Rattle.core_law.proofs.Each.{length_each}
use Rattle.core_law.proofs.Kit.{times_none}
use Rattle.plain_state.proofs.EveryStep.{step_sound}
use Rattle.epoch_core.specs.declared.act.EpochAct.{EpochAct}
use Rattle.epoch_core.specs.declared.act.EpochAct.TheVariants as act
use Rattle.epoch_core.specs.declared.act.EpochEvent.{EpochEvent}
use Rattle.epoch_core.specs.declared.shape.EpochShape.{EpochShape}
use Rattle.epoch_core.specs.declared.view.EpochView.{EpochView}
use Rattle.epoch_core.specs.Destroyed.{DestroyedOnce, destroys}
use Rattle.epoch_core.specs.Good.{stage}
use Rattle.epoch_core.specs.Runs.{AreQuotas, Core, Enabled, History, IsShape, after, found, start, view_at}
use Rattle.epoch_core.specs.Shows.{shows, show_slot}
use Rattle.epoch_core.specs.ShownSteps.{Chain, PlainStep, on_slot, seen_in, shown_steps, step}
use Rattle.epoch_core.specs.Sound.{Sound}
use Rattle.epoch_core.specs.Views.{slot_of}
use Rattle.epoch_core.specs.Words.{free_word}
use Rattle.epoch_core.proofs.Bridge.{shown_slot}
use Rattle.epoch_core.proofs.Keeps.{history_sound}
use Rattle.epoch_core.proofs.Lawful.{shows_sound}
use Rattle.epoch_core.proofs.ShownEvents.{event_shows}
use Rattle.epoch_core.proofs.ShownFills.{free_stage}
use Rattle.epoch_core.proofs.Starts.{count_first, total_none}

-- A STEP KEEPS THE SLOTS
kept : (q r p : Plain) → q ≡ r → length r.slots ≡ length p.slots → length q.slots ≡ length p.slots
kept q r p is e = ap (λ (x : Plain). length x.slots) is ∙ e

content_kept : (r : Plain) (place : EventPlace) (new : Option SlotId)
    → length (with_content r place new).slots ≡ length r.slots
content_kept r (Cell i) new = refl
content_kept r (Field s i) new = length-set r.slots s.0 _
content_kept r (WeakCell i) new = refl
content_kept r (WeakField s) new = length-set r.slots s.0 _

pub slots_kept : (p q : Plain) (n : ℕ) (a : PlainAct) (m : ℕ) → Does p n a m q → length q.slots ≡ length p.slots
slots_kept p q n (plain.Claim x) m d = kept q _ p d.1.4 (length-set p.slots x.0 _)
slots_kept p q n (plain.Fill x i w) m d = kept q _ p d.1.4 (length-set p.slots x.0 _)
slots_kept p q n (plain.Make x) m d = kept q _ p d.1.3 (length-set p.slots x.0 _)
slots_kept p q n (plain.Add x) m d = ⊎_elim (λ up. kept q _ p up.2 refl) (λ off. kept q _ p off.2 refl) d.1.1
slots_kept p q n (plain.Drop x) m d = kept q _ p d.1.3 refl
slots_kept p q n (plain.WeakGain x) m d = kept q _ p d.1.2 refl
slots_kept p q n (plain.WeakDrop x) m d = kept q _ p d.1.3 refl
slots_kept p q n (plain.Look place) m d = kept q _ p d.1.2 refl
slots_kept p q n (plain.Check j place) m d =
    ⊎_elim (λ lost. kept q _ p lost refl) (λ taken. kept q _ p taken.2.2 refl) d.1.2
slots_kept p q n (plain.Alive j) m d = ⊎_elim (λ none. kept q _ p none.1 refl) (λ up. kept q _ p up.2.2 refl) d.1.3
slots_kept p q n (plain.EndSnapshot k x) m d = kept q _ p d.1.3 refl
slots_kept p q n (plain.Replace place new) m d = kept q _ p d.1.2.2 (content_kept _ place new)
slots_kept p q n (plain.TryReplace place old new) m d =
    ⊎_elim (λ done. kept q _ p done.1.2 (content_kept _ place new)) (λ lost. kept q _ p lost.1 refl) d.1.2
slots_kept p q n (plain.Count x) m d = kept q _ p d.1.2 refl
slots_kept p q n (plain.Mark x) m d =
    ⊎_elim (λ same. kept q _ p same.0 refl) (λ zero. kept q _ p zero.2 (length-set p.slots x.0 _)) d.1.1
slots_kept p q n (plain.WeakCount x) m d = kept q _ p d.1.2 refl
slots_kept p q n (plain.See x i) m d = kept q _ p d.1.3 refl
slots_kept p q n (plain.Eject k x) m d = kept q _ p d.1.3 refl
slots_kept p q n (plain.End x) m d = kept q _ p d.1.3 (length-set p.slots x.0 _)
slots_kept p q n (plain.Clear place) m d = kept q _ p d.1.2 (content_kept _ place None)
slots_kept p q n (plain.Destroy x) m d = kept q _ p d.1.3.2 (length-set p.slots x.0 _)
slots_kept p q n (plain.Give x) m d = kept q _ p d.1.3 (length-set p.slots x.0 _)
slots_kept p q n (plain.Leave j) m d = kept q _ p d.1.8 refl
slots_kept p q n plain.Split m d = kept q _ p d.1.1.2 refl
slots_kept p q n plain.Ticket m d = kept q _ p d.1.1 refl
slots_kept p q n plain.Still m d = kept q _ p d.1.1 refl

module _ (s : SlotId) where
  -- how many of these steps destroy the object in s
  abbrev falls_all : List PlainStep → ℕ
  falls_all [] = 0
  falls_all (a ∷ rest) = falls s a.0 + falls_all rest

  chain_balanced : (n : ℕ) (p q : Plain) (steps : List PlainStep) → Chain n p steps q → plain_law.Sound p
      → s.0 < length p.slots → Balanced (falls_all steps) (slot_at p s) (slot_at q s)
  chain_balanced n p q [] is so there =
      let a = ap (λ (r : Plain). standing (slot_at r s).stage) is in
      let b = ap (λ (r : Plain). (slot_at r s).life) is in omega arith
  chain_balanced n p q (a ∷ rest) chain so there =
      let l = slots_kept p chain.0 n a.0 a.1 chain.1 in
      let b = balanced p chain.0 n s there so.lawful a.0 a.1 chain.1 in
      let r = chain_balanced n chain.0 q rest chain.2 (step_sound p chain.0 n a.0 a.1 so chain.1) (omega arith) in
      omega arith

  -- an event destroys what its steps do
  on_none : (f : SlotId → PlainAct) (o : Option SlotId) → ((x : SlotId) → falls s (f x) ≡ 0)
      → falls_all (on_slot f o) ≡ 0
  on_none f None none = refl
  on_none f (Some x) none = let e = none x in omega arith

  claims_none : (x : SlotId) (b : Bool) → falls_all (if b then step (plain.Claim x) ∷ [] else []) ≡ 0
  claims_none x true = refl
  claims_none x false = refl

  ends_none : (x : SlotId) (b : Bool) → falls_all (if b then step (plain.End x) ∷ [] else []) ≡ 0
  ends_none x true = refl
  ends_none x false = refl

  looks_none : (p : EventPlace) (w : ℕ) (o : Option SlotId) → falls_all (seen_in p w o) ≡ 0
  looks_none p w None = refl
  looks_none p w (Some x) = refl

  exits_none : (xs : List SlotId) → falls_all (map (λ (x : SlotId). step (plain.EndSnapshot Strong x)) xs) ≡ 0
  exits_none [] = refl
  exits_none (x ∷ xs) = let r = exits_none xs in omega arith

  falls_as : (a : EpochAct) (w : ℕ) (v : EpochView) → falls_all (shown_steps a w v) ≡ destroys s a
  falls_as (act.Claim x) w v = claims_none x (w == free_word)
  falls_as (act.Fill i x) w v = on_none (λ y. plain.Fill y i x) (slot_of v.phase) (λ y. refl)
  falls_as act.Start w v = on_none plain.Make (slot_of v.phase) (λ y. refl)
  falls_as (act.See x i) w v = refl
  falls_as (act.Add x) w v = refl
  falls_as (act.Drop x) w v = let e = ends_none x (w == 1) in omega arith
  falls_as (act.Pay d) w v = let e = ends_none d.slot (w == 1) in omega arith
  falls_as (act.Free x) w v = omega arith
  falls_as (act.Look p) w v = let e = looks_none p w (slot_in w) in omega arith
  falls_as (act.Swap p new) w v = refl
  falls_as (act.Cas p old new) w v = refl
  falls_as (act.Clear x i) w v = refl
  falls_as act.Date w v = refl
  falls_as act.Enter w v = refl
  falls_as act.Open w v = refl
  falls_as act.Exit w v = exits_none v.seen
  falls_as act.Flush w v = refl
  falls_as act.Scan w v = refl
  falls_as act.Advance w v = refl
  falls_as (act.Leave j) w v = refl

module _ (z : EpochShape) (s : SlotId) (hs : s.0 < z.slots) where
  first_once : (qs : List Quota) → DestroyedOnce z [] (start z qs) s
  first_once qs =
      let free : standing (stage z (start z qs) s) ≡ 0 = ap standing (free_stage _ _ _ (count_first z s hs)) in
      let none = total_none (λ (v : EpochView). times s v.made) z 0 qs (λ n q. times_none s) in omega arith

  step_once : (es : List EpochEvent) (c : Core) (n : ℕ) (a : EpochAct) → Sound z c → Enabled z c n a
      → DestroyedOnce z es c s
      → DestroyedOnce z (record { seat = n; act = a } ∷ es) (after z c n a) s
  step_once es c n a so on before =
      let l = length_each 0 z.slots (λ x. show_slot z c (record { 0 = x })) in
      let b = chain_balanced s n (shows z c) (shows z (after z c n a)) (shown_steps a (found z c n a) (view_at c n))
      (event_shows z c n a so on) (shows_sound z c so) (omega arith) in
      let f = falls_as s a (found z c n a) (view_at c n) in
      let stage_then = ap (λ (x : PlainSlot). standing x.stage) (shown_slot z (after z c n a) s hs) in
      let life_then = ap (λ (x : PlainSlot). x.life) (shown_slot z (after z c n a) s hs) in
      let stage_now = ap (λ (x : PlainSlot). standing x.stage) (shown_slot z c s hs) in
      let life_now = ap (λ (x : PlainSlot). x.life) (shown_slot z c s hs) in omega arith

  pub destroyed_once : (qs : List Quota) (es : List EpochEvent) (c : Core) → IsShape z → AreQuotas z qs
      → History z qs es c → DestroyedOnce z es c s
  destroyed_once qs [] c shape quotas h =
      subst (λ (d : Core). DestroyedOnce z [] d s) (sym h) (first_once qs)
  destroyed_once qs (e ∷ es) c shape quotas h =
      subst (λ (d : Core). DestroyedOnce z (e ∷ es) d s) (sym h.2.1)
      (step_once es h.0 e.seat e.act (history_sound z qs es h.0 shape quotas h.1) h.2.0
      (destroyed_once qs es h.0 shape quotas h.1))
