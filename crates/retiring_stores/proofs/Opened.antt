-- A place that is open to a seat is no field of a slot that the seat may destroy.
use Rattle.std.proofs.Common.{◌≡◌, ℕ, ◌<◌, false, List, refl, ap, ◌∙◌, subst, arith}
use Rattle.std.specs.Prelude.{Option, Some, None, nat_lt}
use Rattle.std.proofs.lemmas.Bool.Decides.{nat_tests}
use Rattle.control_word.specs.plain_state.declared.act.EventPlace.{EventPlace}
use Rattle.control_word.specs.plain_state.declared.act.EventPlace.TheVariants.{Cell, Field, WeakCell, WeakField}
use Rattle.control_word.specs.plain_state.declared.act.PlainAct.{PlainAct}
use Rattle.control_word.specs.plain_state.declared.slot.Kind.TheVariants.{Strong}
use Rattle.control_word.specs.plain_state.declared.slot.SlotId.{SlotId}
use Rattle.control_word.specs.plain_state.Lists.{times}
use Rattle.control_word.specs.plain_state.State.{Plain}
use Rattle.control_word.specs.plain_protocol.Owns.{OwnPart}
use Rattle.control_word.specs.core_events.declared.act.Act.TheVariants as act
use Rattle.control_word.specs.core_events.declared.shape.Shape.{Shape}
use Rattle.control_word.specs.core_events.declared.view.CoreView.{CoreView}
use Rattle.control_word.specs.core_events.Counts.{adds_used, refs, strong}
use Rattle.control_word.specs.core_events.Runs.{Core, view_at}
use Rattle.control_word.specs.core_events.ShownSteps.{is_ripe_field}
use Rattle.control_word.specs.core_events.Views.{HoldsStrongly, IsOpen}
use Rattle.control_word.specs.core_law.Slots.{numbers}
use Rattle.control_word.specs.core_law.Sound.{Sound}
use Rattle.control_word.proofs.Below.core_law_Flags.{live_low}
use Rattle.control_word.proofs.Below.core_law_Held.{strongly_refs}
use Rattle.control_word.proofs.Below.core_law_InRange.{open_in_range}
use Rattle.control_word.proofs.Below.core_law_Kit.{total_at}
use Rattle.control_word.proofs.Below.core_law_Parts.{value_is}
use Rattle.control_word.proofs.Below.core_law_Put.{adds_fit, at_seat}
use Rattle.control_word.proofs.Below.core_law_Writes.{IsPlace}
use Rattle.control_word.proofs.Below.core_law_Ranges.{counts_low}
use Rattle.control_word.proofs.Below.core_law_Stages.{live_started}
use Rattle.control_word.specs.domain_rule.Told.{cleared_after}
use Rattle.control_word.specs.acquire_retire.Domains.{DomainState}
use Rattle.control_word.specs.acquire_retire.Seats.{SeatState}
use Rattle.retiring_stores.specs.Exchanging.{Stores, Swaps}
use Rattle.retiring_stores.proofs.Rooming.{sound_before}

module _ (z : Shape) (c : Core) (n : ℕ) (so : Sound z c) (hn : n < z.seats) where
  -- the object of a slot that a seat holds strongly lives, and one of a ripe slot has ended
  not_ripe : (s : SlotId) → HoldsStrongly (view_at c n) s → s.0 < z.slots
      → nat_lt 0 (times s (view_at c n).ripe) ≡ false
  not_ripe s held hs =
      let r = strongly_refs z c n s so hn held in
      let e = value_is (adds_used c) (numbers z c s) (so.slots s hs) (adds_fit z c so) in
      let p = counts_low (strong z c s) (refs Strong z c s) e r in
      let d = (live_started z c so s hs (live_low (strong z c s) p.1)).dying in
      let t = total_at (λ (u : CoreView). times s u.dying) c.views n (at_seat z c n so hn) in
      let le = (so.seats n hn).ripe s in
      let none : times s (view_at c n).ripe ≡ 0 = omega arith in grind (arith, nat_tests)

  open_not_ripe : (q : EventPlace) → IsOpen z (view_at c n) q → IsPlace z q
      → is_ripe_field (view_at c n) q ≡ false
  open_not_ripe (Cell i) on there = refl
  open_not_ripe (Field s i) on there = not_ripe s on.1 there.0
  open_not_ripe (WeakCell i) on there = refl
  open_not_ripe (WeakField s) on there = not_ripe s on there

  pub opened : (q : EventPlace) → IsOpen z (view_at c n) q → is_ripe_field (view_at c n) q ≡ false
  opened q on =
      open_not_ripe q on (open_in_range z n (view_at c n) (so.seats n hn) q on)

left_so : (given : Option SlotId) (p : EventPlace) (v : CoreView) (ps : List EventPlace)
    → is_ripe_field v p ≡ false → cleared_after (act.Swap p given) v ps ≡ ps
left_so None p v ps is = rw is refl
left_so (Some s) p v ps is = refl

module _ {P V : Type 0} {fits : List ℕ → Type 0} (d : DomainState P)
    {next : OwnPart → OwnPart → V → PlainAct → ℕ → V}
    {allows : Plain → Plain → ℕ → V → V → Type 0} (p : EventPlace) (given held : Option SlotId)
    (old new : SeatState V) (on : IsOpen d.shape old.view.core p)
    (swaps : Swaps fits d next allows p given held old new) where
  none_ripe : is_ripe_field old.view.core p ≡ false
  none_ripe =
      let h = swaps.puts.step.told.happened in
      let so = sound_before swaps.puts.step.told in
      let views = so.views in
      let there = h.enabled.0 in
      ap (λ (v : CoreView). is_ripe_field v p) h.view
      ∙ opened d.shape h.before old.view.core.seat so (omega arith) p
      (subst (λ (v : CoreView). IsOpen d.shape v p) h.view on)

  pub stores : Stores fits d next allows p given old new
  stores = record {
    held = held;
    swaps = swaps;
    is_replace = λ w.
        let none = none_ripe in rw none refl;
    cleared =
        swaps.cleared ∙ swaps.puts.cleared
        ∙ left_so given p old.view.core old.view.cleared none_ripe;
  }
