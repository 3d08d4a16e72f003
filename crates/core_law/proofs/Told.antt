-- The words count what the plain state shows, and what is held stays.
use Rattle.std.proofs.Common.{◌≡◌, ◌≢◌, inl, inr, ⊎_elim, ℕ, ◌+◌, ◌<◌, ap, sym, ◌∙◌, arith}
use Rattle.core_events.specs.plain_state.declared.slot.Kind.TheVariants.{Weak}
use Rattle.core_events.specs.plain_state.declared.slot.SlotId.{SlotId}
use Rattle.core_events.specs.plain_state.declared.slot.Stage.{Stage}
use Rattle.core_events.specs.plain_state.declared.slot.Stage.TheVariants.{Free, Blank}
use Rattle.core_events.specs.plain_state.References.{weak_refs, own_reference}
use Rattle.core_events.specs.plain_state.State.{stage_at}
use Rattle.core_events.specs.declared.shape.Shape.{Shape}
use Rattle.core_events.specs.Views.{Holds}
use Rattle.core_events.specs.Runs.{Core, view_at}
use Rattle.core_events.specs.Counts.{refs, stage}
use Rattle.core_events.specs.Good.{CountLaw}
use Rattle.core_events.specs.Shows.{shows}
use Rattle.core_law.specs.Slots.{Numbers, numbers, SlotLaw}
use Rattle.core_law.specs.Sound.{Sound}
use Rattle.core_law.proofs.Held.{held_taken, held_named, strongly_refs}
use Rattle.core_law.proofs.Parts.{sound_good, stage_in, stage_is}
use Rattle.core_law.proofs.Put.{adds_fit}
use Rattle.core_law.proofs.Steady.{named_in_range}
use Rattle.core_law.specs.Shown.{CountsShown, HeldStays}
use Rattle.core_law.proofs.Bridge.{shown_stage, shown_strong, shown_weak}
use Rattle.core_law.proofs.Covered.{stands}
use Rattle.core_law.proofs.Lawful.{shows_lawful}

pub counts_shown : (z : Shape) (c : Core) (s : SlotId) → Sound z c → s.0 < z.slots
    → CountsShown z c s
counts_shown z c s so hs = (
  law.strong_count ∙ sym (shown_strong z c s),
  ⊎_elim
      (λ e. inl (e ∙ (ap (λ (x : Stage). refs Weak z c s + own_reference x)
      (sym (shown_stage z c s hs)) ∙ sym (shown_weak z c s))))
      (λ e. inr (e.0, e.1, bare_counts e.2 e.3))
      law.weak_count,
)
  where
    law : CountLaw z c s
    law = (sound_good z c so).counts s hs

    bare_counts : refs Weak z c s ≡ 0 → stage z c s ≡ Blank → weak_refs (shows z c) s ≡ 1
    bare_counts none is =
        let e = shown_weak z c s in
        let o = ap own_reference (shown_stage z c s hs ∙ is) in omega arith

-- a slot with no bit isn't free
no_bit : (a : ℕ) (m : Numbers) (law : SlotLaw a m) → m.bit ≡ 0 → stage_in law ≢ Free
no_bit a m law e = grind arith

pub held_stays : (z : Shape) (c : Core) (n : ℕ) (s : SlotId) → Sound z c → n < z.seats
    → HeldStays z c n s
held_stays z c n s so hn = (
  (λ held.
      let r = strongly_refs z c n s so hn held in
      let e = shown_strong z c s in (shows_lawful z c so).strong s (omega arith)),
  not_free,
  (λ held. stands z c so n s hn held),
)
  where
    not_free : Holds (view_at c n) s → stage_at (shows z c) s ≢ Free
    not_free held is =
        let hs = named_in_range z n (view_at c n) s (so.seats n hn) (held_named s (view_at c n) held) in
        let t = held_taken z c n s so hn hs held in
        let st = stage_is _ (numbers z c s) (so.slots s hs) (adds_fit z c so) in
        no_bit _ (numbers z c s) (so.slots s hs) (omega arith)
        (sym st ∙ (sym (shown_stage z c s hs) ∙ is))
