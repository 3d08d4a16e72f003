-- What refers to a slot in a state at rest: references that seat 0 owns, and strong fields of slots that live.
use Rattle.std.proofs.Common.{◌≡◌, ◌≢◌, ◌⊎◌, inl, inr, ⊎_elim, ◌+◌, ◌<◌, List, refl, ap, ◌∙◌, arith, Some}
use Rattle.plain_audit.specs.plain_state.declared.slot.Kind.{Kind}
use Rattle.plain_audit.specs.plain_state.declared.slot.Kind.TheVariants.{Strong}
use Rattle.plain_audit.specs.plain_state.declared.slot.SlotId.{SlotId}
use Rattle.plain_audit.specs.plain_state.declared.slot.Stage.{Stage}
use Rattle.plain_audit.specs.plain_state.declared.slot.Stage.TheVariants.{Free, Blank, Live, Ended, Husk}
use Rattle.plain_audit.specs.plain_state.Lawful.{Lawful}
use Rattle.plain_audit.specs.plain_state.Lists.{cell_times, entry_times, times}
use Rattle.plain_audit.specs.plain_state.References.{deferrals, dying_times, held_in, over_seats, over_slots, strong_fields, strong_refs}
use Rattle.plain_audit.specs.plain_state.State.{Plain, seat_at, slot_at, stage_at}
use Rattle.plain_audit.proofs.Below.plain_state_Kit.{entry_none, held_none, none_or_some, times_none}
use Rattle.words_law.specs.Views.{View}
use Rattle.words_rest.specs.Rest.{IsLeft}
use Rattle.record_counts.proofs.Sums.{held_some, null_cells, seats_none, seats_root, some_slot}

stage_cases : (g : Stage) → (g ≡ Live) ⊎ ((g ≡ Ended) ⊎ ((g ≢ Live) × (g ≢ Ended)))
stage_cases Free = inr (inr ((λ (e : Free ≡ Live). cc), (λ (e : Free ≡ Ended). cc)))
stage_cases Blank = inr (inr ((λ (e : Blank ≡ Live). cc), (λ (e : Blank ≡ Ended). cc)))
stage_cases Live = inl refl
stage_cases Ended = inr (inl refl)
stage_cases Husk = inr (inr ((λ (e : Husk ≡ Live). cc), (λ (e : Husk ≡ Ended). cc)))

module _ (p : Plain) (views : List View) (left : IsLeft p views) where
  pub owned_all : (s : SlotId)
      → over_seats (λ v. times s v.owned) p.seats ≡ times s (seat_at p 0).owned
  owned_all s = seats_root (λ v. times s v.owned) p.seats (times_none s)
      (λ n some. ap (times s) (left.owns.others n some) ∙ times_none s)

  pub no_cell : (s : SlotId) → cell_times s p.cells ≡ 0
  no_cell s = null_cells s p.cells left.cells

  pub no_deferral : (k : Kind) (s : SlotId) → deferrals k p s ≡ 0
  no_deferral k s = seats_none (λ v. entry_times k s v.deferred) p.seats
      (λ n. ap (entry_times k s) (left.rests.seats n).deferred ∙ entry_none k s)

  no_dying : (s : SlotId) → dying_times p s ≡ 0
  no_dying s = seats_none (λ v. times s v.dying) p.seats
      (λ n. ap (times s) (left.rests.seats n).dying ∙ times_none s)

  pub refs_are : (s : SlotId)
      → strong_refs p s ≡ times s (seat_at p 0).owned + over_slots (strong_fields s) p.slots
  refs_are s = omega (arith, owned_all s, no_cell s, no_deferral Strong s)

  -- a slot with a strong field that isn't null lives
  field_lives : (t s : SlotId) → Lawful p → 0 < strong_fields s (slot_at p t) → stage_at p t ≡ Live
  field_lives t s lawful some = ⊎_elim
      (λ (live : stage_at p t ≡ Live). live)
      (λ other. ⊎_elim
      (λ (ended : stage_at p t ≡ Ended).
      let dies = (lawful.dying t).0 ended in
      let none = no_dying t in absurd (omega arith))
      (λ vacant.
      let null = lawful.nulls t vacant in
      let first = ap (held_in s) null.0 in
      let second = ap (held_in s) null.1 in
      let none = held_none s in absurd (omega arith))
      other)
      (stage_cases (stage_at p t))

  -- what a field holds, a slot that lives leads to
  pub referrer : (s : SlotId) → Lawful p → 0 < over_slots (strong_fields s) p.slots
      → (t : SlotId) × (stage_at p t ≡ Live)
      × (((slot_at p t).first ≡ Some s) ⊎ ((slot_at p t).second ≡ Some s))
  referrer s lawful some =
      let r = some_slot (strong_fields s) p.slots some in
      let t : SlotId = record { 0 = r.0 } in (
        t,
        field_lives t s lawful r.1,
        ⊎_elim
            (λ (none : held_in s (slot_at p t).first ≡ 0).
            let has = r.1 in inr (held_some s (slot_at p t).second (omega arith)))
            (λ (has : 0 < held_in s (slot_at p t).first). inl (held_some s (slot_at p t).first has))
            (none_or_some (held_in s (slot_at p t).first)),
      )
