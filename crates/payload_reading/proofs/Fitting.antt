-- The payload of an object whose fields a seat may read fits.
use Rattle.std.proofs.Common.{◌≡◌, ◌⊎◌, ⊎_elim, inl, inr, ℕ, ◌+◌, ◌<◌, true, List, subst, sym, ◌∙◌, arith}
use Rattle.std.proofs.lemmas.Bool.{cases_lt}
use Rattle.std.proofs.lemmas.Bool.Decides.{nat_tests}
use Rattle.protocol_pairs.specs.plain_state.declared.act.PlainAct.{PlainAct}
use Rattle.protocol_pairs.specs.plain_state.declared.slot.Kind.TheVariants.{Disposal}
use Rattle.protocol_pairs.specs.plain_state.declared.slot.SlotId.{SlotId}
use Rattle.protocol_pairs.specs.plain_state.declared.slot.Stage.TheVariants.{Ended, Live}
use Rattle.protocol_pairs.specs.plain_state.Lists.{entry_times}
use Rattle.protocol_pairs.specs.plain_state.State.{Plain, stage_at}
use Rattle.protocol_pairs.specs.plain_protocol.Owns.{Object, OwnPart}
use Rattle.claim_law.specs.core_events.declared.act.Act.{Act}
use Rattle.claim_law.specs.core_events.declared.shape.Shape.{Shape}
use Rattle.claim_law.specs.core_events.declared.view.CoreView.{CoreView}
use Rattle.claim_law.specs.core_events.Counts.{Signs, barers, dying_times, fillers, free_bit, is_live_word, stage, stage_of, strong}
use Rattle.claim_law.specs.core_events.Runs.{Core, view_at}
use Rattle.claim_law.specs.core_events.Shows.{shows}
use Rattle.claim_law.specs.core_events.Views.{CanReadFields, Holds, Terms, snapshots}
use Rattle.claim_law.specs.core_law.Sound.{Sound}
use Rattle.claim_law.proofs.Below.core_law_Bridge.{shown_stage}
use Rattle.claim_law.proofs.Below.core_law_Held.{disposal_stands, held_taken}
use Rattle.claim_law.proofs.Below.core_law_Lawful.{shows_lawful}
use Rattle.slot_store.specs.domain_rule.declared.view.SeatView.{SeatView}
use Rattle.slot_store.specs.domain_rule.Told.{Told}
use Rattle.slot_store.specs.domain_rule.Views.{object_in}
use Rattle.slot_store.proofs.Below.control_word_Finding.{sound_before, strong_some}
use Rattle.slot_store.proofs.Telling.{holds_has, slot_there}

-- a slot that nobody claims, and that lives by its word or is to be destroyed, is Live or Ended
stands : (g : Signs) → g.bit ≡ 0 → g.claimers ≡ 0 → (is_live_word g.strong ≡ true) ⊎ (0 < g.dying)
    → (stage_of g ≡ Live) ⊎ (stage_of g ≡ Ended)
unfolding stage_of
stands g bit none still = grind (arith, nat_tests)

-- so is one that a seat is under a weak snapshot of
weakly : (z : Shape) (c : Core) (n : ℕ) (s : SlotId) → Sound z c → n < z.seats → s.0 < z.slots
    → 0 < entry_times Disposal s (snapshots (view_at c n))
    → (stage z c s ≡ Live) ⊎ (stage z c s ≡ Ended)
weakly z c n s so seat there under =
    let none = held_taken z c n s so seat there (omega arith) in
    stands (record {
      bit = free_bit z c s;
      claimers = barers c s + fillers c s;
      dying = dying_times c s;
      strong = strong z c s;
    }) (omega arith) (omega arith) (disposal_stands z c n s so seat under)

module _ {V : Type 0} {fits : List ℕ → Type 0} {z : Shape} {ts : Terms}
    {next : OwnPart → OwnPart → V → PlainAct → ℕ → V}
    {allows : Plain → Plain → ℕ → V → V → Type 0} {a : Act} {v v' : SeatView V} {w : ℕ}
    (told : Told fits z ts next allows a v w v') (s : SlotId) (reads : CanReadFields v.core s) where
  held : Holds v.core s
  held = omega (arith, reads)

  there : s.0 < z.slots
  there = slot_there told s (holds_has v.core s held)

  seated : v.core.seat < z.seats
  seated = let views = (sound_before told).views in let here = told.happened.enabled.0 in omega arith

  here : (stage_at (shows z told.happened.before) s ≡ Live)
      ⊎ (stage_at (shows z told.happened.before) s ≡ Ended)
  here =
      ⊎_elim
      (λ (some : 0 < entry_times Disposal s (snapshots v.core)).
      let same = shown_stage z told.happened.before s there in
      ⊎_elim (λ live. inl (same ∙ live)) (λ ended. inr (same ∙ ended))
      (weakly z told.happened.before v.core.seat s (sound_before told) seated there
      (subst (λ (u : CoreView). 0 < entry_times Disposal s (snapshots u)) told.happened.view some)))
      (λ none. inl ((shows_lawful z told.happened.before (sound_before told)).strong s
      (strong_some told s (omega (arith, reads, none)))).0)
      (cases_lt 0 (entry_times Disposal s (snapshots v.core)))

  pub fits_told : fits (object_in v s).payload
  fits_told =
      subst (λ (o : Object). fits o.payload) (sym (told.said.objects s (holds_has v.core s held)))
      (told.happened.fact.0 s here)
