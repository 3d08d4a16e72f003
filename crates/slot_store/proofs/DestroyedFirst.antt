-- A step that destroys an object is the first event that does.
use Rattle.std.proofs.Common.{◌≡◌, ℕ, ◌+◌, ◌<◌, List, refl, ap, sym, subst, arith}
use Rattle.std.proofs.lemmas.Bool.{eq-eqb}
use Rattle.protocol_pairs.specs.plain_state.declared.act.PlainAct.{PlainAct}
use Rattle.protocol_pairs.specs.plain_state.declared.slot.PlainSlot.{PlainSlot}
use Rattle.protocol_pairs.specs.plain_state.declared.slot.SlotId.{SlotId}
use Rattle.protocol_pairs.specs.plain_state.Lists.{times}
use Rattle.protocol_pairs.specs.plain_state.State.{Plain}
use Rattle.protocol_pairs.specs.plain_protocol.Owns.{HasSlot, Object, OwnPart}
use Rattle.claim_law.specs.core_events.declared.act.Act.TheVariants as act
use Rattle.claim_law.specs.core_events.declared.shape.Shape.{Shape}
use Rattle.claim_law.specs.core_events.declared.view.CoreView.{CoreView}
use Rattle.claim_law.specs.core_events.Counts.{stage}
use Rattle.claim_law.specs.core_events.Runs.{Core, view_at}
use Rattle.claim_law.specs.core_events.Shows.{show_seat}
use Rattle.claim_law.specs.core_events.Views.{Terms}
use Rattle.claim_law.specs.core_promises.Destroyed.{destroyed, destroys}
use Rattle.claim_law.proofs.Below.core_law_Bridge.{shown_slot}
use Rattle.claim_law.proofs.Below.core_promises_Destroys.{destroyed_once}
use Rattle.retiring_stores.specs.domain_rule.declared.view.SeatView.{SeatView}
use Rattle.retiring_stores.specs.domain_rule.Told.{Told}
use Rattle.retiring_stores.specs.domain_rule.Views.{object_in}
use Rattle.retiring_stores.proofs.Below.control_word_Finding.{sound_before}
use Rattle.retiring_stores.proofs.Below.domain_rule_Others.{has_there}
use Rattle.slot_store.proofs.Objects.{stands_still, standing_most}
use Rattle.slot_store.proofs.Passing.{listed_has}

module _ {V : Type 0} {fits : List ℕ → Type 0} {z : Shape} {ts : Terms}
    {next : OwnPart → OwnPart → V → PlainAct → ℕ → V}
    {allows : Plain → Plain → ℕ → V → V → Type 0} {v v' : SeatView V} {w : ℕ} (s : SlotId)
    (told : Told fits z ts next allows (act.Destroy s) v w v') where
  c : Core
  c = told.happened.before

  in_views : v.core.seat < z.seats
  in_views =
      let views = (sound_before told).views in
      let there = told.happened.enabled.0 in omega arith

  -- the slot is one that the seat has
  has : HasSlot (show_seat (view_at told.happened.before v.core.seat)) s
  has =
      let u = view_at told.happened.before v.core.seat in
      let ripe = told.happened.enabled.1.1 in
      let dying = ((sound_before told).seats v.core.seat in_views).ripe s in
      listed_has u s (omega arith)

  there : s.0 < z.slots
  there = has_there z told.happened.before (sound_before told) v.core.seat s
      told.happened.enabled.0 has

  itself : destroys s (act.Destroy s) ≡ 1
  itself = rw (eq-eqb s.0 s.0 refl) refl

  pub destroyed_first : destroyed s told.happened.events + 1 ≡ (object_in v s).life
  destroyed_first =
      let h = told.happened in
      let once = destroyed_once z s there ts h.events h.before h.shape h.terms h.history in
      let one = itself in
      let stands = stands_still told s there tt in
      let most = standing_most (stage z told.happened.before s) in
      let mine = subst (λ (u : CoreView). HasSlot (show_seat u) s) (sym h.view) has in
      let life = ap (λ (o : Object). o.life) (told.said.objects s mine) in
      let is = ap (λ (x : PlainSlot). x.life) (shown_slot z told.happened.before s there) in
      omega arith
